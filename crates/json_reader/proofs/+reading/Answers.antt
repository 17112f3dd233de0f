-- The readers that call one another meet their contracts.
use mathlib.Core.Path.{sym, ◌∙◌}
use native.Mathlib.Omega.{arith}
use Rattle.json_tokens.specs.TokenLaws.{skips}
use Rattle.json_reader.specs.ReadLaws.{bare_is}
use Rattle.json_tokens.specs.EndsLaws.{ended, bounds}
use Rattle.json_reader.proofs.CycleLaws as law
use Rattle.json_grammar_rules.proofs.Sequences as seq
use Rattle.json_reader.proofs.+reading.Goals as goal

pub arrays::array-returns-then-depth-eq0 : goal.arrays::array-returns-then-depth-eq0
arrays::array-returns-then-depth-eq0 t c = law.opened_deep seq.elements _ c.if-depth-eq0.true

pub arrays::array-returns-then-at-s : goal.arrays::array-returns-then-at-s
arrays::array-returns-then-at-s t c = law.opened_out seq.elements _ c.if-depth-eq0.false (skips c.skip_ws-at.ensures) c.if-at-s.true

pub arrays::array-returns-then-s-at-eq93 : goal.arrays::array-returns-then-s-at-eq93
arrays::array-returns-then-s-at-eq93 t c = law.opened_empty seq.elements _ c.if-depth-eq0.false (skips c.skip_ws-at.ensures) c.if-at-s.false c.if-s-at-eq93.true

pub arrays::array-elements-requires : goal.arrays::array-elements-requires
arrays::array-elements-requires t c = omega (arith, (skips c.skip_ws-at.ensures).low)

pub arrays::array-returns : goal.arrays::array-returns
arrays::array-returns t c = law.opened_some seq.elements _ c.if-depth-eq0.false (skips c.skip_ws-at.ensures) c.if-at-s.false c.if-s-at-eq93.false c.elements.ensures

pub arrays::elements-loop-e-init : goal.arrays::elements-loop-e-init
arrays::elements-loop-e-init t c = (omega arith, λ r h. h)

pub arrays::elements-returns-in_err-e : goal.arrays::elements-returns-in_err-e
arrays::elements-returns-in_err-e t c = rw c.from_residual.ensures (c.loop-e.invariant.1 _ (law.list_bad seq.elements _ (ended c.in_err-e.was c.value.ensures)))

pub arrays::elements-returns-then-e-s : goal.arrays::elements-returns-then-e-s
arrays::elements-returns-then-e-s t c = c.loop-e.invariant.1 _ (law.list_out seq.elements _ (ended c.in_ok-e.was c.value.ensures) c.if-e-s.true)

pub arrays::elements-returns-then-b-eq93 : goal.arrays::elements-returns-then-b-eq93
arrays::elements-returns-then-b-eq93 t c = c.loop-e.invariant.1 _ (law.list_close seq.elements _ (ended c.in_ok-e.was c.value.ensures) c.if-e-s.false c.if-b-eq93.true)

pub arrays::elements-returns-then-b-ne44 : goal.arrays::elements-returns-then-b-ne44
arrays::elements-returns-then-b-ne44 t c = c.loop-e.invariant.1 _ (law.list_other seq.elements _ (ended c.in_ok-e.was c.value.ensures) c.if-e-s.false c.if-b-eq93.false c.if-b-ne44.true)

pub arrays::elements-loop-e-smaller : goal.arrays::elements-loop-e-smaller
arrays::elements-loop-e-smaller t c = omega (arith, (bounds (ended c.in_ok-e.was c.value.ensures)).0)

pub arrays::elements-loop-e-preserved : goal.arrays::elements-loop-e-preserved
arrays::elements-loop-e-preserved t c = let k = ended c.in_ok-e.was c.value.ensures in (omega (arith, (bounds k).0), λ r h. c.loop-e.invariant.1 r (law.elements_comma _ k c.if-e-s.false c.if-b-ne44.false h))

pub objects::after_name-returns-then-at-s : goal.objects::after_name-returns-then-at-s
objects::after_name-returns-then-at-s t c = law.colon_out _ (skips c.skip_ws-at.ensures) c.if-at-s.true

pub objects::after_name-returns-then-s-at-ne58 : goal.objects::after_name-returns-then-s-at-ne58
objects::after_name-returns-then-s-at-ne58 t c = law.colon_other _ (skips c.skip_ws-at.ensures) c.if-at-s.false c.if-s-at-ne58.true

pub objects::after_name-value-requires : goal.objects::after_name-value-requires
objects::after_name-value-requires t c = omega (arith, (skips c.skip_ws-at.ensures).low)

pub objects::after_name-returns : goal.objects::after_name-returns
objects::after_name-returns t c = law.colon_is _ (skips c.skip_ws-at.ensures) c.if-at-s.false c.if-s-at-ne58.false c.value.ensures

pub objects::member-returns-then-from-s : goal.objects::member-returns-then-from-s
objects::member-returns-then-from-s t c = law.member_out _ c.if-from-s.true

pub objects::member-returns-then-s-from-ne34 : goal.objects::member-returns-then-s-from-ne34
objects::member-returns-then-s-from-ne34 t c = law.member_no_quote _ c.if-from-s.false c.if-s-from-ne34.true

pub objects::member-after_name-requires : goal.objects::member-after_name-requires
objects::member-after_name-requires t c = omega (arith, law.string_bounds _ _ _ (rw c.in_ok-q.was at c.string_end.ensures))

pub objects::member-returns : goal.objects::member-returns
objects::member-returns t c = law.member_is _ c.if-from-s.false c.if-s-from-ne34.false (rw c.in_ok-q.was at c.string_end.ensures) c.after_name.ensures

pub objects::member-returns-in_err-q : goal.objects::member-returns-in_err-q
objects::member-returns-in_err-q t c = rw c.from_residual.ensures (law.member_name_bad _ c.if-from-s.false c.if-s-from-ne34.false (rw c.in_err-q.was at c.string_end.ensures))

pub objects::member_list-loop-e-init : goal.objects::member_list-loop-e-init
objects::member_list-loop-e-init t c = (omega arith, λ r h. h)

pub objects::member_list-returns-in_err-e : goal.objects::member_list-returns-in_err-e
objects::member_list-returns-in_err-e t c = rw c.from_residual.ensures (c.loop-e.invariant.1 _ (law.list_bad seq.members _ (ended c.in_err-e.was c.member.ensures)))

pub objects::member_list-returns-then-e-s : goal.objects::member_list-returns-then-e-s
objects::member_list-returns-then-e-s t c = c.loop-e.invariant.1 _ (law.list_out seq.members _ (ended c.in_ok-e.was c.member.ensures) c.if-e-s.true)

pub objects::member_list-returns-then-b-eq125 : goal.objects::member_list-returns-then-b-eq125
objects::member_list-returns-then-b-eq125 t c = c.loop-e.invariant.1 _ (law.list_close seq.members _ (ended c.in_ok-e.was c.member.ensures) c.if-e-s.false c.if-b-eq125.true)

pub objects::member_list-returns-then-b-ne44 : goal.objects::member_list-returns-then-b-ne44
objects::member_list-returns-then-b-ne44 t c = c.loop-e.invariant.1 _ (law.list_other seq.members _ (ended c.in_ok-e.was c.member.ensures) c.if-e-s.false c.if-b-eq125.false c.if-b-ne44.true)

pub objects::member_list-loop-e-smaller : goal.objects::member_list-loop-e-smaller
objects::member_list-loop-e-smaller t c = omega (arith, (bounds (ended c.in_ok-e.was c.member.ensures)).0, (skips c.skip_ws-at.ensures).low)

pub objects::member_list-loop-e-preserved : goal.objects::member_list-loop-e-preserved
objects::member_list-loop-e-preserved t c = let k = ended c.in_ok-e.was c.member.ensures in let w = skips c.skip_ws-at.ensures in (omega (arith, (bounds k).0, w.low), λ r h. c.loop-e.invariant.1 r (law.members_comma _ k c.if-e-s.false c.if-b-ne44.false w h))

pub objects::object-returns-then-depth-eq0 : goal.objects::object-returns-then-depth-eq0
objects::object-returns-then-depth-eq0 t c = law.opened_deep seq.members _ c.if-depth-eq0.true

pub objects::object-returns-then-at-s : goal.objects::object-returns-then-at-s
objects::object-returns-then-at-s t c = law.opened_out seq.members _ c.if-depth-eq0.false (skips c.skip_ws-at.ensures) c.if-at-s.true

pub objects::object-returns-then-s-at-eq125 : goal.objects::object-returns-then-s-at-eq125
objects::object-returns-then-s-at-eq125 t c = law.opened_empty seq.members _ c.if-depth-eq0.false (skips c.skip_ws-at.ensures) c.if-at-s.false c.if-s-at-eq125.true

pub objects::object-member_list-requires : goal.objects::object-member_list-requires
objects::object-member_list-requires t c = omega (arith, (skips c.skip_ws-at.ensures).low)

pub objects::object-returns : goal.objects::object-returns
objects::object-returns t c = law.opened_some seq.members _ c.if-depth-eq0.false (skips c.skip_ws-at.ensures) c.if-at-s.false c.if-s-at-eq125.false c.member_list.ensures

pub values::value-bare-requires : goal.values::value-bare-requires
values::value-bare-requires t c = omega (arith, (skips c.skip_ws-at.ensures).low)

pub values::value-returns : goal.values::value-returns
values::value-returns t c = law.value_is _ (skips c.skip_ws-at.ensures) (sym c.in_ok-e.was ∙ c.bare.ensures) (skips c.skip_ws.ensures)

pub values::value-returns-in_err-e : goal.values::value-returns-in_err-e
values::value-returns-in_err-e t c = rw c.from_residual.ensures (law.value_bad _ (skips c.skip_ws-at.ensures) (sym c.in_err-e.was ∙ c.bare.ensures))

pub values::bare-returns-then-at-s : goal.values::bare-returns-then-at-s
values::bare-returns-then-at-s t c = bare_is _ (law.bare_out _ c.if-at-s.true)

pub values::bare-returns-in-34 : goal.values::bare-returns-in-34
values::bare-returns-in-34 t c = bare_is _ (law.bare_string _ c.if-at-s.false c.in-34.is c.string_end.ensures)

pub values::bare-returns-in-91 : goal.values::bare-returns-in-91
values::bare-returns-in-91 t c = bare_is _ (law.bare_array _ c.if-at-s.false c.in-91.is c.array.ensures)

pub values::bare-returns-in-123 : goal.values::bare-returns-in-123
values::bare-returns-in-123 t c = bare_is _ (law.bare_object _ c.if-at-s.false c.in-123.is c.object.ensures)

pub values::bare-returns-in-116 : goal.values::bare-returns-in-116
values::bare-returns-in-116 t c = bare_is _ (law.bare_true _ c.if-at-s.false c.in-116.is c.word_end.ensures)

pub values::bare-returns-in-102 : goal.values::bare-returns-in-102
values::bare-returns-in-102 t c = bare_is _ (law.bare_false _ c.if-at-s.false c.in-102.is c.word_end-in-102.ensures)

pub values::bare-returns-in-110 : goal.values::bare-returns-in-110
values::bare-returns-in-110 t c = bare_is _ (law.bare_null _ c.if-at-s.false c.in-110.is c.word_end-in-110.ensures)

pub values::bare-returns-in_default : goal.values::bare-returns-in_default
values::bare-returns-in_default t c = bare_is _ (law.bare_number _ c.if-at-s.false (λ e. omega arith) (λ e. omega arith) (λ e. omega arith) (λ e. omega arith) (λ e. omega arith) (λ e. omega arith) c.number_end.ensures)
