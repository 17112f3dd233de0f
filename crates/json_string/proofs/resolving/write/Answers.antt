-- `write` meets its contract. The loop's invariant: the octets of the characters passed are at the front.
use mathlib.Core.Path.{refl, sym, ap, ◌∙◌}
use native.Mathlib.Omega.{arith}
use mathlib.Core.List.{[]}
use lib.ListN.{length}
use Rattle.json_characters.specs.CharacterLaws.{scanned, char_after, char_most, plain_octets}
use Rattle.json_string.specs.TextLaws.{text_out, text_wrong_lem, text_step, text_plain}
use Rattle.json_characters.specs.Octets.{octets_in_lem}
use Rattle.json_string.proofs.OctetLaws.{prefix_fits}
use Rattle.json_string.proofs.WriteLaws.{writes_none, writes_all, writes_long, writes_more, writes_one}
use Rattle.json_string.proofs.resolving.write.Goals as goal

pub loop-i-init : goal.loop-i-init
loop-i-init c = record { w = []; front = record { size = refl; buffer = refl }; within = omega arith; long = refl; whole = λ r new h. h }

pub returns-then-b-eq34 : goal.returns-then-b-eq34
returns-then-b-eq34 c = writes_all c.loop-i.invariant c.loop-i-test.true c.if-b-eq34.true

pub returns-then-out-n : goal.returns-then-out-n
returns-then-out-n c =
    let p = sym c.is_unescaped1.ensures ∙ c.if-is_unescaped1.true in
    writes_long c.loop-i.invariant _ _ (text_plain _ _ c.loop-i-test.true _ p refl) 1 (sym (ap length (plain_octets _ p))) (omega (arith, c.if-out-n.true))

pub loop-i-preserved-then-is_unescaped1 : goal.loop-i-preserved-then-is_unescaped1
loop-i-preserved-then-is_unescaped1 c =
    let p = sym c.is_unescaped1.ensures ∙ c.if-is_unescaped1.true in
    writes_one c.loop-i.invariant _ _ (text_plain _ _ c.loop-i-test.true _ p refl) (plain_octets _ p) c.if-out-n.false

pub returns-in_err-c : goal.returns-in_err-c
returns-in_err-c c =
    rw c.from_residual.ensures (writes_none c.loop-i.invariant (text_wrong_lem _ _ c.loop-i-test.true c.if-b-eq34.false (scanned _ _ _ _ c.char_at.ensures c.in_err-c.was)))

pub octets_of-o-requires : goal.octets_of-o-requires
octets_of-o-requires c = char_most _ _ _ _ (scanned _ _ _ _ c.char_at.ensures c.in_ok-c.was)

pub returns-then-out-n-2 : goal.returns-then-out-n-2
returns-then-out-n-2 c =
    writes_long c.loop-i.invariant _ _ (text_step _ _ c.loop-i-test.true c.if-b-eq34.false _ _ (scanned _ _ _ _ c.char_at.ensures c.in_ok-c.was)) _ (octets_in_lem c.octets_of-o.ensures).long c.if-out-n-2.true

pub slice_bounds-bytes-end : goal.slice_bounds-bytes-end
slice_bounds-bytes-end c =
    prefix_fits _ _ _ (octets_in_lem c.octets_of-o.ensures).are (octets_in_lem c.octets_of-o.ensures).long

pub slice_bounds-copy_at-end : goal.slice_bounds-copy_at-end
slice_bounds-copy_at-end c =
    (octets_in_lem c.octets_of-o.ensures).long ∙ sym (ap length (octets_in_lem c.octets_of-o.ensures).are)

pub copy_at-requires : goal.copy_at-requires
copy_at-requires c =
    omega (arith, (octets_in_lem c.octets_of-o.ensures).long, ap length (octets_in_lem c.octets_of-o.ensures).are)

pub loop-i-smaller : goal.loop-i-smaller
loop-i-smaller c =
    omega (arith, c.loop-i-test.true, char_after _ _ _ _ (scanned _ _ _ _ c.char_at.ensures c.in_ok-c.was))

pub loop-i-preserved : goal.loop-i-preserved
loop-i-preserved c =
    let o = octets_in_lem c.octets_of-o.ensures in
    writes_more c.loop-i.invariant _ _ (text_step _ _ c.loop-i-test.true c.if-b-eq34.false _ _ (scanned _ _ _ _ c.char_at.ensures c.in_ok-c.was)) _ _ _ o.are o.long c.if-out-n-2.false c.copy_at.ensures

pub returns : goal.returns
returns c = writes_none c.loop-i.invariant (text_out _ _ c.loop-i-test.false)
