-- `meets` meets its contract.
use mathlib.Core.Path.{refl, sym, ◌∙◌}
use native.Mathlib.Omega.{arith}
use Rattle.json_check.proofs.MarkLaws.{name_told, opens_told, closes_told, none_told}
use Rattle.json_check.proofs.StackLaws as stack
use Rattle.json_check.proofs.NameLaws as law
use Rattle.json_check.proofs.names.meets.Goals as goal

pub pairs-init : goal.pairs-init
pairs-init c = (c.requires.1, refl, law.meeting_start _ _ c.requires.0)

pub loop-i-init : goal.loop-i-init
loop-i-init c = (omega arith, stack.held_low (law.meeting_holds c.pairs.invariant.2 c.requires.2), stack.without_start _)

pub same_by_fingerprint-requires : goal.same_by_fingerprint-requires
same_by_fingerprint-requires c =
    (c.fingerprint-print.ensures, rw c.pairs.invariant.1 (stack.held_print (law.meeting_holds c.pairs.invariant.2 c.requires.2) _ c.loop-i.invariant.0 c.loop-i-test.true))

pub loop-i-preserved : goal.loop-i-preserved
loop-i-preserved c =
    (omega (arith, c.loop-i.invariant.0), omega (arith, c.loop-i-test.true), stack.without_next c.loop-i.invariant.2 c.loop-i.invariant.0 (rw (sym c.pairs.invariant.1) (sym c.same_by_fingerprint.ensures ∙ c.if-same_by_fingerprint.false)))

pub pairs-smaller-after-loop-i : goal.pairs-smaller-after-loop-i
pairs-smaller-after-loop-i c = let h = (name_told _ _ c.next_mark.ensures c.in-Some-Name.is c.in-Some-Name.field-0-is).shows in omega (arith, h.later, h.high)

pub pairs-preserved-after-loop-i : goal.pairs-preserved-after-loop-i
pairs-preserved-after-loop-i c =
    (c.pairs.invariant.0, c.pairs.invariant.1, law.meeting_name c.pairs.invariant.2 (name_told _ _ c.next_mark.ensures c.in-Some-Name.is c.in-Some-Name.field-0-is) c.if-inner-eq0.true (stack.without_all c.loop-i.invariant c.loop-i-test.false))

pub pairs-smaller-else-inner-eq0 : goal.pairs-smaller-else-inner-eq0
pairs-smaller-else-inner-eq0 c = let h = (name_told _ _ c.next_mark.ensures c.in-Some-Name.is c.in-Some-Name.field-0-is).shows in omega (arith, h.later, h.high)

pub pairs-preserved-else-inner-eq0 : goal.pairs-preserved-else-inner-eq0
pairs-preserved-else-inner-eq0 c =
    (c.pairs.invariant.0, c.pairs.invariant.1, law.meeting_inner c.pairs.invariant.2 (name_told _ _ c.next_mark.ensures c.in-Some-Name.is c.in-Some-Name.field-0-is) c.if-inner-eq0.false)

pub pairs-smaller-in-Some-Opens : goal.pairs-smaller-in-Some-Opens
pairs-smaller-in-Some-Opens c = let h = opens_told _ _ c.next_mark.ensures c.in-Some-Opens.is c.in-Some-Opens.field-0-is in omega (arith, h.later, h.high)

pub pairs-preserved-in-Some-Opens : goal.pairs-preserved-in-Some-Opens
pairs-preserved-in-Some-Opens c =
    (c.pairs.invariant.0, c.pairs.invariant.1, law.meeting_opens c.pairs.invariant.2 (opens_told _ _ c.next_mark.ensures c.in-Some-Opens.is c.in-Some-Opens.field-0-is))

pub close-requires : goal.close-requires
close-requires c = omega (arith, stack.held_low (law.meeting_holds c.pairs.invariant.2 c.requires.2), c.pairs.invariant.0)

pub pairs-smaller-then-inner-gt0 : goal.pairs-smaller-then-inner-gt0
pairs-smaller-then-inner-gt0 c = let h = closes_told _ _ c.next_mark.ensures c.in-Some-Closes.is c.in-Some-Closes.field-0-is in omega (arith, h.later, h.high)

pub pairs-preserved-then-inner-gt0 : goal.pairs-preserved-then-inner-gt0
pairs-preserved-then-inner-gt0 c =
    (c.pairs.invariant.0, c.pairs.invariant.1, law.meeting_out c.pairs.invariant.2 (closes_told _ _ c.next_mark.ensures c.in-Some-Closes.is c.in-Some-Closes.field-0-is) (λ z. absurd (omega (arith, c.if-inner-gt0.true))))

pub pairs-smaller : goal.pairs-smaller
pairs-smaller c = let h = closes_told _ _ c.next_mark.ensures c.in-Some-Closes.is c.in-Some-Closes.field-0-is in omega (arith, h.later, h.high)

pub pairs-preserved : goal.pairs-preserved
pairs-preserved c = (
  omega (arith, c.close.ensures.2, stack.held_low (law.meeting_holds c.pairs.invariant.2 c.requires.2), c.pairs.invariant.0),
  c.close.ensures.0 ∙ c.pairs.invariant.1,
  rw (c.close.ensures.1, c.close.ensures.2, c.pairs.invariant.1) (law.meeting_closes c.pairs.invariant.2 (closes_told _ _ c.next_mark.ensures c.in-Some-Closes.is c.in-Some-Closes.field-0-is) (omega (arith, c.if-inner-gt0.false))),
)

pub returns-in-None : goal.returns-in-None
returns-in-None c = law.meeting_last c.pairs.invariant.2 (none_told _ _ c.next_mark.ensures c.in-None.is)

pub returns : goal.returns
returns c =
    law.meeting_found c.pairs.invariant.2 (name_told _ _ c.next_mark.ensures c.in-Some-Name.is c.in-Some-Name.field-0-is) c.if-inner-eq0.true _
    c.loop-i.invariant.0 c.loop-i-test.true (rw (sym c.pairs.invariant.1) (sym c.same_by_fingerprint.ensures ∙ c.if-same_by_fingerprint.true))
