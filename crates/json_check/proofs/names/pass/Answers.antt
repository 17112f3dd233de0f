-- `pass` meets its contract.
use mathlib.Core.Path.{sym, ◌∙◌}
use native.Mathlib.Omega.{arith}
use Rattle.json_check.proofs.MarkLaws.{name_told, opens_told, closes_told, none_told}
use Rattle.json_check.proofs.StackLaws as stack
use Rattle.json_check.proofs.NameLaws as law
use Rattle.json_check.proofs.names.pass.Goals as goal

pub pairs-init : goal.pairs-init
pairs-init c = (omega (arith, c.new-names.ensures.1), rw (c.new-names.ensures.0, c.new-names.ensures.1) (law.filling_start _ c.requires))

pub returns-then-meets : goal.returns-then-meets
returns-then-meets c = law.filling_met c.pairs.invariant.1 c.meets.ensures c.if-meets.true

pub returns-then-names-eq64 : goal.returns-then-names-eq64
returns-then-names-eq64 c = law.filling_past c.pairs.invariant.1 c.meets.ensures c.if-meets.false (omega (arith, c.if-names-eq64.true))

pub loop-i-init : goal.loop-i-init
loop-i-init c = (omega arith, stack.held_low c.pairs.invariant.1.holds, stack.without_start _)

pub same_by_fingerprint-requires : goal.same_by_fingerprint-requires
same_by_fingerprint-requires c =
    (c.fingerprint-print.ensures, stack.held_print c.pairs.invariant.1.holds _ c.loop-i.invariant.0 c.loop-i-test.true)

pub loop-i-preserved : goal.loop-i-preserved
loop-i-preserved c =
    (omega (arith, c.loop-i.invariant.0), omega (arith, c.loop-i-test.true), stack.without_next c.loop-i.invariant.2 c.loop-i.invariant.0 (sym c.same_by_fingerprint.ensures ∙ c.if-same_by_fingerprint.false))

pub pairs-smaller-in-Some-Name : goal.pairs-smaller-in-Some-Name
pairs-smaller-in-Some-Name c = let h = (name_told _ _ c.next_mark.ensures c.in-Some-Name.is c.in-Some-Name.field-0-is).shows in omega (arith, h.later, h.high)

pub pairs-preserved-in-Some-Name : goal.pairs-preserved-in-Some-Name
pairs-preserved-in-Some-Name c = (
  omega (arith, c.keep.ensures.2, c.pairs.invariant.0, c.if-names-eq64.false),
  rw (c.keep.ensures.0, c.keep.ensures.1, c.keep.ensures.2) (law.filling_name c.pairs.invariant.1 (name_told _ _ c.next_mark.ensures c.in-Some-Name.is c.in-Some-Name.field-0-is) _ (stack.without_all c.loop-i.invariant c.loop-i-test.false) c.fingerprint-print.ensures
      (omega (arith, c.if-names-eq64.false, c.pairs.invariant.0, c.pairs.names.size))),
)

pub pairs-smaller-in-Some-Opens : goal.pairs-smaller-in-Some-Opens
pairs-smaller-in-Some-Opens c = let h = opens_told _ _ c.next_mark.ensures c.in-Some-Opens.is c.in-Some-Opens.field-0-is in omega (arith, h.later, h.high)

pub pairs-preserved-in-Some-Opens : goal.pairs-preserved-in-Some-Opens
pairs-preserved-in-Some-Opens c = (
  omega (arith, c.open.ensures.2, c.pairs.invariant.0, c.if-names-eq64.false),
  rw (c.open.ensures.0, c.open.ensures.1, c.open.ensures.2) (law.filling_opens c.pairs.invariant.1 (opens_told _ _ c.next_mark.ensures c.in-Some-Opens.is c.in-Some-Opens.field-0-is)
      (omega (arith, c.if-names-eq64.false, c.pairs.invariant.0, c.pairs.names.size))),
)

pub close-requires : goal.close-requires
close-requires c = omega (arith, stack.held_low c.pairs.invariant.1.holds, c.pairs.invariant.0)

pub pairs-smaller : goal.pairs-smaller
pairs-smaller c = let h = closes_told _ _ c.next_mark.ensures c.in-Some-Closes.is c.in-Some-Closes.field-0-is in omega (arith, h.later, h.high)

pub pairs-preserved : goal.pairs-preserved
pairs-preserved c = (
  omega (arith, c.close.ensures.2, stack.held_low c.pairs.invariant.1.holds, c.pairs.invariant.0),
  rw (c.close.ensures.0, c.close.ensures.1, c.close.ensures.2) (law.filling_closes c.pairs.invariant.1 (closes_told _ _ c.next_mark.ensures c.in-Some-Closes.is c.in-Some-Closes.field-0-is)),
)

pub returns-in-None : goal.returns-in-None
returns-in-None c = law.filling_last c.pairs.invariant.1 (none_told _ _ c.next_mark.ensures c.in-None.is)

pub returns : goal.returns
returns c =
    law.filling_found c.pairs.invariant.1 (name_told _ _ c.next_mark.ensures c.in-Some-Name.is c.in-Some-Name.field-0-is) _ c.loop-i.invariant.0 c.loop-i-test.true
    (sym c.same_by_fingerprint.ensures ∙ c.if-same_by_fingerprint.true)
