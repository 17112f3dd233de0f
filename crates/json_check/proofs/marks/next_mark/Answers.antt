-- `next_mark` meets its contract.
use native.Mathlib.Omega.{arith}
use Rattle.json_string.specs.StringLaws.{stringed}
use Rattle.json_check.proofs.MarkLaws as law
use Rattle.json_check.proofs.marks.next_mark.Goals as goal

pub loop-at-init : goal.loop-at-init
loop-at-init c = (omega arith, omega arith, λ r h. h)

pub returns-in_err-e : goal.returns-in_err-e
returns-in_err-e c =
    rw c.from_residual.ensures (c.loop-at.invariant.2 _ (law.broken _ _ c.loop-at-test.true c.if-b-eq34.true (stringed _ _ c.in_err-e.was c.string_end.ensures)))

pub returns-then-colon_next : goal.returns-then-colon_next
returns-then-colon_next c =
    c.loop-at.invariant.2 _
    (law.named _ _ c.loop-at-test.true _ c.if-b-eq34.true (stringed _ _ c.in_ok-e.was c.string_end.ensures) c.colon_next.ensures c.if-colon_next.true)

pub loop-at-smaller-then-b-eq34 : goal.loop-at-smaller-then-b-eq34
loop-at-smaller-then-b-eq34 c =
    let k = law.text _ _ c.loop-at-test.true _ c.if-b-eq34.true (stringed _ _ c.in_ok-e.was c.string_end.ensures) c.colon_next.ensures c.if-colon_next.false in
    omega (arith, k.later, k.high)

pub loop-at-preserved-then-b-eq34 : goal.loop-at-preserved-then-b-eq34
loop-at-preserved-then-b-eq34 c =
    let k = law.text _ _ c.loop-at-test.true _ c.if-b-eq34.true (stringed _ _ c.in_ok-e.was c.string_end.ensures) c.colon_next.ensures c.if-colon_next.false in
    (omega (arith, k.later, c.loop-at.invariant.0), k.high, λ r h. c.loop-at.invariant.2 r (law.past _ _ _ k r h))

pub returns-then-b-eq123 : goal.returns-then-b-eq123
returns-then-b-eq123 c = c.loop-at.invariant.2 _ (law.opening _ _ c.loop-at-test.true c.if-b-eq123.true)

pub returns-then-b-eq125 : goal.returns-then-b-eq125
returns-then-b-eq125 c = c.loop-at.invariant.2 _ (law.closing _ _ c.loop-at-test.true c.if-b-eq125.true)

pub loop-at-preserved : goal.loop-at-preserved
loop-at-preserved c =
    (omega (arith, c.loop-at.invariant.0), omega (arith, c.loop-at-test.true), λ r h. c.loop-at.invariant.2 r (law.past _ _ _ (law.quiet _ _ c.loop-at-test.true c.if-b-eq34.false c.if-b-eq123.false c.if-b-eq125.false) r h))

pub returns : goal.returns
returns c = c.loop-at.invariant.2 _ (law.nothing_left _ _ c.loop-at-test.false)
