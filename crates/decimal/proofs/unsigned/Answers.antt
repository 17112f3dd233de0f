-- `unsigned`: the number so far is at most the bound, and with the digits that are left it gives the answer.
use Rattle.std.proofs.Common.{rules, sym, ◌∙◌, arith}
use Rattle.decimal.proofs.Laws.{no_digits, start, end, next, over, no_digit, digit_small}
use Rattle.decimal.proofs.unsigned.Goals as goal

pub returns-then-is_empty : goal.returns-then-is_empty
returns-then-is_empty c = no_digits _ _ (search rules)

pub loop-c-init : goal.loop-c-init
loop-c-init c = (search rules, start _ _ (search rules))

pub returns-in_err-d : goal.returns-in_err-d
returns-in_err-d c =
    rw c.from_residual.ensures (sym (c.loop-c.invariant.1 ∙ no_digit _ _ _ _ c.loop-c-test.true c.in_err-d.ensures))

pub overflow_sub-most : goal.overflow_sub-most
overflow_sub-most c = let l = digit_small _ c.in_ok-d.ensures in omega arith

pub returns-then-most-d : goal.returns-then-most-d
returns-then-most-d c = sym (c.loop-c.invariant.1 ∙ over _ _ _ _ c.loop-c-test.true c.in_ok-d.ensures c.if-most-d.true)

pub loop-c-preserved : goal.loop-c-preserved
loop-c-preserved c =
    let l = digit_small _ c.in_ok-d.ensures in
    (search rules, c.loop-c.invariant.1 ∙ next _ _ _ _ c.loop-c-test.true c.in_ok-d.ensures)

pub returns : goal.returns
returns c = sym (c.loop-c.invariant.1 ∙ end _ _ _ _ c.loop-c-test.false c.loop-c.invariant.0)
