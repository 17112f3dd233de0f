-- `hex` meets its contract. The loop's invariant: what is right for the digits left is right for all four.
use mathlib.Core.Path.{◌≡◌, sym, ◌∙◌}
use Prim.Native.Nat.{◌+◌, ◌-◌}
use native.Mathlib.Omega.{arith}
use Rattle.json_characters.proofs.ClassLaws.{digit_is, digit_no}
use Rattle.json_characters.proofs.DigitLaws.{room_small, room_step, digits_more, digits_not, digits_done}
use Rattle.json_characters.proofs.EscapeLaws.{hex_digits, hex_short}
use Rattle.json_characters.proofs.escapes.hex.Goals as goal

pub returns-then-s-from-lt4 : goal.returns-then-s-from-lt4
returns-then-s-from-lt4 c = hex_short _ _ c.if-s-from-lt4.true

pub loop-at-init : goal.loop-at-init
loop-at-init c = let n : c.args.from + 4 - c.args.from ≡ 4 = omega arith in rw n (omega arith, λ r h. hex_digits _ _ r h)

pub overflow_mul-code : goal.overflow_mul-code
overflow_mul-code c = omega (arith, room_small 65536 16 (c.args.from + 4 - c.loop-at.at) _ (omega arith) c.loop-at.invariant.0)

pub returns-in_err-code : goal.returns-in_err-code
returns-in_err-code c =
    let d = digit_no _ (sym c.in_err-code.was ∙ c.hex_digit.ensures) in
    rw c.from_residual.ensures (c.loop-at.invariant.1 _ (digits_not _ _ _ _ _ _ _ _ (omega arith) (omega arith) d))

pub overflow_add-code : goal.overflow_add-code
overflow_add-code c =
    let d = digit_is _ (sym c.in_ok-code.was ∙ c.hex_digit.ensures) in
    omega (arith, d.2, room_small 65536 16 (c.args.from + 4 - c.loop-at.at) _ (omega arith) c.loop-at.invariant.0)

pub loop-at-preserved : goal.loop-at-preserved
loop-at-preserved c =
    let d = digit_is _ (sym c.in_ok-code.was ∙ c.hex_digit.ensures) in
    let n : c.args.from + 4 - (c.loop-at.at + 1) ≡ c.args.from + 4 - c.loop-at.at - 1 = omega arith in
    rw n (
      room_step 65536 16 (c.args.from + 4 - c.loop-at.at) _ _ (omega arith) c.loop-at.invariant.0 d.2,
      λ r h. c.loop-at.invariant.1 r (digits_more _ _ _ _ _ _ (c.args.from + 4 - c.loop-at.at) _ _ r (omega arith) (omega arith) d.0 d.1 h),
    )

pub returns : goal.returns
returns c =
    let e : c.args.from + 4 ≡ c.loop-at.at = omega arith in
    rw e (c.loop-at.invariant.1 _ (digits_done _ _ _ _ _ _ _ _ (omega arith) (omega arith)))
