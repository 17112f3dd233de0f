-- `tails` meets its contract. The loop's invariant: what is right for the octets left is right for all; the bits so far leave room for those left.
use mathlib.Core.Path.{◌≡◌}
use native.Mathlib.Omega.{arith}
use lib.Dec.{lit≤}
use lib.ListN.{get_or}
use Prim.Native.Nat.{◌+◌, ◌-◌}
use Rattle.json_grammar_rules.proofs.ByteLaws.{within_is}
use Rattle.json_characters.proofs.ClassLaws.{outside}
use Rattle.json_characters.proofs.DigitLaws.{room_small, room_step, digits_more, digits_not, digits_out, digits_done}
use Rattle.json_characters.proofs.FormLaws.{room_least, tail_bits}
use Rattle.json_characters.proofs.utf8.tails.Goals as goal

pub loop-at-init : goal.loop-at-init
loop-at-init c =
    let n : c.args.from + c.args.n - c.args.from ≡ c.args.n = omega arith in
    rw n (c.requires.0, c.requires.2, c.requires.3, room_least c.args.n _ c.requires.1 c.requires.4, λ r h. h)

pub returns-then-at-s : goal.returns-then-at-s
returns-then-at-s c = c.loop-at.invariant.4 _ (digits_out _ _ _ _ _ _ _ _ (omega arith) c.if-at-s.true)

pub returns-then-c-low : goal.returns-then-c-low
returns-then-c-low c = c.loop-at.invariant.4 _ (digits_not _ _ _ _ _ _ _ _ (omega arith) c.if-at-s.false (outside c.then-c-low.either))

pub overflow_mul-code : goal.overflow_mul-code
overflow_mul-code c = omega (arith, room_small 8388608 64 (c.args.from + c.args.n - c.loop-at.at) _ (omega arith) c.loop-at.invariant.3)

pub overflow_add-code : goal.overflow_add-code
overflow_add-code c =
    omega (arith, room_small 8388608 64 (c.args.from + c.args.n - c.loop-at.at) _ (omega arith) c.loop-at.invariant.3, c.from.ensures)

pub loop-at-preserved : goal.loop-at-preserved
loop-at-preserved c =
    let w = within_is c.loop-at.low c.loop-at.high (get_or c.args.s.now c.loop-at.at 0) (omega arith) (omega arith) in
    let n : c.args.from + c.args.n - (c.loop-at.at + 1) ≡ c.args.from + c.args.n - c.loop-at.at - 1 = omega arith in
    rw n (
      omega arith,
      lit≤ tt,
      lit≤ tt,
      room_step 8388608 64 (c.args.from + c.args.n - c.loop-at.at) _ _ (omega arith) c.loop-at.invariant.3 (tail_bits _ _ _ _ w c.loop-at.invariant.1 c.loop-at.invariant.2 c.from.ensures),
      λ r h. c.loop-at.invariant.4 r (digits_more _ _ _ _ _ _ (c.args.from + c.args.n - c.loop-at.at) _ _ r (omega arith) c.if-at-s.false w c.from.ensures h),
    )

pub returns : goal.returns
returns c =
    let e : c.args.from + c.args.n ≡ c.loop-at.at = omega arith in
    rw e (c.loop-at.invariant.4 _ (digits_done _ _ _ _ _ _ _ _ (omega arith) c.loop-at.invariant.0))
