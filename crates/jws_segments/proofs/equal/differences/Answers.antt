-- `differences` meets its contract: no bit differs as long as the bytes before i agree, and only so long.
use mathlib.Core.Path.{◌≡◌, ap}
use mathlib.Core.Logic.{◌↔◌}
use mathlib.Core.List.{List}
use Prim.Native.Nat.{ℕ}
use native.Mathlib.Omega.{arith}
use lib.Bits.{bit_or, bit_xor, or_add_and, and_le_l, and_le_r, xor_add_and, xor_self}
use lib.ListN.{get_or}
use lib.Seq.{ext_get_or}
use borrow.Author.Count.{below_more}
use Rattle.jws_segments.proofs.equal.differences.Goals as goal

-- a byte more: nothing differs just where nothing did and the two bytes agree
more : (d x y : ℕ) → (bit_or d (bit_xor x y) ≡ 0) ↔ ((d ≡ 0) × (x ≡ y))
more d x y =
    let o = bit_xor x y in (
      (λ e. (omega (arith, or_add_and d o, and_le_l d o, and_le_r d o), omega (arith, or_add_and d o, and_le_l d o, and_le_r d o, xor_add_and x y, and_le_l x y, and_le_r x y))),
      λ h. rw (h.0, h.1, xor_self y),
    )

pub loop-i-preserved : goal.loop-i-preserved
loop-i-preserved c =
    let m = more c.loop-i.all (get_or c.args.a.now c.loop-i.i 0) (get_or c.args.b.now c.loop-i.i 0) in
    ((λ e. below_more _ _ (c.loop-i.invariant.0 (m.0 e).0) (m.0 e).1), λ h. m.1 (c.loop-i.invariant.1 (λ k f. h k (omega arith)), h c.loop-i.i (omega arith)))

pub returns : goal.returns
returns c = (
  (λ e. ext_get_or 0 c.args.a.now c.args.b.now (omega arith) (λ k h. c.loop-i.invariant.0 e k (omega arith))),
  λ e. c.loop-i.invariant.1 (λ k h. ap (λ (s : List ℕ). get_or s k 0) e),
)
