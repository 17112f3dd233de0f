-- Numbers with a sign: the value of a character fits 8 and 32 bits, and what the sign of a value, and of 32 bits, tells.
use mathlib.Core.Path.{◌≡◌, refl, ap, sym, ◌∙◌}
use mathlib.Core.Logic.{◌⊎◌, inl, inr}
use mathlib.Core.Bool.{Bool, true, false, cond, not}
use Prim.Native.Nat.{ℕ, zero, suc, ◌%◌, ◌<◌, zero-le}
use native.Mathlib.Omega.{arith}
use lib.Dec.{ltb}
use lib.IntN.{pos, negsuc}
use lib.Signed.{mag, lt_z}
use borrow.Author.Tests.{ltb-true, le-ltb}
use mir.Syntax.{w8, w32}
use mir.Val.{SFits, of_z, to_z}
use mir.ValLaws.{to_z-of_z, to_z_pos}
use Rattle.std.specs.Prelude.{Result, Ok, Err, unsigned_abs}
use Rattle.std.specs.Result.{OkIff, result_unwrap_or}
use Rattle.std.specs.Int.{FitsUnsignedBits}
use Rattle.common.specs.Ranges.{within}
use Rattle.base64url_rules.specs.Alphabet.{value, in_alphabet}
use Rattle.base64url_rules.proofs.Tables.{entries, agree, signed}

-- the bits of -1 and of -2
pub outside_bits : (c : ℕ) → in_alphabet c ≡ false → (of_z w32 (signed c) ≡ 4294967295) ⊎ (of_z w32 (signed c) ≡ 4294967294)
unfolding signed
outside_bits c o = go (c % 2) refl (omega arith)
  where
    is : signed c ≡ negsuc (c % 2)
    is = rw o

    go : (n : ℕ) → c % 2 ≡ n → n < 2 → (of_z w32 (signed c) ≡ 4294967295) ⊎ (of_z w32 (signed c) ≡ 4294967294)
    go zero e h = inl (ap (of_z w32) (is ∙ ap negsuc e))
    go (suc zero) e h = inr (ap (of_z w32) (is ∙ ap negsuc e))
    go (suc (suc n)) e h = absurd (omega arith)

small : (c : ℕ) → mag (signed c) < 64
unfolding signed
small c = go (in_alphabet c) refl
  where
    go : (t : Bool) → in_alphabet c ≡ t → mag (signed c) < 64
    go true e = rw e (ltb-true (value c) 64 e)
    go false e = rw e (omega arith)

pub fits_32 : (c : ℕ) → SFits w32 (signed c)
fits_32 c = record { sfits = omega (arith, small c) }

pub from_8 : (c : ℕ) → to_z w8 (of_z w8 (signed c)) ≡ signed c
from_8 c = to_z-of_z w8 (signed c) (record { sfits = omega (arith, small c) })

pub from_32 : (c : ℕ) → to_z w32 (of_z w32 (signed c)) ≡ signed c
from_32 c = to_z-of_z w32 (signed c) (fits_32 c)

-- a byte outside the alphabet has the value 64: for all of them at once, by one computed table
outside : (c : ℕ) → c < 256 → in_alphabet c ≡ false → value c ≡ 64
unfolding entries within value
outside c h e = let a : cond (in_alphabet c) 64 (value c) ≡ 64 = agree (λ c. cond (in_alphabet c) 64 (value c)) (λ c. 64) 256 c refl h in rw e at a

-- the value without its sign, where it is one, and else 64
pub unsigned : {E : Type 0} (c : ℕ) (r : Result ℕ E) → c < 256 → OkIff r (FitsUnsignedBits 8 (signed c)) (unsigned_abs (signed c)) → result_unwrap_or r 64 ≡ value c
unfolding signed
unsigned {E} c r h o = go (in_alphabet c) refl r o
  where
    go : (t : Bool) → in_alphabet c ≡ t → (r : Result ℕ E)
        → OkIff r (FitsUnsignedBits 8 (cond t (pos (value c)) (negsuc (c % 2)))) (unsigned_abs (cond t (pos (value c)) (negsuc (c % 2)))) → result_unwrap_or r 64 ≡ value c
    go true e (Ok v) o = o.1
    go true e (Err d) o = let small = ltb-true (value c) 64 e in absurd (o (omega arith))
    go false e (Ok v) o = absurd o.0
    go false e (Err d) o = sym (outside c h e)

-- 32 bits are a number below 0 unless they are below 2 ^ 31; then they are that number
pub sign : (n : ℕ) → lt_z (to_z w32 n) (pos 0) ≡ not (ltb n 2147483648)
sign n = go (ltb n 2147483648) refl
  where
    go : (t : Bool) → ltb n 2147483648 ≡ t → lt_z (to_z w32 n) (pos 0) ≡ not t
    go true e = rw e (le-ltb n 0 zero-le)
    go false e = rw e

pub not_negative : (n : ℕ) → ltb n 2147483648 ≡ true → to_z w32 n ≡ pos n
not_negative n e = to_z_pos w32 n (ltb-true n 2147483648 e)
