-- Laws of filled buffers, and of lists of one repeated number.
use Rattle.std.specs.Prelude.{◌≡◌, refl, List, ◌∷◌, ℕ, zero, suc, ◌-◌, ◌≤◌, length, take, drop, replicate}
use Rattle.std.proofs.Common.{ap, ◌∙◌, le_of_suc-le-suc, not-suc-le-zero, arith, length-append}
use Rattle.std.proofs.lemmas.List.{length-replicate}
use Rattle.common.specs.Buffer.{filled}

pub take_replicate : (a n m : ℕ) → n ≤ m → take n (replicate m a) ≡ replicate n a
take_replicate a zero m h = refl
take_replicate a (suc n) zero h = absurd (not-suc-le-zero h)
take_replicate a (suc n) (suc m) h = ap (λ (l : List ℕ). a ∷ l) (take_replicate a n m (le_of_suc-le-suc h))

pub drop_replicate : (a n m : ℕ) → drop n (replicate m a) ≡ replicate (m - n) a
drop_replicate a zero m = let e : m - 0 ≡ m = omega arith in rw e
drop_replicate a (suc n) zero = let e : 0 - suc n ≡ 0 = omega arith in rw e
drop_replicate a (suc n) (suc m) = let e : suc m - suc n ≡ m - n = omega arith in rw e (drop_replicate a n m)

pub length_filled : (room : ℕ) (s : List ℕ) → length s ≤ room → length (filled room s) ≡ room
length_filled room s h = length-append s (replicate (room - length s) 0) ∙ omega (arith, length-replicate {A = ℕ} (room - length s) 0)
