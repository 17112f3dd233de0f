-- Equal lists: the test decides it.
use Rattle.std.specs.Prelude.{◌≡◌, refl, Bool, true, false, ◌&&◌, List, [], ◌∷◌, ℕ, ◌<◌, eqb, length}
use Rattle.std.proofs.Common.{sym, ap, arith, eqb-true}
use Rattle.std.proofs.lemmas.Bool.{eqb-false}
use Rattle.common.specs.First.{Decides, holds, fails}
use Rattle.common.proofs.FirstLaws.{decides_iff}
use Rattle.common.proofs.Decided.{decided, test_false}
use Rattle.common.specs.Same.{same}

pub decides_same : (a b : List ℕ) → Decides (a ≡ b) (same a b)
unfolding same
decides_same [] [] = holds refl
decides_same [] (y ∷ ys) = fails (λ e. let z : ◌≡◌ {A = ℕ} 0 1 = cc in omega arith)
decides_same (x ∷ xs) [] = fails (λ e. let z : ◌≡◌ {A = ℕ} 0 1 = cc in omega arith)
decides_same (x ∷ xs) (y ∷ ys) = go (eqb x y) refl (same xs ys) (decides_same xs ys)
  where
    go : (q : Bool) → eqb x y ≡ q → (r : Bool) → Decides (xs ≡ ys) r → Decides (x ∷ xs ≡ y ∷ ys) (q && r)
    go true e r (holds f) = let g = eqb-true x y e in holds (cc)
    go true e r (fails f) = fails (λ p. f (cc))
    go false e r d = fails (λ p. eqb-false x y e (cc))

pub same_sym : (a b : List ℕ) → same a b ≡ same b a
same_sym a b = decided (decides_same a b) (decides_iff sym sym (decides_same b a))

-- a list that is longer is another
pub same_longer : (a b : List ℕ) → length b < length a → same a b ≡ false
same_longer a b h = test_false (decides_same a b) (λ e. omega (arith, ap length e))
