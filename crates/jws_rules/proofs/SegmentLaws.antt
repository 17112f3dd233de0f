-- Laws of a token's segments.
use Rattle.std.specs.Prelude.{◌≡◌, refl, Bool, true, false, cond, List, [], ◌∷◌, ◌++◌, ℕ, suc, ◌+◌, ◌<◌, eqb, length}
use Rattle.std.proofs.Common.{ap, ◌∙◌, append-nil, arith, length-append, eqb-true}
use Rattle.jws_rules.specs.Segments.{period, periods, front, back, ◌dot◌}

pub length_dot : (a b : List ℕ) → length (a dot b) ≡ length a + length b + 1
length_dot a b = omega (arith, length-append a (period ∷ b))

pub periods_dot : (a b : List ℕ) → periods (a dot b) ≡ periods a + periods b + 1
unfolding periods
periods_dot [] b = omega arith
periods_dot (x ∷ a) b = go (eqb x period) (periods_dot a b)
  where
    go : (q : Bool) → periods (a dot b) ≡ periods a + periods b + 1
        → cond q (suc (periods (a dot b))) (periods (a dot b)) ≡ cond q (suc (periods a)) (periods a) + periods b + 1
    go true ih = omega arith
    go false ih = ih

-- a part without a period is passed over
pub front_past : (a b : List ℕ) → periods a ≡ 0 → front (a ++ b) ≡ a ++ front b
unfolding periods front
front_past [] b e = refl
front_past (x ∷ a) b e = go (eqb x period) e (front_past a b)
  where
    go : (q : Bool) → cond q (suc (periods a)) (periods a) ≡ 0 → (periods a ≡ 0 → front (a ++ b) ≡ a ++ front b)
        → cond q [] (x ∷ front (a ++ b)) ≡ x ∷ (a ++ front b)
    go true e ih = absurd (omega arith)
    go false e ih = ap (λ (l : List ℕ). x ∷ l) (ih e)

pub front_dot : (a b : List ℕ) → periods a ≡ 0 → front (a dot b) ≡ a
unfolding front
front_dot a b e = front_past a (period ∷ b) e ∙ append-nil a

pub back_dot : (a b : List ℕ) → periods a ≡ 0 → back (a dot b) ≡ b
unfolding periods back
back_dot [] b e = refl
back_dot (x ∷ a) b e = go (eqb x period) e (back_dot a b)
  where
    go : (q : Bool) → cond q (suc (periods a)) (periods a) ≡ 0 → (periods a ≡ 0 → back (a dot b) ≡ b) → cond q (a dot b) (back (a dot b)) ≡ b
    go true e ih = absurd (omega arith)
    go false e ih = ih e

-- a list with a period is its front and its back with a period between
pub split : (t : List ℕ) → 0 < periods t → (t ≡ front t dot back t) × (periods (front t) ≡ 0)
unfolding periods front back
split [] h = absurd (omega arith)
split (x ∷ t) h = go (eqb x period) refl h (split t)
  where
    go : (q : Bool) → eqb x period ≡ q → 0 < cond q (suc (periods t)) (periods t) → (0 < periods t → (t ≡ front t dot back t) × (periods (front t) ≡ 0))
        → (x ∷ t ≡ cond q [] (x ∷ front t) dot cond q t (back t)) × (periods (cond q [] (x ∷ front t)) ≡ 0)
    go true k h ih = (ap (λ (y : ℕ). y ∷ t) (eqb-true x period k), refl)
    go false k h ih = (ap (λ (l : List ℕ). x ∷ l) (ih h).0, rw k (ih h).1)
