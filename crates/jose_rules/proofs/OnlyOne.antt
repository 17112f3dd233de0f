-- The only thing that a condition holds of, or none: how what is computed meets what is said.
use Rattle.std.specs.Prelude.{◌≡◌, refl, ◌⊎◌, Bool, true, false, cond, ℕ}
use Rattle.std.proofs.Common.{sym, inl, inr, ⊎_elim, arith}
use Rattle.std.proofs.Math.Option.{Option, none, some}
use Rattle.common.specs.First.{Decides, holds, fails}
use Rattle.common.specs.Options.{absent, given, bind, or_else}

module _ {A : Type 0} where
  pub data Only (C : A → Type 0) : Option A → Type 0 where
    nothing : ((a : A) → C a → ⊥) → Only C none
    just : {a : A} → C a → ((b : A) → C b → b ≡ a) → Only C (some a)

  pub decides_none : {C : A → Type 0} {o : Option A} → Only C o → Decides ((a : A) → C a → ⊥) (absent o)
  decides_none (nothing h) = holds h
  decides_none (just c u) = fails (λ h. h _ c)

  pub decides_some : {C P : A → Type 0} {p : A → Bool} {o : Option A} → Only C o → ((a : A) → Decides (P a) (p a))
      → Decides ((a : A) × C a × P a) (given p o)
  decides_some (nothing h) d = fails (λ w. h w.0 w.1)
  decides_some {C} {P} {p} (just {a} c u) d = go (p a) (d a)
    where
      go : (b : Bool) → Decides (P a) b → Decides ((a : A) × C a × P a) b
      go true (holds h) = holds (a, c, h)
      go false (fails h) = fails (λ w. h (rw (sym (u w.0 w.1)) w.2))

  -- what there is, if there is one
  pub only_there : {C : A → Type 0} {o : Option A} (d : A) → Only C o → (((a : A) → C a → ⊥) → ⊥) → C (or_else o d)
  only_there d (nothing h) k = absurd (k h)
  only_there d (just c u) k = c

  pub only_is : {C : A → Type 0} {o : Option A} (d : A) → Only C o → {a : A} → C a → a ≡ or_else o d
  only_is d (nothing h) c = absurd (h _ c)
  only_is d (just c u) e = u _ e

-- the contents of an Option are its only content
pub only_content : {A : Type 0} (o : Option A) → Only (λ a. o ≡ some a) o
only_content none = nothing (λ a e. clash e)
  where
    clash : {A : Type 0} {a : A} → none ≡ some a → ⊥
    clash e = let z : ◌≡◌ {A = ℕ} 0 1 = cc in omega arith
only_content (some a) = just refl (λ b e. cc)

pub decides_absent : {A : Type 0} (o : Option A) → Decides (o ≡ none) (absent o)
decides_absent none = holds refl
decides_absent (some a) = fails (λ e. let z : ◌≡◌ {A = ℕ} 0 1 = cc in omega arith)

-- what holds of a by way of the only v
pub only_bind : {A B : Type 0} {C : A → Type 0} {D : A → B → Type 0} {o : Option A} {f : A → Option B}
    → Only C o → ((a : A) → Only (D a) (f a)) → Only (λ b. (a : A) × C a × D a b) (bind o f)
only_bind (nothing h) d = nothing (λ b w. h w.0 w.1)
only_bind {A} {B} {C} {D} {f = f} (just {a} c u) d = go (f a) (d a)
  where
    go : (o : Option B) → Only (D a) o → Only (λ b. (a : A) × C a × D a b) o
    go none (nothing h) = nothing (λ b w. h b (rw (sym (u w.0 w.1)) w.2))
    go (some b) (just e t) = just (a, c, e) (λ b w. t b (rw (sym (u w.0 w.1)) w.2))

-- D's, where C holds of something, else E's
pub only_or : {A B : Type 0} {C : A → Type 0} {D E : B → Type 0} {o : Option A} {x y : Option B}
    → Only C o → ((b : B) → D b → (a : A) × C a) → Only D x → Only E y
    → Only (λ b. D b ⊎ (((a : A) → C a → ⊥) × E b)) (cond (absent o) y x)
only_or (nothing h) there d (nothing e) = nothing (λ b. ⊎_elim (λ w. h _ (there b w).1) (λ w. e b w.1))
only_or (nothing h) there d (just e u) = just (inr (h, e)) (λ b. ⊎_elim (λ w. absurd (h _ (there b w).1)) (λ w. u b w.1))
only_or (just c v) there (nothing d) e = nothing (λ b. ⊎_elim (d b) (λ w. w.0 _ c))
only_or (just c v) there (just d u) e = just (inl d) (λ b. ⊎_elim (u b) (λ w. absurd (w.0 _ c)))
