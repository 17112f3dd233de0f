-- A text is strict exactly when it has no fault, and a fault has a place in the text or at its end.
use Rattle.std.specs.Prelude.{◌≡◌, refl, ◌↔◌, Bool, true, false, cond, not, ◌&&◌, List, [], ◌∷◌, ℕ, suc, ◌-◌, ◌≤◌, ltb, eqb, length}
use Rattle.std.proofs.Common.{sym, ◌∙◌, le_refl, le_of_lt, arith, lt-ltb, ltb-true}
use Rattle.std.proofs.lemmas.Bool.{false≢true}
use Rattle.std.proofs.Math.Option.{none, some}
use Rattle.std.proofs.Math.Dec.{leb-suc-suc}
use Rattle.base64url_rules.specs.Alphabet.{in_alphabet}
use Rattle.base64url_rules.specs.Base64url.{alphabetic, unused_bits, bad_length, strict}
use Rattle.base64url_rules.specs.Fault.{first_outside, fault}

outside : (s : List ℕ) → ltb (first_outside s) (length s) ≡ not (alphabetic s)
unfolding first_outside alphabetic
outside [] = refl
outside (c ∷ s) = go (in_alphabet c) (outside s)
  where
    go : (t : Bool) → ltb (first_outside s) (length s) ≡ not (alphabetic s) → ltb (cond t (suc (first_outside s)) 0) (suc (length s)) ≡ not (t && alphabetic s)
    go true e = leb-suc-suc (suc (first_outside s)) (length s) ∙ e
    go false e = lt-ltb 0 (suc (length s)) (omega arith)

never : {i : ℕ} → some i ≡ none → ⊥
never e = let z : ◌≡◌ {A = ℕ} 0 1 = cc in omega arith

-- the three rules, in the order of the faults
rules : (a b u : Bool) (i j k : ℕ) → (a && (not b && u) ≡ true) ↔ (cond (not a) (some i) (cond b (some j) (cond u none (some k))) ≡ none)
rules true false true i j k = (λ e. refl, λ e. refl)
rules true false false i j k = (λ e. absurd (false≢true e), λ e. absurd (never e))
rules true true u i j k = (λ e. absurd (false≢true e), λ e. absurd (never e))
rules false b u i j k = (λ e. absurd (false≢true e), λ e. absurd (never e))

pub strict_faultless : (s : List ℕ) → (strict s ≡ true) ↔ (fault s ≡ none)
unfolding strict fault
strict_faultless s = rw (outside s) (rules (alphabetic s) (bad_length s) (eqb (unused_bits s) 0) (first_outside s) (length s) (length s - 1))

within : (a b u : Bool) {i j k m n : ℕ} → (a ≡ true → i ≤ n) → j ≤ n → k ≤ n → cond a (some i) (cond b (some j) (cond u none (some k))) ≡ some m → m ≤ n
within true b u {i} {m = m} f g h e = let z : i ≡ m = cc in rw (← z) (f refl)
within false true u {j = j} {m = m} f g h e = let z : j ≡ m = cc in rw (← z) g
within false false true f g h e = absurd (never (sym e))
within false false false {k = k} {m = m} f g h e = let z : k ≡ m = cc in rw (← z) h

pub fault_within : (s : List ℕ) {place : ℕ} → fault s ≡ some place → place ≤ length s
unfolding fault
fault_within s e =
    within (ltb (first_outside s) (length s)) (bad_length s) (eqb (unused_bits s) 0)
    (λ t. le_of_lt (ltb-true (first_outside s) (length s) t)) (le_refl _) (omega arith) e
