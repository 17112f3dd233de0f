-- Rounds, one and two at a time, and the sums that follow them.
use Rattle.std.specs.Prelude.{◌≡◌, refl, List, ℕ, ◌+◌, ◌%◌, ◌^◌, ◌<◌, length, get_or, take, set}
use Rattle.std.proofs.Common.{ap, sym, ◌∙◌, arith}
use Rattle.std.proofs.Math.Nat.{mod-add-mod}
use Rattle.std.proofs.Math.Numerals.{add-one}
use Rattle.sha2_rules.specs.Words.{Ch}
use Rattle.sha2_rules.specs.Parameters.{Parameters}
use Rattle.sha2_rules.specs.Compression.{◌⊞◌, schedule, T1, round, rounds, sums}
use Rattle.sha2_rules.proofs.ListLaws.{stored}
use Rattle.sha2_rules.proofs.ScheduleLaws.{word_in}

module _ (P : Parameters) (h : List ℕ) where
  pub one_more : (W : List ℕ) (t u : ℕ) {v r : List ℕ} → u ≡ t + 1 → v ≡ rounds P h W t → r ≡ round P v (get_or P.K t 0) (get_or W t 0) → r ≡ rounds P h W u
  unfolding rounds
  one_more W t u q e f = f ∙ rw (q, add-one, e)

  -- with the constants from the array k, and the words from the array w, which begins with t' words of the schedule of b
  pub two_more : (b k w : List ℕ) (t t' n : ℕ) {v r : List ℕ} → k ≡ P.K → t + 1 < t' → t + 1 < n → take t' w ≡ schedule P b t' → v ≡ rounds P h (schedule P b n) t
      → r ≡ round P (round P v (get_or k t 0) (get_or w t 0)) (get_or k (t + 1) 0) (get_or w (t + 1) 0) → r ≡ rounds P h (schedule P b n) (t + 2)
  two_more b k w t t' n q i j s e f =
      one_more _ (t + 1) (t + 2) (omega arith) (one_more _ t (t + 1) refl e refl)
      (f ∙ rw (q, word_in P b w t t' n (omega arith) (omega arith) s, word_in P b w (t + 1) t' n i j s))

-- one sum more in the array
pub one_sum : (P : Parameters) (v h r : List ℕ) (i x : ℕ) → i < length r → take i r ≡ sums P v h i → x ≡ (get_or v i 0 + get_or h i 0) % 2 ^ P.w
    → take (i + 1) (set r i x) ≡ sums P v h (i + 1)
unfolding sums
one_sum P v h r i x l e f = stored (sums P v h i) r i x l e ∙ rw (add-one, f)

-- T1, of the sum of its constant and its word
pub summed : (P : Parameters) (v : List ℕ) (k w sum : ℕ) → sum ≡ ◌⊞◌ P k w
    → ◌⊞◌ P (◌⊞◌ P (◌⊞◌ P (get_or v 7 0) sum) (Ch P.w (get_or v 4 0) (get_or v 5 0) (get_or v 6 0))) (P.Sigma1 (get_or v 4 0)) ≡ T1 P v k w
summed P v k w sum e = order (2 ^ P.w) (get_or v 7 0) (P.Sigma1 (get_or v 4 0)) (Ch P.w (get_or v 4 0) (get_or v 5 0) (get_or v 6 0)) k w sum e
  where
    order : (m h s c k w sum : ℕ) → sum ≡ (k + w) % m → (((h + sum) % m + c) % m + s) % m ≡ ((((h + s) % m + c) % m + k) % m + w) % m
    order m h s c k w sum e =
        let f : h + (k + w) % m + c + s ≡ (k + w) % m + (h + c + s) = omega arith in
        let g : k + w + (h + c + s) ≡ h + s + c + k + w = omega arith in
        rw e
        (ap (λ (x : ℕ). (x + s) % m) (mod-add-mod (h + (k + w) % m) m c) ∙ mod-add-mod (h + (k + w) % m + c) m s
        ∙ ap (λ (x : ℕ). x % m) f ∙ mod-add-mod (k + w) m (h + c + s) ∙ ap (λ (x : ℕ). x % m) g
        ∙ sym (ap (λ (x : ℕ). ((x + k) % m + w) % m) (mod-add-mod (h + s) m c) ∙ ap (λ (x : ℕ). (x + w) % m) (mod-add-mod (h + s + c) m k) ∙ mod-add-mod (h + s + c + k) m w))
