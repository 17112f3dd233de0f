-- The words of a schedule, as the code makes and reads them.
use Rattle.std.specs.Prelude.{◌≡◌, length, get_or, take, set}
use Rattle.std.proofs.Math.Path.{refl}
use Rattle.std.proofs.Common.{ap, sym, ◌∙◌, not-suc-le-zero, eq-or-lt_of_le, le_of_suc-le-suc, add-one, arith, lt-ltb, le-ltb}
use Rattle.std.proofs.Math.Logic.{⊎_elim}
use mathlib.Core.List.{List, [], ◌∷◌}
use Prim.Native.Nat.{ℕ, zero, suc, ◌+◌, ◌-◌, ◌≤◌, ◌<◌}
use Rattle.std.proofs.Math.ListN.{length-append, get_or-append}
use Rattle.std.proofs.Math.Seq.{get_or-take}
use Rattle.std.proofs.lemmas.List.{get_or_at}
use Rattle.sha2_rules.specs.Parameters.{Parameters}
use Rattle.sha2_rules.specs.Compression.{M, later_word, next_word, schedule}
use Rattle.sha2_rules.proofs.ListLaws.{stored}

module _ (P : Parameters) (b : List ℕ) where
  pub block_word : (w : List ℕ) (t : ℕ) → t < 16 → next_word P b w t ≡ M P b t
  unfolding next_word
  block_word w t h = simp (lt-ltb t 16 h)

  -- the words before t are the same in the array
  later : (w : List ℕ) (t : ℕ) → 16 ≤ t → next_word P b (take t w) t ≡ later_word P w t
  unfolding next_word
  later w t h =
      simp (le-ltb t 16 h, get_or-take t w (t - 2) 0 (omega arith), get_or-take t w (t - 7) 0 (omega arith), get_or-take t w (t - 15) 0 (omega arith), get_or-take t w (t - 16) 0 (omega arith))

  pub length_schedule : (t : ℕ) → length (schedule P b t) ≡ t
  unfolding schedule
  length_schedule zero = refl
  length_schedule (suc t) = length-append (schedule P b t) (next_word P b (schedule P b t) t ∷ []) ∙ rw (length_schedule t, add-one)

  -- word i, the same in every front of the schedule that has it
  pub word : (i t : ℕ) → i < t → get_or (schedule P b t) i 0 ≡ next_word P b (schedule P b i) i
  unfolding schedule
  word i zero h = absurd (not-suc-le-zero h)
  word i (suc t) h =
      let x = next_word P b (schedule P b t) t in
      ⊎_elim
      (λ (e : i ≡ t). rw e (get_or_at (schedule P b t) x [] 0 t (length_schedule t)))
      (λ (k : i < t). get_or-append (schedule P b t) (x ∷ []) 0 i (rw length_schedule k) ∙ word i t k)
      (eq-or-lt_of_le (le_of_suc-le-suc h))

  -- .. and in an array that begins with a front
  pub word_in : (w : List ℕ) (i t n : ℕ) → i < t → i < n → take t w ≡ schedule P b t → get_or w i 0 ≡ get_or (schedule P b n) i 0
  word_in w i t n h k e = sym (get_or-take t w i 0 h) ∙ ap (λ (l : List ℕ). get_or l i 0) e ∙ word i t h ∙ sym (word i n k)

  -- one word more in the array. (The new number is given with its equation, so that t + 1 + 1 may be written t + 2.)
  pub one_word : (w : List ℕ) (t u x : ℕ) → u ≡ t + 1 → t < length w → take t w ≡ schedule P b t → x ≡ next_word P b (schedule P b t) t
      → take u (set w t x) ≡ schedule P b u
  unfolding schedule
  one_word w t u x q h e p = rw q (stored (schedule P b t) w t x h e ∙ rw (add-one, p))

  pub one_later : (w : List ℕ) (t u x : ℕ) → u ≡ t + 1 → 16 ≤ t → t < length w → take t w ≡ schedule P b t → x ≡ later_word P w t
      → take u (set w t x) ≡ schedule P b u
  one_later w t u x q k h e p = one_word w t u x q h e (p ∙ sym (later w t k) ∙ ap (λ (l : List ℕ). next_word P b l t) e)
