-- The schedules of eight blocks side by side, word by word; and the rounds over one of them.
use Rattle.std.specs.Prelude.{◌≡◌, refl, Bool, true, false, List, ℕ, ◌+◌, ◌-◌, ◌*◌, ◌/◌, ◌%◌, ◌≤◌, ◌<◌, eqb, length, set}
use Rattle.std.proofs.Common.{ap, sym, ◌∙◌, arith, le-ltb, eqb-true, get_or-set_same, get_or-set_other}
use Rattle.std.proofs.lemmas.Bool.{eqb-false}
use Rattle.std.proofs.Math.ListN.{get_or, take}
use Rattle.std.proofs.Math.Seq.{take_all}
use Rattle.sha2_rules.specs.Parameters.{Parameters}
use Rattle.sha2_rules.specs.Compression.{M, later_word, next_word, schedule, round, rounds}
use Rattle.sha2_rules.specs.Woven.{block_of, woven_word, Woven, later_woven}
use Rattle.sha2_rules.proofs.RoundLaws.{one_more}
use Rattle.sha2_rules.proofs.ScheduleLaws.{length_schedule, block_word, word, word_in}

module _ (P : Parameters) where
  -- word t of a schedule, of the words before it in the same schedule
  later_in : (b : List ℕ) (t n : ℕ) → 16 ≤ t → t < n → get_or (schedule P b n) t 0 ≡ later_word P (schedule P b n) t
  unfolding next_word
  later_in b t n h k =
      let s = schedule P b t in
      let all : take t s ≡ s = take_all t s (rw (length_schedule P b t) (omega arith)) in
      let at : (i : ℕ) → i < t → get_or s i 0 ≡ get_or (schedule P b n) i 0 = λ i l. word_in P b s i t n l (omega arith) all in
      word P b t n k ∙ rw (le-ltb t 16 h, at (t - 2) (omega arith), at (t - 7) (omega arith), at (t - 15) (omega arith), at (t - 16) (omega arith))

  module _ (b w : List ℕ) where
    -- one word more
    pub one_woven : (i x : ℕ) → i < length w → Woven P b w i → x ≡ woven_word P b i → Woven P b (set w i x) (i + 1)
    one_woven i x h v e j l = go (eqb j i) refl
      where
        go : (t : Bool) → eqb j i ≡ t → get_or (set w i x) j 0 ≡ woven_word P b j
        go true q = let z = eqb-true j i q in ap (λ (k : ℕ). get_or (set w i x) k 0) z ∙ get_or-set_same w i x 0 h ∙ e ∙ ap (woven_word P b) (sym z)
        go false q = let z = eqb-false j i q in get_or-set_other w i j x 0 z ∙ v j (below z)
          where
            below : (j ≡ i → ⊥) → j < i
            below z = omega arith

    -- word t of block l, where it stands
    woven_at : (t l : ℕ) → l < 8 → woven_word P b (t * 8 + l) ≡ get_or (schedule P (block_of P b l) P.round_count) t 0
    woven_at t l k =
        let p : (t * 8 + l) % 8 ≡ l = omega arith in
        let q : (t * 8 + l) / 8 ≡ t = omega arith in
        rw (p, q)

    -- .. of the block's own bytes
    pub first_woven : (t l : ℕ) → t < 16 → l < 8 → 16 ≤ P.round_count → woven_word P b (t * 8 + l) ≡ M P (block_of P b l) t
    first_woven t l h k n = woven_at t l k ∙ word P (block_of P b l) t P.round_count (omega arith) ∙ block_word P (block_of P b l) _ t h

    -- the word d steps back in time stands 8 d places back
    back : (i d : ℕ) → Woven P b w i → 8 * d ≤ i → 0 < d → get_or w (i - 8 * d) 0 ≡ get_or (schedule P (block_of P b (i % 8)) P.round_count) (i / 8 - d) 0
    back i d v k z =
        let p : (i - 8 * d) % 8 ≡ i % 8 = omega arith in
        let q : (i - 8 * d) / 8 ≡ i / 8 - d = omega arith in
        v (i - 8 * d) (omega arith) ∙ rw (p, q)

    pub later_woven_lem : (i : ℕ) → 128 ≤ i → i < 8 * P.round_count → Woven P b w i → later_woven P w i ≡ woven_word P b i
    later_woven_lem i h k v =
        rw (back i 2 v (omega arith) (omega arith), back i 7 v (omega arith) (omega arith), back i 15 v (omega arith) (omega arith), back i 16 v (omega arith) (omega arith))
        (sym (later_in (block_of P b (i % 8)) (i / 8) P.round_count (omega arith) (omega arith)))

    -- two rounds more over block l, with the constants from the array k and the words from the array w
    pub two_woven : (h k : List ℕ) (t l : ℕ) {v a r : List ℕ} → k ≡ P.K → Woven P b w (8 * P.round_count) → l < 8 → t + 1 < P.round_count
        → v ≡ rounds P h (schedule P (block_of P b l) P.round_count) t
        → a ≡ round P v (get_or k t 0) (get_or w (t * 8 + l) 0) → r ≡ round P a (get_or k (t + 1) 0) (get_or w ((t + 1) * 8 + l) 0)
        → r ≡ rounds P h (schedule P (block_of P b l) P.round_count) (t + 2)
    two_woven h k t l q s i j e f g =
        let at : (u : ℕ) → u < P.round_count → get_or w (u * 8 + l) 0 ≡ get_or (schedule P (block_of P b l) P.round_count) u 0 =
        λ u n. s (u * 8 + l) (omega arith) ∙ woven_at u l i in
        one_more P h _ (t + 1) (t + 2) (omega arith) (one_more P h _ t (t + 1) refl e (f ∙ rw (q, at t (omega arith)))) (g ∙ rw (q, at (t + 1) j))
