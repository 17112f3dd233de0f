-- The table for long texts: how it is filled, what it has at each place, and the word that its entries make.
use mathlib.Core.Path.{◌≡◌, refl, ap, sym, ◌∙◌}
use mathlib.Core.Bool.{Bool, true, false}
use mathlib.Core.List.{List, ◌++◌}
use mathlib.Core.Logic.{⊎_elim}
use Prim.Native.Nat.{ℕ, ◌+◌, ◌-◌, ◌*◌, ◌%◌, ◌≤◌, ◌<◌}
use native.Mathlib.Nat.{add-zero, mod-eq_of_lt, eq-or-lt_of_le}
use native.Mathlib.Omega.{arith}
use lib.Bits.{bit_or, or_block, or_mod}
use lib.Dec.{ltb}
use lib.IntN.{ℤ, pos}
use lib.ListN.{length, get_or, set, length-set, length-append, get_or-append}
use lib.Seq.{ext_get_or, get_or-append-add, get_or-set_same, get_or-set_other}
use borrow.Author.Tests.{ltb-true, ltb-false}
use mir.Syntax.{w32}
use mir.Val.{to_z}
use mir.ValLaws.{Fits-wrap, of_z-to_z}
use Rattle.base64url_rules.specs.Alphabet.{value, in_alphabet}
use Rattle.base64url_rules.proofs.Listed.{length_entries}
use Rattle.base64url_rules.proofs.Tables.{entries, entry, signed}
use Rattle.base64url_words.specs.Words.{bits, shifted, word, raised, wide}
use Rattle.base64url_words.proofs.SignLaws.{outside_bits}
use Rattle.base64url_words.proofs.WordLaws.{word_fits}

-- WHAT IT HAS

length_wide : length wide ≡ 512
unfolding wide
length_wide = length-append (entries signed 0 256) (entries raised 0 256) ∙ rw (length_entries signed 0 256, length_entries raised 0 256)

pub low : (c : ℕ) → c < 256 → get_or wide c (pos 0) ≡ signed c
unfolding wide
low c h = get_or-append (entries signed 0 256) (entries raised 0 256) (pos 0) c (rw (length_entries signed 0 256) h) ∙ entry (pos 0) signed 256 c h

pub high : (c : ℕ) → c < 256 → get_or wide (256 + c) (pos 0) ≡ raised c
unfolding wide
high c h =
    let e : 256 + c ≡ length (entries signed 0 256) + c = ap (λ (n : ℕ). n + c) (sym (length_entries signed 0 256)) in
    ap (λ (n : ℕ). get_or (entries signed 0 256 ++ entries raised 0 256) n (pos 0)) e ∙ get_or-append-add (entries signed 0 256) (entries raised 0 256) c (pos 0) ∙ entry (pos 0) raised 256 c h

-- .. of 32 bits
pub raised_32 : (c : ℕ) → to_z w32 (bits (raised c)) ≡ raised c
raised_32 c = ap (to_z w32) (of_z-to_z w32 (shifted c 64) (Fits-wrap w32 _))

-- HOW IT IS FILLED

-- the first i entries of each half are there
pub record Filled (l : List ℤ) (i : ℕ) : Type 0 where
  pub size : length l ≡ 512
  pub values : (k : ℕ) → k < i → get_or l k (pos 0) ≡ signed k
  pub shifts : (k : ℕ) → k < i → get_or l (256 + k) (pos 0) ≡ raised k

pub one_more : (l : List ℤ) (i : ℕ) {v u : ℤ} → Filled l i → i < 256 → v ≡ signed i → u ≡ raised i → Filled (set (set l i v) (256 + i) u) (i + 1)
one_more l i {v} {u} f h ev eu =
    record {
      size = length-set (set l i v) (256 + i) u ∙ length-set l i v ∙ f.size;
      values =
          λ k m. get_or-set_other (set l i v) (256 + i) k u (pos 0) (λ e. omega arith) ∙ last k i m
          (λ e. rw e (get_or-set_same l i v (pos 0) (omega (arith, f.size)) ∙ ev))
          (λ n. get_or-set_other l i k v (pos 0) (λ e. omega arith) ∙ f.values k n);
      shifts =
          λ k m. last k i m
          (λ e. rw e (get_or-set_same (set l i v) (256 + i) u (pos 0) (rw (length-set l i v) (omega (arith, f.size))) ∙ eu))
          (λ n. get_or-set_other (set l i v) (256 + i) (256 + k) u (pos 0) (λ e. omega arith) ∙ get_or-set_other l i (256 + k) v (pos 0) (λ e. omega arith) ∙ f.shifts k n);
    }
  where
    last : {P : Type 0} (k i : ℕ) → k < i + 1 → (k ≡ i → P) → (k < i → P) → P
    last k i m p q = ⊎_elim p q (eq-or-lt_of_le (omega arith))

pub filled : (l : List ℤ) {i : ℕ} → Filled l i → 256 ≤ i → l ≡ wide
filled l {i} f h = ext_get_or (pos 0) l wide (f.size ∙ sym length_wide) (λ k m. go k (ltb k 256) refl (omega (arith, f.size)))
  where
    go : (k : ℕ) (t : Bool) → ltb k 256 ≡ t → k < 512 → get_or l k (pos 0) ≡ get_or wide k (pos 0)
    go k true e m = let n = ltb-true k 256 e in f.values k (omega arith) ∙ sym (low k n)
    go k false e m =
        let n = ltb-false k 256 e in
        let split : k ≡ 256 + (k - 256) = omega arith in
        rw split (f.shifts (k - 256) (omega arith) ∙ sym (high (k - 256) (omega arith)))

-- THE WORD

-- six bits up and then twelve are eighteen
eighteen : (c : ℕ) → shifted c 64 * 4096 % 4294967296 ≡ shifted c 262144
unfolding signed
eighteen c = go (in_alphabet c) refl
  where
    go : (t : Bool) → in_alphabet c ≡ t → shifted c 64 * 4096 % 4294967296 ≡ shifted c 262144
    go true e =
        let h = ltb-true (value c) 64 e in
        let up : value c * 64 * 4096 ≡ value c * 262144 = omega arith in
        rw (e, mod-eq_of_lt {n = value c * 64} {m = 4294967296} (omega arith), up)
    go false e = ⊎_elim (λ p. rw p) (λ p. rw p) (outside_bits c e)

shift_or : (x y : ℕ) → bit_or x y * 4096 % 4294967296 ≡ bit_or (x * 4096 % 4294967296) (y * 4096 % 4294967296)
shift_or x y =
    let block : bit_or (x * 4096 + 0) (y * 4096 + 0) ≡ bit_or x y * 4096 + 0 = or_block 12 x y 0 0 (omega arith) (omega arith) in
    let e : bit_or (x * 4096) (y * 4096) ≡ bit_or x y * 4096 = rw (add-zero (x * 4096), add-zero (y * 4096), add-zero (bit_or x y * 4096)) at block in
    rw (← e) (or_mod (x * 4096) (y * 4096) 32)

pub wide_word : (a b c d : ℕ)
    → bits (to_z w32 (bit_or (bit_or (bit_or (bits (raised a)) (bits (signed b)) * 4096 % 4294967296) (bits (raised c))) (bits (signed d)))) ≡ word a b c d
wide_word a b c d =
    let up : (c : ℕ) → bits (raised c) ≡ shifted c 64 = λ c. of_z-to_z w32 (shifted c 64) (Fits-wrap w32 _) in
    rw (up a, up c, shift_or (shifted a 64) (bits (signed b)), eighteen a) (of_z-to_z w32 (word a b c d) (word_fits a b c d))
