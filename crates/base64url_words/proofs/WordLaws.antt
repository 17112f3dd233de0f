-- The word of a group: below 2 ^ 31, and so not below 0, exactly when all four characters are of the alphabet; and then its bytes are theirs.
use mathlib.Core.Path.{◌≡◌, refl, ap, sym, ◌∙◌}
use mathlib.Core.Logic.{⊎_elim}
use mathlib.Core.Bool.{Bool, true, false, cond, ◌&&◌, and_assoc, and-true, false≢true}
use Rattle.std.specs.Prelude.{Some, None, option_map}
use mathlib.Core.List.{List, [], ◌∷◌, ◌++◌}
use Prim.Native.Nat.{ℕ, ◌+◌, ◌*◌, ◌/◌, ◌%◌, ◌^◌, ◌≤◌, ◌<◌}
use native.Mathlib.Nat.{mod-eq_of_lt, mul-one}
use native.Mathlib.Omega.{arith}
use lib.Bits.{bit_or, or_add_and, and_le_l, and_le_r, or_lt, or_shifted}
use lib.Dec.{ltb}
use lib.IntN.{ℤ, pos, nat_abs}
use lib.ListN.{length, get_or}
use lib.Signed.{lt_z}
use borrow.Author.Tests.{lt-ltb, le-ltb, ltb-true, ltb-false, not-true, not-false}
use mir.Syntax.{w32}
use mir.Val.{Fits, to_z}
use mir.ValLaws.{Fits-or, Fits-wrap, of_z_fits, of_z-to_z}
use Rattle.common.specs.Truth as Truth
use Rattle.base64url_rules.specs.Alphabet.{value, in_alphabet}
use Rattle.base64url_rules.specs.Base64url.{decode, alphabetic, strict, byte1, byte2, byte3}
use Rattle.base64url_rules.proofs.GroupLaws.{strict_groups, strict_append, decode_append}
use Rattle.base64url_rules.proofs.Listed.{as_entries}
use Rattle.base64url_rules.proofs.Tables.{entries, signed}
use Rattle.base64url_words.specs.Words.{bits, shifted, word, bytes3, grouped, both}
use Rattle.base64url_words.proofs.SignLaws.{outside_bits, fits_32, sign, not_negative}

-- one test for two numbers
le_or_l : (a b : ℕ) → a ≤ bit_or a b
le_or_l a b = omega (arith, or_add_and a b, and_le_r a b)

le_or_r : (a b : ℕ) → b ≤ bit_or a b
le_or_r a b = omega (arith, or_add_and a b, and_le_l a b)

or_test : (k a b : ℕ) → ltb (bit_or a b) (2 ^ k) ≡ ltb a (2 ^ k) && ltb b (2 ^ k)
or_test k a b = go (ltb a (2 ^ k)) (ltb b (2 ^ k)) refl refl
  where
    go : (t u : Bool) → ltb a (2 ^ k) ≡ t → ltb b (2 ^ k) ≡ u → ltb (bit_or a b) (2 ^ k) ≡ t && u
    go true true e f = lt-ltb _ _ (or_lt k a b (ltb-true a (2 ^ k) e) (ltb-true b (2 ^ k) f))
    go true false e f = let h = ltb-false b (2 ^ k) f in le-ltb (bit_or a b) (2 ^ k) (omega (arith, le_or_r a b))
    go false u e f = let h = ltb-false a (2 ^ k) e in le-ltb (bit_or a b) (2 ^ k) (omega (arith, le_or_l a b))

-- a character at its place in a word
record Placed (c k n : ℕ) : Type 0 where
  number : in_alphabet c ≡ true → n ≡ value c * k
  test : ltb n 2147483648 ≡ in_alphabet c

-- shifted by fewer than 25 bits, -1 and -2 keep their sign, and a value of six bits gets none
placed : (c k : ℕ) → ((v : ℕ) → v < 64 → v * k < 2147483648) → ltb (4294967295 * k % 4294967296) 2147483648 ≡ false → ltb (4294967294 * k % 4294967296) 2147483648 ≡ false
    → Placed c k (shifted c k)
unfolding signed
placed c k small minus-1 minus-2 = go (in_alphabet c) refl
  where
    tested : ℕ → Bool
    tested n = ltb (n * k % 4294967296) 2147483648

    go : (t : Bool) → in_alphabet c ≡ t → Placed c k (shifted c k)
    go true e =
        let h = small (value c) (ltb-true (value c) 64 e) in
        let n : shifted c k ≡ value c * k = rw e (mod-eq_of_lt {n = value c * k} {m = 4294967296} (omega arith)) in
        record { number = λ _. n; test = rw (n, e) (lt-ltb (value c * k) 2147483648 h) }
    go false e = record { number = λ t. absurd (false≢true (sym e ∙ t)); test = ⊎_elim (λ p. ap tested p ∙ minus-1) (λ p. ap tested p ∙ minus-2) (outside_bits c e) ∙ sym e }

-- the four places
module _ (a b c d : ℕ) where
  first : Placed a 262144 (shifted a 262144)
  first = placed a 262144 (λ v h. omega arith) refl refl

  second : Placed b 4096 (shifted b 4096)
  second = placed b 4096 (λ v h. omega arith) refl refl

  third : Placed c 64 (shifted c 64)
  third = placed c 64 (λ v h. omega arith) refl refl

  last : Placed d 1 (bits (signed d))
  last =
      let e : shifted d 1 ≡ bits (signed d) = ap (λ (n : ℕ). n % 4294967296) (mul-one (bits (signed d))) ∙ mod-eq_of_lt (of_z_fits w32 (signed d) (fits_32 d)).fits in
      rw e at (placed d 1 (λ v h. omega arith) refl refl)

  pub word_fits : Fits w32 (word a b c d)
  word_fits =
      let ab = bit_or (shifted a 262144) (shifted b 4096) in
      Fits-or (bit_or ab (shifted c 64)) _ (Fits-or ab _ (Fits-or (shifted a 262144) _ (Fits-wrap w32 _) (Fits-wrap w32 _)) (Fits-wrap w32 _)) (of_z_fits w32 (signed d) (fits_32 d))

  pub word_test : ltb (word a b c d) 2147483648 ≡ strict (a ∷ b ∷ c ∷ d ∷ [])
  unfolding alphabetic
  word_test =
      let ab = bit_or (shifted a 262144) (shifted b 4096) in
      let abc = bit_or ab (shifted c 64) in
      let tests : ltb (word a b c d) 2147483648 ≡ ((in_alphabet a && in_alphabet b) && in_alphabet c) && in_alphabet d =
      or_test 31 abc (bits (signed d)) ∙ rw (or_test 31 ab (shifted c 64), or_test 31 (shifted a 262144) (shifted b 4096), first.test, second.test, third.test, last.test) in
      tests ∙ sym (strict_groups (a ∷ b ∷ c ∷ d ∷ []) refl ∙ simp (and_assoc, and-true))

  -- of four characters of the alphabet
  module _ (e : strict (a ∷ b ∷ c ∷ d ∷ []) ≡ true) where
    all : alphabetic (a ∷ b ∷ c ∷ d ∷ []) ≡ true
    all = sym (strict_groups (a ∷ b ∷ c ∷ d ∷ []) refl) ∙ e

    inside : (in_alphabet a ≡ true) × (in_alphabet b ≡ true) × (in_alphabet c ≡ true) × (in_alphabet d ≡ true)
    unfolding alphabetic
    inside =
        let p = Truth.both (in_alphabet a) _ all in
        let q = Truth.both (in_alphabet b) _ p.1 in
        let r = Truth.both (in_alphabet c) _ q.1 in
        (p.0, q.0, r.0, (Truth.both (in_alphabet d) true r.1).0)

    small : (value a < 64) × (value b < 64) × (value c < 64) × (value d < 64)
    small = (ltb-true (value a) 64 inside.0, ltb-true (value b) 64 inside.1, ltb-true (value c) 64 inside.2, ltb-true (value d) 64 inside.3)

    word_number : word a b c d ≡ value a * 262144 + value b * 4096 + value c * 64 + value d
    word_number =
        let va = value a in
        let vb = value b in
        let vc = value c in
        let vd = value d in
        let ab : bit_or (va * 262144) (vb * 4096) ≡ va * 262144 + vb * 4096 = or_shifted va 18 (vb * 4096) (omega (arith, small)) in
        let up : va * 262144 + vb * 4096 ≡ (va * 64 + vb) * 4096 = omega arith in
        let abc : bit_or ((va * 64 + vb) * 4096) (vc * 64) ≡ (va * 64 + vb) * 4096 + vc * 64 = or_shifted (va * 64 + vb) 12 (vc * 64) (omega (arith, small)) in
        let up6 : (va * 64 + vb) * 4096 + vc * 64 ≡ ((va * 64 + vb) * 64 + vc) * 64 = omega arith in
        let abcd : bit_or (((va * 64 + vb) * 64 + vc) * 64) vd ≡ ((va * 64 + vb) * 64 + vc) * 64 + vd = or_shifted ((va * 64 + vb) * 64 + vc) 6 vd (omega (arith, small)) in
        let one : bits (signed d) ≡ vd = last.number inside.3 ∙ omega arith in
        rw (first.number inside.0, second.number inside.1, third.number inside.2, one, ab, up, abc, up6, abcd) (omega arith)

    pub word_bytes : decode (a ∷ b ∷ c ∷ d ∷ []) ≡ bytes3 (word a b c d)
    unfolding decode
    word_bytes =
        let n = value a * 262144 + value b * 4096 + value c * 64 + value d in
        let x : byte1 a b ≡ n / 65536 % 256 = omega (arith, small) in
        let y : byte2 b c ≡ n / 256 % 256 = omega (arith, small) in
        let z : byte3 c d ≡ n % 256 = omega (arith, small) in
        rw (word_number, x, y, z)

-- the bytes of a group by its word, as it is handed on, and of two groups by theirs
abbrev pub one : ℕ × ℕ → List ℕ
one w = bytes3 w.0

abbrev pub two : ℕ × ℕ → List ℕ
two w = bytes3 w.0 ++ bytes3 w.1

handed : (x : ℤ) (a b c d : ℕ) → bits x ≡ word a b c d → bits (to_z w32 (bits x)) ≡ word a b c d
handed x a b c d p = of_z-to_z w32 (bits x) (rw p (word_fits a b c d)) ∙ p

pub one_group : (x : ℤ) (a b c d : ℕ) → bits x ≡ word a b c d → option_map one (both (to_z w32 (bits x)) (pos 0)) ≡ grouped (a ∷ b ∷ c ∷ d ∷ [])
one_group x a b c d p =
    let s = a ∷ b ∷ c ∷ d ∷ [] in
    rw (handed x a b c d p, and-true (ltb (word a b c d) 2147483648), word_test a b c d) (go (strict s) refl)
  where
    go : (t : Bool) → strict (a ∷ b ∷ c ∷ d ∷ []) ≡ t → option_map one (cond t (Some (word a b c d, 0)) None) ≡ cond t (Some (decode (a ∷ b ∷ c ∷ d ∷ []))) None
    go true h = ap Some (sym (word_bytes a b c d h))
    go false h = refl

-- eight characters, by these one by one
pub two_groups : (x y : ℤ) (s : List ℕ) → length s ≡ 8
    → bits x ≡ word (get_or s 0 0) (get_or s 1 0) (get_or s 2 0) (get_or s 3 0)
    → bits y ≡ word (get_or s 4 0) (get_or s 5 0) (get_or s 6 0) (get_or s 7 0)
    → option_map two (both (to_z w32 (bits x)) (to_z w32 (bits y))) ≡ grouped s
unfolding entries
two_groups x y s n p q = go (get_or s 0 0) (get_or s 1 0) (get_or s 2 0) (get_or s 3 0) (get_or s 4 0) (get_or s 5 0) (get_or s 6 0) (get_or s 7 0) p q ∙ ap grouped (as_entries s 8 n)
  where
    by_tests : (t u : Bool) (m n : ℕ) {s r : List ℕ} → (t ≡ true → s ≡ bytes3 m) → (u ≡ true → r ≡ bytes3 n)
        → option_map two (cond (t && u) (Some (m, n)) None) ≡ cond (t && u) (Some (s ++ r)) None
    by_tests true true m n d e = rw (d refl, e refl)
    by_tests true false m n d e = refl
    by_tests false u m n d e = refl

    go : (a b c d e f g h : ℕ) → bits x ≡ word a b c d → bits y ≡ word e f g h
        → option_map two (both (to_z w32 (bits x)) (to_z w32 (bits y))) ≡ grouped (a ∷ b ∷ c ∷ d ∷ e ∷ f ∷ g ∷ h ∷ [])
    go a b c d e f g h p q =
        let s = a ∷ b ∷ c ∷ d ∷ [] in
        let t = e ∷ f ∷ g ∷ h ∷ [] in
        rw (handed x a b c d p, handed y e f g h q, word_test a b c d, word_test e f g h, strict_append s t refl, decode_append s t refl)
        (by_tests (strict s) (strict t) _ _ (word_bytes a b c d) (word_bytes e f g h))

-- the sign of two numbers' bits together tells of both
module _ (x y : ℤ) where
  pub both_refused : lt_z (to_z w32 (bit_or (bits x) (bits y))) (pos 0) ≡ true → None ≡ both x y
  both_refused e =
      let refused = not-true _ (sym (sign (bit_or (bits x) (bits y))) ∙ e) in
      let test : ltb (bits x) 2147483648 && ltb (bits y) 2147483648 ≡ false = sym (or_test 31 (bits x) (bits y)) ∙ refused in
      rw test

  module _ (e : lt_z (to_z w32 (bit_or (bits x) (bits y))) (pos 0) ≡ false) where
    good : ltb (bits x) 2147483648 && ltb (bits y) 2147483648 ≡ true
    good = sym (or_test 31 (bits x) (bits y)) ∙ not-false _ (sym (sign (bit_or (bits x) (bits y))) ∙ e)

    pub first_number : to_z w32 (bits x) ≡ pos (bits x)
    first_number = not_negative (bits x) (Truth.both (ltb (bits x) 2147483648) _ good).0

    pub second_number : to_z w32 (bits y) ≡ pos (bits y)
    second_number = not_negative (bits y) (Truth.both (ltb (bits x) 2147483648) _ good).1

    pub both_taken : Some (nat_abs (to_z w32 (bits x)), nat_abs (to_z w32 (bits y))) ≡ both x y
    both_taken = rw (first_number, second_number, good)
