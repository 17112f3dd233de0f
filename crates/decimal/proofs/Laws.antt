-- What the code does with digits, one at a time, and with the sign.
use Rattle.std.specs.Prelude.{◌≡◌, refl, Bool, true, false, cond, ◌&&◌, List, [], ◌∷◌, ℕ, zero, suc, ◌+◌, ◌*◌, ◌-◌, ◌/◌, ◌≤◌, ◌<◌, leb, ℤ, pos, neg_ℤ, length, get_or, take, drop, Option, Some, None}
use Rattle.std.proofs.Common.{sym, ap, ◌∙◌, add-one, arith, le-leb, eq-eqb}
use Rattle.std.proofs.Math.Bool.{and-true, and-false}
use Rattle.std.proofs.Math.Seq.{take-length, drop-cons}
use lib.Dec.{leb-suc-suc}
use lib.ListN.{drop_of_length-le}
use borrow.Author.Tests.{lt-leb, leb-true, ne_eqb}
use Rattle.common.specs.Ranges.{within, is_digit}
use Rattle.decimal_rules.specs.Integer.{all_digits, after, digits, number, in_range, integer_of}
use Rattle.decimal.specs.Magnitude.{digit_of, magnitude_of}

-- what the digits s give after the number m
unfoldable pub reach : ℕ → ℕ → List ℕ → Option ℕ
reach most m s = cond (all_digits s && leb (after m s) most) (Some (after m s)) None

pub no_digits : (most : ℕ) (s : List ℕ) → length s ≡ 0 → None ≡ magnitude_of most s
unfolding magnitude_of
no_digits most [] e = refl
no_digits most (c ∷ s) e = absurd (omega arith)

pub start : (most : ℕ) (s : List ℕ) → (length s ≡ 0 → ⊥) → magnitude_of most s ≡ reach most 0 s
unfolding magnitude_of reach
start most [] h = absurd (h refl)
start most (c ∷ s) h = refl

pub end : (most m : ℕ) (s : List ℕ) (i : ℕ) → length s ≤ i → m ≤ most → reach most m (drop i s) ≡ Some m
unfolding reach after all_digits
end most m s i l h = rw (drop_of_length-le s l, le-leb m most h)

-- more digits make the number no less
after_le : (m : ℕ) (s : List ℕ) → m ≤ after m s
unfolding after
after_le m [] = omega arith
after_le m (c ∷ s) = let h = after_le (10 * m + (c - 48)) s in omega arith

-- the character at i is a digit d, ..
module _ (most m : ℕ) (s : List ℕ) (i : ℕ) (h : i < length s) where
  abbrev c : ℕ
  c = get_or s i 0

  abbrev rest : List ℕ
  rest = drop (suc i) s

  abbrev given : Bool → Option ℕ
  given b = cond ((b && all_digits rest) && leb (after (10 * m + (c - 48)) rest) most) (Some (after (10 * m + (c - 48)) rest)) None

  pub next : {d : ℕ} → Some d ≡ digit_of c → reach most m (drop i s) ≡ reach most (10 * m + d) (drop (i + 1) s)
  unfolding reach after all_digits
  next {d} e = rw (drop-cons s i 0 h, add-one) (go (is_digit c) e)
    where
      go : (b : Bool) → Some d ≡ cond b (Some (c - 48)) None
          → given b ≡ cond (all_digits rest && leb (after (10 * m + d) rest) most) (Some (after (10 * m + d) rest)) None
      go true e = let f : c - 48 ≡ d = cc in rw f
      go false e = cc

  -- .. and makes the number too great, ..
  pub over : {d : ℕ} → Some d ≡ digit_of c → (most - d) / 10 < m → reach most m (drop i s) ≡ None
  unfolding reach after all_digits
  over {d} e k = rw (drop-cons s i 0 h) (go (is_digit c) e)
    where
      go : (b : Bool) → Some d ≡ cond b (Some (c - 48)) None → given b ≡ None
      go true e =
          let f : c - 48 ≡ d = cc in
          let g = after_le (10 * m + (c - 48)) rest in
          rw (lt-leb (after (10 * m + (c - 48)) rest) most (omega arith), and-false)
      go false e = cc

  -- .. or is none
  pub no_digit : None ≡ digit_of c → reach most m (drop i s) ≡ None
  unfolding reach after all_digits
  no_digit e = rw (drop-cons s i 0 h) (go (is_digit c) e)
    where
      go : (b : Bool) → None ≡ cond b (Some (c - 48)) None → given b ≡ None
      go true e = cc
      go false e = refl

-- a digit is at most 9
pub digit_small : (c : ℕ) {d : ℕ} → Some d ≡ digit_of c → d ≤ 9
unfolding is_digit within
digit_small c {d} e = go (leb 48 c) (leb c 57) refl e
  where
    go : (a b : Bool) → leb c 57 ≡ b → Some d ≡ cond (a && b) (Some (c - 48)) None → d ≤ 9
    go true true k e = let f : c - 48 ≡ d = cc in let h = leb-true c 57 k in omega arith
    go true false k e = cc
    go false b k e = cc

-- THE SIGN

-- the integer of digits after a minus sign, or of a text without one
abbrev pub signed : Bool → Option ℕ → Option ℤ
signed minus (Some m) = Some (cond minus (neg_ℤ (pos m)) (pos m))
signed minus None = None

signed_if : (minus b : Bool) (m : ℕ) → cond b (Some (cond minus (neg_ℤ (pos m)) (pos m))) None ≡ signed minus (cond b (Some m) None)
signed_if minus true m = refl
signed_if minus false m = refl

in_range_minus : (m : ℕ) → in_range (neg_ℤ (pos m)) ≡ leb m 9223372036854775808
in_range_minus zero = refl
in_range_minus (suc n) = and-true (leb n 9223372036854775807) ∙ sym (leb-suc-suc n 9223372036854775807)

-- the text begins with a minus sign, ..
pub with_minus : (s : List ℕ) → 1 ≤ length s → get_or s 0 0 ≡ 45 → {o : Option ℕ}
    → o ≡ magnitude_of 9223372036854775808 (take (length s - 1) (drop 1 s)) → signed true o ≡ integer_of s
unfolding integer_of magnitude_of
with_minus [] h e f = absurd (omega arith)
with_minus (c ∷ s) h e f =
    let l : length (c ∷ s) - 1 ≡ length s = omega arith in
    ap (signed true) f ∙ rw (l, take-length s, eq-eqb c 45 e, in_range_minus) (sym (signed_if true (digits s && leb (number s) 9223372036854775808) (number s)))

-- .. or it doesn't
pub without : (s : List ℕ) → (get_or s 0 0 ≡ 45 → ⊥) → {o : Option ℕ} → o ≡ magnitude_of 9223372036854775807 s → signed false o ≡ integer_of s
unfolding integer_of magnitude_of
without [] e f = ap (signed false) f
without (c ∷ s) e f =
    ap (signed false) f ∙ rw (ne_eqb c 45 e) (sym (signed_if false (digits (c ∷ s) && leb (number (c ∷ s)) 9223372036854775807) (number (c ∷ s))))

pub empty : (s : List ℕ) → length s < 1 → get_or s 0 0 ≡ 45 → ⊥
empty [] h e = omega arith
empty (c ∷ s) h e = omega arith

pub at_most : (most : ℕ) (s : List ℕ) {m : ℕ} → Some m ≡ magnitude_of most s → m ≤ most
unfolding magnitude_of
at_most most s {m} e = pick (digits s) (leb (number s) most) refl e
  where
    pick : (a b : Bool) → leb (number s) most ≡ b → Some m ≡ cond (a && b) (Some (number s)) None → m ≤ most
    pick true true k e = let f : number s ≡ m = cc in let h = leb-true (number s) most k in omega arith
    pick true false k e = cc
    pick false b k e = cc
