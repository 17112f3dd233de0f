-- Laws for the functions on classes of bytes.
use Rattle.std.specs.Prelude.{Some, None}
use mathlib.Core.Path.{◌≡◌, refl, sym, ◌∙◌}
use mathlib.Core.Logic.{◌⊎◌, inl, inr}
use mathlib.Core.Bool.{Bool, true, false, cond, false≢true}
use Prim.Native.Nat.{ℕ, ◌≤◌, ◌<◌, ◌+◌, ◌-◌, ◌*◌, ◌/◌, ◌%◌}
use native.Mathlib.Omega.{arith}
use lib.Dec.{leb}
use borrow.Author.Tests.{leb-true, leb-false}
use Rattle.common.proofs.FirstLaws.{decides_bool, decides_or}
use Rattle.common.proofs.Decided.{decided, decides_by}
use Rattle.json_grammar_rules.specs.Bytes.{within, is_digit, is_hex, hex_val}
use Rattle.json_grammar_rules.specs.Reader.{is_unescaped1}
use Rattle.json_grammar_rules.proofs.ByteLaws.{within_true, within_is, above, below, hex_cases}
use Rattle.json_characters.specs.Steps.{hex_digit}

pub not_within : (lo hi b : ℕ) → (lo ≤ b → hi < b) → within lo hi b ≡ false
not_within lo hi b n = go (leb lo b) refl
  where
    go : (t : Bool) → leb lo b ≡ t → within lo hi b ≡ false
    go true e = above lo hi b (n (leb-true lo b e))
    go false e = below lo hi b (leb-false lo b e)

pub outside : {lo hi b : ℕ} → (b < lo) ⊎ ((lo ≤ b) × (hi < b)) → within lo hi b ≡ false
outside {lo} {hi} {b} (inl h) = below lo hi b h
outside {lo} {hi} {b} (inr h) = above lo hi b h.1

pub unescaped_1 : (b : ℕ) → within 0x20 0x21 b ≡ true → true ≡ is_unescaped1 b
unfolding is_unescaped1
unescaped_1 b e = rw e

pub unescaped_2 : (b : ℕ) → within 0x20 0x21 b ≡ false → within 0x23 0x5B b ≡ true → true ≡ is_unescaped1 b
unfolding is_unescaped1
unescaped_2 b e f = rw (e, f)

pub unescaped_3 : (b : ℕ) → within 0x20 0x21 b ≡ false → within 0x23 0x5B b ≡ false → within 0x5D 0x7F b ≡ is_unescaped1 b
unfolding is_unescaped1
unescaped_3 b e f = rw (e, f)

-- THE DIGITS OF AN ESCAPE

-- without bit 5, letters of both cases are in one range
pub hex_2 : (b : ℕ) → within 0x30 0x39 b ≡ false → within 0x41 0x46 (b / 64 * 64 + b % 32) ≡ is_hex b
unfolding is_hex is_digit
hex_2 b e = rw e (decided (decides_bool _) (decides_by (decides_or (decides_bool _) (decides_bool _)) cleared either_case))
  where
    cleared : (within 0x41 0x46 b ≡ true) ⊎ (within 0x61 0x66 b ≡ true) → within 0x41 0x46 (b / 64 * 64 + b % 32) ≡ true
    cleared (inl h) = let p = within_true 0x41 0x46 b h in within_is 0x41 0x46 _ (omega (arith, p)) (omega (arith, p))
    cleared (inr h) = let p = within_true 0x61 0x66 b h in within_is 0x41 0x46 _ (omega (arith, p)) (omega (arith, p))

    either_case : within 0x41 0x46 (b / 64 * 64 + b % 32) ≡ true → (within 0x41 0x46 b ≡ true) ⊎ (within 0x61 0x66 b ≡ true)
    either_case h = let p = within_true 0x41 0x46 _ h in go (leb b 0x5F) refl p
      where
        go : (t : Bool) → leb b 0x5F ≡ t → (0x41 ≤ b / 64 * 64 + b % 32) × (b / 64 * 64 + b % 32 ≤ 0x46) → (within 0x41 0x46 b ≡ true) ⊎ (within 0x61 0x66 b ≡ true)
        go true k p = let q = leb-true b 0x5F k in inl (within_is 0x41 0x46 b (omega (arith, p)) (omega (arith, p)))
        go false k p = let q = leb-false b 0x5F k in inr (within_is 0x61 0x66 b (omega (arith, p)) (omega (arith, p)))

module _ (b : ℕ) where
  pub digit_decimal : {x : ℕ} → within 0x30 0x39 b ≡ true → x ≡ b - 0x30 → Some x ≡ hex_digit b
  unfolding is_hex hex_val is_digit
  digit_decimal h e = rw (e, h)

  pub digit_letter : {x : ℕ} → within 0x30 0x39 b ≡ false → within 0x41 0x46 (b / 64 * 64 + b % 32) ≡ true → x ≡ b % 32 + 9 → Some x ≡ hex_digit b
  digit_letter {x} h l e =
      let k : is_hex b ≡ true = sym (hex_2 b h) ∙ l in
      let v : x ≡ hex_val b =
      hex_cases b k
      (λ l u v. absurd (false≢true (sym h ∙ within_is 0x30 0x39 b l u)))
      (λ l u v. omega arith)
      (λ l u v. omega arith) in
      rw (k, ← v)

  pub digit_none : within 0x30 0x39 b ≡ false → within 0x41 0x46 (b / 64 * 64 + b % 32) ≡ false → None ≡ hex_digit b
  digit_none h l = let k : is_hex b ≡ false = sym (hex_2 b h) ∙ l in rw k

  -- what the answer says of the byte
  pub digit_is : {y : ℕ} → Some y ≡ hex_digit b → (is_hex b ≡ true) × (y ≡ hex_val b) × (y < 16)
  digit_is {y} e = go (is_hex b) refl e
    where
      go : (t : Bool) → is_hex b ≡ t → Some y ≡ cond t (Some (hex_val b)) None → (is_hex b ≡ true) × (y ≡ hex_val b) × (y < 16)
      go true h f =
          let v : y ≡ hex_val b = cc in
          (h, v, hex_cases b h (λ l u w. omega arith) (λ l u w. omega arith) (λ l u w. omega arith))
      go false h f = absurd (let z : ◌≡◌ {A = ℕ} 0 1 = cc in omega arith)

  pub digit_no : None ≡ hex_digit b → is_hex b ≡ false
  digit_no e = go (is_hex b) refl e
    where
      go : (t : Bool) → is_hex b ≡ t → None ≡ cond t (Some (hex_val b)) None → is_hex b ≡ false
      go true h f = absurd (let z : ◌≡◌ {A = ℕ} 0 1 = cc in omega arith)
      go false h f = h
