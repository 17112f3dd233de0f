-- Spelling: a small letter among the digits of an escape says the same as the capital one, so names that differ in this alone are one name.
use Rattle.std.specs.Prelude.{◌≡◌, refl, Bool, true, false, cond, List, [], ◌∷◌, ℕ, ◌+◌}
use Rattle.std.proofs.Common.{ap, ap₂, ◌∙◌, arith}
use Rattle.json_grammar_rules.specs.Bytes.{within, is_digit, is_hex, hex_val, all_hex, hex4, is_high, is_low, is_surrogate, pair_code}
use Rattle.json_grammar_rules.specs.Grammar.{Char, unescaped, short, unicode, surrogates, Chars, cnil, ccons, yield_chars, code_of, codes_of}
use Rattle.json_grammar_rules.proofs.ByteLaws.{within_true, within_is, above}
use Rattle.json_grammar_rules.proofs.ShownLaws.{text_once}

-- a digit, a capital letter made small
unfoldable pub small : ℕ → ℕ
small b = cond (within 0x41 0x46 b) (b + 0x20) b

-- it is a digit where it was one, and of the same value
small_digit : (b : ℕ) → (is_hex (small b) ≡ is_hex b) × (hex_val (small b) ≡ hex_val b)
unfolding small is_hex hex_val is_digit
small_digit b = go (within 0x41 0x46 b) refl
  where
    go : (t : Bool) → within 0x41 0x46 b ≡ t → (is_hex (cond t (b + 0x20) b) ≡ is_hex b) × (hex_val (cond t (b + 0x20) b) ≡ hex_val b)
    go true e =
        let p = within_true 0x41 0x46 b e in
        rw (above 0x30 0x39 b (omega (arith, p)), e, above 0x30 0x39 (b + 0x20) (omega (arith, p)), above 0x41 0x46 (b + 0x20) (omega (arith, p)), within_is 0x61 0x66 (b + 0x20) (omega (arith, p)) (omega (arith, p)))
        (refl, omega (arith, p))
    go false e = (refl, refl)

module _ (a b c d : ℕ) where
  pub small_all : all_hex (small a) (small b) (small c) (small d) ≡ all_hex a b c d
  unfolding all_hex
  small_all = rw ((small_digit a).0, (small_digit b).0, (small_digit c).0, (small_digit d).0)

  pub small_hex4 : hex4 (small a) (small b) (small c) (small d) ≡ hex4 a b c d
  unfolding hex4
  small_hex4 = rw ((small_digit a).1, (small_digit b).1, (small_digit c).1, (small_digit d).1)

-- a character, and a string, the digits of their escapes made small
unfoldable pub small_char : Char → Char
small_char (unescaped u h) = unescaped u h
small_char (short x) = short x
small_char (unicode a b c d h k) = unicode (small a) (small b) (small c) (small d) (small_all a b c d ∙ h) (ap is_surrogate (small_hex4 a b c d) ∙ k)
small_char (surrogates a b c d i j e f g h k l) =
    surrogates (small a) (small b) (small c) (small d) (small_all a b c d ∙ i) (ap is_high (small_hex4 a b c d) ∙ j)
    (small e) (small f) (small g) (small h) (small_all e f g h ∙ k) (ap is_low (small_hex4 e f g h) ∙ l)

unfoldable pub small_chars : Chars → Chars
small_chars cnil = cnil
small_chars (ccons c cs) = ccons (small_char c) (small_chars cs)

-- their code points stay
small_code : (c : Char) → code_of (small_char c) ≡ code_of c
unfolding small_char code_of
small_code (unescaped u h) = refl
small_code (short x) = refl
small_code (unicode a b c d h k) = small_hex4 a b c d
small_code (surrogates a b c d i j e f g h k l) = ap₂ pair_code (small_hex4 a b c d) (small_hex4 e f g h)

pub small_codes : (cs : Chars) → codes_of (small_chars cs) ≡ codes_of cs
unfolding small_chars codes_of
small_codes cnil = refl
small_codes (ccons c cs) = ap₂ (λ (x : ℕ) (xs : List ℕ). x ∷ xs) (small_code c) (small_codes cs)

-- ONE NAME: strings whose bytes are the same once their digits are made small have the same code points, by which names are compared
pub one_name : (cs ds : Chars) → yield_chars (small_chars cs) [] ≡ yield_chars (small_chars ds) [] → codes_of cs ≡ codes_of ds
one_name cs ds e = text_once _ _ _ (small_chars cs, e, small_codes cs) (small_chars ds, refl, small_codes ds)
