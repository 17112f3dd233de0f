-- Laws of the string at a place, character by character.
use Rattle.std.specs.Prelude.{◌≡◌, refl, Bool, true, false, List, [], ◌∷◌, ℕ, zero, suc, ◌+◌, ◌≤◌, ◌<◌, drop, get_or, Some, None}
use Rattle.std.proofs.Math.Path.{ap}
use Rattle.std.proofs.Common.{◌∙◌, arith, drop_of_length-le, ne_eqb}
use Rattle.std.proofs.Math.ListN.{length}
use Rattle.json_grammar_rules.specs.Reader.{Got, bad, got, then, over, is_unescaped1, read_char, read_chars}
use Rattle.json_grammar_rules.proofs.CharLaws.{chars_fuel}
use Rattle.json_characters.specs.Characters.{CharAt}
use Rattle.json_characters.specs.CharacterLaws.{char_plain, plain_quote}
use Rattle.json_string.specs.Ends.{at_byte, shorter}
use Rattle.json_string.specs.Strings.{text_at, given}

none_left : (n : ℕ) → read_chars n [] ≡ bad
unfolding read_chars
none_left zero = refl
none_left (suc n) = refl

pub text_out : (s : List ℕ) (p : ℕ) → length s ≤ p → text_at s p ≡ bad
unfolding text_at
text_out s p h = ap (read_chars (length (drop p s))) (drop_of_length-le s h) ∙ none_left (length (drop p s))

module _ (s : List ℕ) (p : ℕ) (h : p < length s) where
  -- the fuel that is left after the byte at p
  abbrev after : ℕ
  after = length (drop (p + 1) s)

  -- one character, then the others
  chars_step : (m : ℕ) → (get_or s p 0 ≡ 0x22 → ⊥) → read_chars (suc m) (drop p s) ≡ then (read_char (drop p s)) (λ c r. over (λ cs. c ∷ cs) (read_chars m r))
  unfolding read_chars
  chars_step m n =
      ap (read_chars (suc m)) (at_byte s p h)
      ∙ rw (ne_eqb (get_or s p 0) 0x22 n, ← at_byte s p h)

  chars_quote : (m : ℕ) → get_or s p 0 ≡ 0x22 → read_chars (suc m) (drop p s) ≡ got [] (drop (p + 1) s)
  unfolding read_chars
  chars_quote m e = ap (read_chars (suc m)) (at_byte s p h) ∙ rw e

  text_fuel : text_at s p ≡ read_chars (suc after) (drop p s)
  unfolding text_at
  text_fuel = ap (λ (n : ℕ). read_chars n (drop p s)) (ap length (at_byte s p h))

  pub text_quote : get_or s p 0 ≡ 0x22 → text_at s p ≡ got [] (drop (p + 1) s)
  text_quote b = text_fuel ∙ chars_quote after b

  module _ (b : get_or s p 0 ≡ 0x22 → ⊥) where
    -- what the first character g, and those after it, give
    abbrev read_on : Got ℕ → Got (List ℕ)
    read_on g = then g (λ c r. over (λ cs. c ∷ cs) (read_chars after r))

    text_first : text_at s p ≡ read_on (read_char (drop p s))
    text_first = text_fuel ∙ chars_step after b

    pub text_wrong_lem : CharAt s p None → text_at s p ≡ bad
    unfolding CharAt
    text_wrong_lem w = text_first ∙ ap read_on w

    pub text_step : (c e : ℕ) → CharAt s p (Some (c, e)) → text_at s p ≡ over (λ cs. c ∷ cs) (text_at s e)
    unfolding CharAt text_at
    text_step c e w =
        text_first ∙ ap read_on w.2
        ∙ ap (over (λ cs. c ∷ cs)) (chars_fuel after (length (drop e s)) (drop e s) (shorter s (p + 1) e after w.0 (omega arith)) (omega arith))

    -- a string there is not empty
    pub text_some : (f : List ℕ → Bool) → ((c : ℕ) (a : List ℕ) → f (c ∷ a) ≡ false) → given f false (text_at s p) ≡ false
    text_some f n = ap (given f false) text_first ∙ go (read_char (drop p s))
      where
        more : (c : ℕ) (g : Got (List ℕ)) → given f false (over (λ cs. c ∷ cs) g) ≡ false
        more c (got a r) = n c a
        more c bad = refl

        go : (g : Got ℕ) → given f false (read_on g) ≡ false
        go (got c r) = more c (read_chars after r)
        go bad = refl

-- f of what is made of what was read
pub given_over : {A B C : Type 0} (f : B → C) (k : A → B) (f' : A → C) (d : C) → ((a : A) → f (k a) ≡ f' a) → (g : Got A) → given f d (over k g) ≡ given f' d g
given_over f k f' d e (got a r) = e a
given_over f k f' d e bad = refl

pub given_same : {A B : Type 0} (d : B) (g : Got A) → given (λ _. d) d g ≡ d
given_same d (got a r) = refl
given_same d bad = refl

-- the string after a byte that stands unescaped
pub text_plain : (s : List ℕ) (p : ℕ) → p < length s → (c : ℕ) → is_unescaped1 (get_or s p 0) ≡ true → c ≡ get_or s p 0 → text_at s p ≡ over (λ cs. c ∷ cs) (text_at s (p + 1))
text_plain s p h c e k = text_step s p h (plain_quote (get_or s p 0) e) c (p + 1) (char_plain s p h c e k)
