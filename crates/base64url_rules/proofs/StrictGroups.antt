-- A strict text, group by group.
use Rattle.std.specs.Prelude.{◌≡◌, refl, true, false, List, [], ◌∷◌, ℕ, ◌%◌, ◌<◌, eqb}
use Rattle.std.proofs.Common.{sym, ◌∙◌, ltb-true, eqb-true}
use Rattle.std.proofs.lemmas.Bool.{false≢true}
use Rattle.common.specs.Truth.{both}
use Rattle.base64url_rules.specs.Alphabet.{value, character, in_alphabet}
use Rattle.base64url_rules.proofs.AlphabetLaws.{character_value}
use Rattle.base64url_rules.specs.Base64url.{alphabetic, unused_bits, strict}
use Rattle.base64url_rules.proofs.GroupLaws.{strict_append, strict_groups}

-- a character of the alphabet: it has a value, and is that value's character
pub record Character (c : ℕ) : Type 0 where
  pub small : value c < 64
  pub back : character (value c) ≡ c

pub data Characters : List ℕ → Type 0 where
  done : Characters []
  ◌and◌ : {c : ℕ} {s : List ℕ} → Character c → Characters s → Characters (c ∷ s)

infixr 40 ◌and◌
pub characters : (s : List ℕ) → alphabetic s ≡ true → Characters s
unfolding alphabetic
characters [] e = done
characters (c ∷ s) e =
    let p = both (in_alphabet c) (alphabetic s) e in
    record { small = ltb-true (value c) 64 p.0; back = character_value c p.0 } and characters s p.1

pub data Strict : List ℕ → Type 0 where
  nothing : Strict []
  two : {a b : ℕ} → Characters (a ∷ b ∷ []) → value b % 16 ≡ 0 → Strict (a ∷ b ∷ [])
  three : {a b c : ℕ} → Characters (a ∷ b ∷ c ∷ []) → value c % 4 ≡ 0 → Strict (a ∷ b ∷ c ∷ [])
  four : {a b c d : ℕ} {s : List ℕ} → Characters (a ∷ b ∷ c ∷ d ∷ []) → Strict s → Strict (a ∷ b ∷ c ∷ d ∷ s)

pub by_groups : (s : List ℕ) → strict s ≡ true → Strict s
unfolding strict unused_bits
by_groups [] e = nothing
by_groups (a ∷ []) e = absurd (false≢true (both (alphabetic (a ∷ [])) false e).1)
by_groups (a ∷ b ∷ []) e =
    let p = both (alphabetic (a ∷ b ∷ [])) (eqb (value b % 16) 0) e in
    two (characters _ p.0) (eqb-true _ _ p.1)
by_groups (a ∷ b ∷ c ∷ []) e =
    let p = both (alphabetic (a ∷ b ∷ c ∷ [])) (eqb (value c % 4) 0) e in
    three (characters _ p.0) (eqb-true _ _ p.1)
by_groups (a ∷ b ∷ c ∷ d ∷ s) e =
    let group = a ∷ b ∷ c ∷ d ∷ [] in
    let p = both (strict group) (strict s) (sym (strict_append group s refl) ∙ e) in
    four (characters group (sym (strict_groups group refl) ∙ p.0)) (by_groups s p.1)
