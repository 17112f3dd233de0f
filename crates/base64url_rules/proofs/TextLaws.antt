-- A strict text has only characters of the alphabet. They are bytes, and none is a period: periods can stand between texts (RFC 7515 section 7.1).
use Rattle.std.specs.Prelude.{◌≡◌, refl, Bool, true, false, not, ◌&&◌, List, [], ◌∷◌, ℕ, zero, suc, ◌<◌, eqb, length, get_or}
use Rattle.std.proofs.Common.{ap, sym, ◌∙◌, le_of_suc-le-suc, not-suc-le-zero, arith, ltb-true, ne_eqb}
use Rattle.std.proofs.lemmas.Bool.{false≢true}
use Rattle.common.specs.Bytes.{Bytes, none, more}
use Rattle.common.specs.Ranges.{within}
use Rattle.common.specs.Truth.{both}
use Rattle.base64url_rules.specs.Alphabet.{value, in_alphabet}
use Rattle.base64url_rules.proofs.AlphabetLaws.{character_below}
use Rattle.base64url_rules.specs.Base64url.{encode, alphabetic, unused_bits, bad_length, strict}
use Rattle.base64url_rules.proofs.RoundTrip.{strict_encode}

pub strict_alphabetic : (s : List ℕ) → strict s ≡ true → alphabetic s ≡ true
unfolding strict
strict_alphabetic s e = (both (alphabetic s) (not (bad_length s) && eqb (unused_bits s) 0) e).0

pub alphabetic_encode : {s : List ℕ} → Bytes s → alphabetic (encode s) ≡ true
alphabetic_encode {s} b = strict_alphabetic (encode s) (strict_encode b)

pub alphabetic_at : (s : List ℕ) (i : ℕ) → alphabetic s ≡ true → i < length s → in_alphabet (get_or s i 0) ≡ true
unfolding alphabetic
alphabetic_at [] i e h = absurd (not-suc-le-zero h)
alphabetic_at (c ∷ s) zero e h = (both (in_alphabet c) (alphabetic s) e).0
alphabetic_at (c ∷ s) (suc i) e h = alphabetic_at s i (both (in_alphabet c) (alphabetic s) e).1 (le_of_suc-le-suc h)

pub alphabetic_bytes : (s : List ℕ) → alphabetic s ≡ true → Bytes s
unfolding alphabetic
alphabetic_bytes [] e = none
alphabetic_bytes (c ∷ s) e =
    let p = both (in_alphabet c) (alphabetic s) e in
    let h = character_below c (ltb-true (value c) 64 p.0) in
    more {x = c} (omega arith) (alphabetic_bytes s p.1)

-- s does not have the character c
unfoldable pub lacks : ℕ → List ℕ → Bool
lacks c [] = true
lacks c (x ∷ s) = not (eqb x c) && lacks c s

period : in_alphabet 46 ≡ false
unfolding within value
period = refl

differs : (c : ℕ) → in_alphabet c ≡ true → c ≡ 46 → ⊥
differs c e p = false≢true (sym period ∙ sym (ap in_alphabet p) ∙ e)

pub no_period_at : (s : List ℕ) (i : ℕ) → alphabetic s ≡ true → i < length s → get_or s i 0 ≡ 46 → ⊥
no_period_at s i e h = differs (get_or s i 0) (alphabetic_at s i e h)

pub no_period : (s : List ℕ) → alphabetic s ≡ true → lacks 46 s ≡ true
unfolding alphabetic lacks
no_period [] e = refl
no_period (c ∷ s) e =
    let p = both (in_alphabet c) (alphabetic s) e in
    rw (ne_eqb c 46 (differs c p.0), no_period s p.1)
