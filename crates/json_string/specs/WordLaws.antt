-- A string of a JSON text that is compared with a word of ASCII.
use Rattle.std.specs.Prelude.{◌≡◌, Bool, true, ◌&&◌, List, [], ◌∷◌, ℕ, ◌≤◌, leb}
use Rattle.std.proofs.Common.{sym, ap, ◌∙◌, arith}
use Rattle.common.proofs.FirstLaws.{decides_le, decides_iff, ◌and◌, decides_bool}
use Rattle.common.proofs.Decided.{decided, when_true}
use Rattle.common.specs.Same.{same}
use Rattle.common.proofs.SameLaws.{decides_same}
use Rattle.json_string.specs.Strings.{NameAt, text_is}
use Rattle.json_string.specs.StringLaws.{name_is, name_scalar}
use Rattle.json_characters.specs.Utf8.{utf8, Scalar, low, Each, none, more}
use Rattle.json_characters.specs.Utf8Laws.{utf8_ascii, utf8_injective}

-- all characters are ASCII
unfoldable pub is_ascii : List ℕ → Bool
is_ascii [] = true
is_ascii (c ∷ w) = leb c 0x7F && is_ascii w

ascii : (w : List ℕ) → is_ascii w ≡ true → Each (λ c. c ≤ 0x7F) w
unfolding is_ascii
ascii [] e = none
ascii (c ∷ w) e = let p = when_true (decides_le c 0x7F and decides_bool (is_ascii w)) e in more p.0 (ascii w p.1)

scalars : {w : List ℕ} → Each (λ c. c ≤ 0x7F) w → Each Scalar w
scalars none = none
scalars (more {x} l ls) = let k : x ≤ 0xD7FF = omega arith in more (low k) (scalars ls)

-- a string of the text and a word of ASCII are compared by code points
word_same : (w : List ℕ) → is_ascii w ≡ true → (h : List ℕ) (p : ℕ) (cs : List ℕ) → NameAt h p cs → same (utf8 cs) w ≡ same cs w
word_same w e h p cs a =
    let small = ascii w e in
    decided
    (decides_iff (λ q. utf8_injective (name_scalar h p cs a) (scalars small) (q ∙ sym (utf8_ascii small))) (λ q. ap utf8 q ∙ utf8_ascii small) (decides_same (utf8 cs) w))
    (decides_same cs w)

pub text_word : (w : List ℕ) → is_ascii w ≡ true → (h : List ℕ) (p : ℕ) (cs : List ℕ) → NameAt h p cs → text_is h p w ≡ same cs w
text_word w e h p cs a = name_is h p cs a w ∙ word_same w e h p cs a
