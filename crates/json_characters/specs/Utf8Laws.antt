-- UTF-8: it leaves ASCII as it is and loses nothing; the code points of a JSON string are those that have octets.
use Rattle.std.specs.Prelude.{◌≡◌, refl, Bool, true, false, cond, ◌&&◌, List, [], ◌∷◌, ◌++◌, ℕ, ◌+◌, ◌-◌, ◌*◌, ◌/◌, ◌≤◌, ◌<◌, leb}
use Rattle.std.proofs.Common.{sym, ap, ap₂, ◌∙◌, subst, arith, le-leb, leb-true, leb-false}
use Rattle.std.proofs.lemmas.Bool.{false≢true, lt-leb}
use Rattle.std.proofs.Math.Nat.{div-div-eq-div-mul}
use Rattle.json_grammar_rules.specs.Bytes.{within, is_hex, hex_val, all_hex, hex4, is_tail, code2, code3, code4, is_high, is_low, is_surrogate, pair_code}
use Rattle.json_grammar_rules.specs.Grammar.{Utf8, utf8_1, utf8_2, utf8_E0, utf8_E1, utf8_ED, utf8_EE, utf8_F0, utf8_F1, utf8_F4, code_utf8, Char, unescaped, short, unicode, surrogates, Short, short_code, code_of, Chars, cnil, ccons, codes_of}
use Rattle.json_grammar_rules.specs.Grammar.{quote, reverse_solidus, solidus, backspace, form_feed, line_feed, carriage_return, tab}
use Rattle.json_grammar_rules.specs.Reader.{Got, bad, got, read_char}
use Rattle.common.specs.Truth.{both, neither}
use Rattle.json_grammar_rules.proofs.ByteLaws.{within_true, within_is, by_test, hex_cases}
use Rattle.json_grammar_rules.proofs.ReaderLaws.{no_bad}
use Rattle.json_grammar_rules.proofs.CharLaws.{complete_char, char_sound}
use Rattle.json_characters.specs.Utf8.{tail, octets, utf8, Scalar, low, high, Each, none, more}

-- ASCII

pub octets_ascii : (c : ℕ) → c ≤ 0x7F → octets c ≡ c ∷ []
unfolding octets
octets_ascii c h = rw (le-leb c 0x7F h)

pub utf8_ascii : {cs : List ℕ} → Each (λ c. c ≤ 0x7F) cs → utf8 cs ≡ cs
unfolding utf8
utf8_ascii none = refl
utf8_ascii (more {x} {xs} h hs) = ap (λ (o : List ℕ). o ++ utf8 xs) (octets_ascii x h) ∙ ap (λ (l : List ℕ). x ∷ l) (utf8_ascii hs)

-- NOTHING IS LOST

pub most : {c : ℕ} → Scalar c → c ≤ 0x10FFFF
most (low h) = omega arith
most (high h k) = k

-- the first code point of some octets, by the first octet
two : ℕ → List ℕ → Got ℕ
two b (c ∷ r) = got (code2 b c) r
two b [] = bad

three : ℕ → List ℕ → Got ℕ
three b (c ∷ d ∷ r) = got (code3 b c d) r
three b (c ∷ []) = bad
three b [] = bad

four : ℕ → List ℕ → Got ℕ
four b (c ∷ d ∷ e ∷ r) = got (code4 b c d e) r
four b (c ∷ d ∷ []) = bad
four b (c ∷ []) = bad
four b [] = bad

decode : List ℕ → Got ℕ
decode [] = bad
decode (b ∷ r) = cond (leb b 0x7F) (got b r) (cond (leb b 0xDF) (two b r) (cond (leb b 0xEF) (three b r) (four b r)))

decode_octets : (c : ℕ) (r : List ℕ) → c ≤ 0x10FFFF → decode (octets c ++ r) ≡ got c r
unfolding octets decode two three four code2 code3 code4
decode_octets c r h =
    by_test P (leb c 0x7F) (λ e. rw e)
    (λ n. let n₁ = leb-false c 0x7F n in by_test P (leb c 0x7FF)
    (λ e. let k = leb-true c 0x7FF e in rw (lt-leb (0xC0 + c / 64) 0x7F (omega arith), le-leb (0xC0 + c / 64) 0xDF (omega arith)) (same (omega arith)))
    (λ n. let n₂ = leb-false c 0x7FF n in by_test P (leb c 0xFFFF)
    (λ e. let k = leb-true c 0xFFFF e in
    rw (lt-leb (0xE0 + c / 4096) 0x7F (omega arith), lt-leb (0xE0 + c / 4096) 0xDF (omega arith), le-leb (0xE0 + c / 4096) 0xEF (omega arith)) (same (omega arith)))
    (λ n. let n₃ = leb-false c 0xFFFF n in
    rw (lt-leb (0xF0 + c / 262144) 0x7F (omega arith), lt-leb (0xF0 + c / 262144) 0xDF (omega arith), lt-leb (0xF0 + c / 262144) 0xEF (omega arith)) (same bits))))
  where
    bits : (0xF0 + c / 262144 - 0xF0) * 262144 + (tail (c / 4096) - 0x80) * 4096 + (tail (c / 64) - 0x80) * 64 + (tail c - 0x80) ≡ c
    bits = omega (arith, div-div-eq-div-mul c 64 64, div-div-eq-div-mul c 4096 64)

    P : List ℕ → Type 0
    P o = decode (o ++ r) ≡ got c r

    same : {x : ℕ} → x ≡ c → got x r ≡ got c r
    same e = ap (λ (y : ℕ). got y r) e

octets_injective : (c d : ℕ) (r s : List ℕ) → c ≤ 0x10FFFF → d ≤ 0x10FFFF → octets c ++ r ≡ octets d ++ s → (c ≡ d) × (r ≡ s)
octets_injective c d r s h k e =
    let q : got c r ≡ got d s = sym (decode_octets c r h) ∙ ap decode e ∙ decode_octets d s k in
    (cc, cc)

pub utf8_injective : {cs ds : List ℕ} → Each Scalar cs → Each Scalar ds → utf8 cs ≡ utf8 ds → cs ≡ ds
unfolding utf8 decode
utf8_injective none none e = refl
utf8_injective none (more {x} {xs} h hs) e = no_bad (ap decode e ∙ decode_octets x (utf8 xs) (most h))
utf8_injective (more {x} {xs} h hs) none e = no_bad (sym (ap decode e) ∙ decode_octets x (utf8 xs) (most h))
utf8_injective (more {x} {xs} h hs) (more {x = y} {xs = ys} k ks) e =
    let i = octets_injective x y (utf8 xs) (utf8 ys) (most h) (most k) e in
    ap₂ (λ (a : ℕ) (l : List ℕ). a ∷ l) i.0 (utf8_injective hs ks i.1)

-- THE CODE POINTS OF A STRING

hex_small : (b : ℕ) → is_hex b ≡ true → hex_val b < 16
hex_small b h = hex_cases b h (λ l u v. omega arith) (λ l u v. omega arith) (λ l u v. omega arith)

hex4_small : (a b c d : ℕ) → all_hex a b c d ≡ true → hex4 a b c d ≤ 0xFFFF
unfolding all_hex hex4
hex4_small a b c d h =
    let i = both (is_hex a) (is_hex b && (is_hex c && is_hex d)) h in
    let j = both (is_hex b) (is_hex c && is_hex d) i.1 in
    let k = both (is_hex c) (is_hex d) j.1 in
    omega (arith, hex_small a i.0, hex_small b j.0, hex_small c k.0, hex_small d k.1)

scalar_small : (x : ℕ) → x ≤ 0xFFFF → is_surrogate x ≡ false → Scalar x
unfolding is_surrogate is_high is_low
scalar_small x h e =
    let i = neither (within 0xD800 0xDBFF x) (within 0xDC00 0xDFFF x) e in
    go (leb x 0xD7FF) (leb x 0xDBFF) (leb x 0xDFFF) refl refl refl i.0 i.1
  where
    go : (p q r : Bool) → leb x 0xD7FF ≡ p → leb x 0xDBFF ≡ q → leb x 0xDFFF ≡ r → within 0xD800 0xDBFF x ≡ false → within 0xDC00 0xDFFF x ≡ false → Scalar x
    go true q r e f g i j = low (leb-true x 0xD7FF e)
    go false q false e f g i j = let k = leb-false x 0xDFFF g in high (omega arith) (omega arith)
    go false true true e f g i j = absurd (false≢true (sym i ∙ within_is 0xD800 0xDBFF x (omega (arith, leb-false x 0xD7FF e)) (leb-true x 0xDBFF f)))
    go false false true e f g i j = absurd (false≢true (sym j ∙ within_is 0xDC00 0xDFFF x (omega (arith, leb-false x 0xDBFF f)) (leb-true x 0xDFFF g)))

scalar_utf8 : (u : Utf8) → Scalar (code_utf8 u)
unfolding code_utf8 is_tail code2 code3 code4
scalar_utf8 (utf8_1 b h) = low (omega (arith, within_true 0x00 0x7F b h))
scalar_utf8 (utf8_2 b c h k) = low (omega (arith, within_true 0xC2 0xDF b h, within_true 0x80 0xBF c k))
scalar_utf8 (utf8_E0 c d h k) = low (omega (arith, within_true 0xA0 0xBF c h, within_true 0x80 0xBF d k))
scalar_utf8 (utf8_E1 b c d h k l) = low (omega (arith, within_true 0xE1 0xEC b h, within_true 0x80 0xBF c k, within_true 0x80 0xBF d l))
scalar_utf8 (utf8_ED c d h k) = low (omega (arith, within_true 0x80 0x9F c h, within_true 0x80 0xBF d k))
scalar_utf8 (utf8_EE b c d h k l) =
    let i = within_true 0xEE 0xEF b h in
    high (omega arith) (omega (arith, within_true 0x80 0xBF c k, within_true 0x80 0xBF d l))
scalar_utf8 (utf8_F0 c d e h k l) =
    let i = within_true 0x90 0xBF c h in
    high (omega arith) (omega (arith, within_true 0x80 0xBF d k, within_true 0x80 0xBF e l))
scalar_utf8 (utf8_F1 b c d e h k l m) =
    let i = within_true 0xF1 0xF3 b h in
    high (omega arith) (omega (arith, within_true 0x80 0xBF c k, within_true 0x80 0xBF d l, within_true 0x80 0xBF e m))
scalar_utf8 (utf8_F4 c d e h k l) = high (omega arith) (omega (arith, within_true 0x80 0x8F c h, within_true 0x80 0xBF d k, within_true 0x80 0xBF e l))

scalar_short : (x : Short) → short_code x ≤ 0x5C
unfolding short_code
scalar_short quote = omega arith
scalar_short reverse_solidus = omega arith
scalar_short solidus = omega arith
scalar_short backspace = omega arith
scalar_short form_feed = omega arith
scalar_short line_feed = omega arith
scalar_short carriage_return = omega arith
scalar_short tab = omega arith

pub scalar_char : (c : Char) → Scalar (code_of c)
unfolding code_of pair_code is_high is_low
scalar_char (unescaped u h) = scalar_utf8 u
scalar_char (short x) = low (omega (arith, scalar_short x))
scalar_char (unicode a b c d h k) = scalar_small (hex4 a b c d) (hex4_small a b c d h) k
scalar_char (surrogates a b c d i j e f g h k l) =
    high (omega arith) (omega (arith, within_true 0xD800 0xDBFF (hex4 a b c d) j, within_true 0xDC00 0xDFFF (hex4 e f g h) l))

pub scalar_codes : (cs : Chars) → Each Scalar (codes_of cs)
unfolding codes_of
scalar_codes cnil = none
scalar_codes (ccons c cs) = more (scalar_char c) (scalar_codes cs)

-- the same of what the reader reads
pub char_scalar : (s : List ℕ) (c : ℕ) (r : List ℕ) → read_char s ≡ got c r → Scalar c
char_scalar s c r e =
    let i = char_sound s c r e in
    let q : got (code_of i.0) r ≡ got c r = sym (complete_char i.0 r) ∙ sym (ap read_char i.1) ∙ e in
    let z : code_of i.0 ≡ c = cc in
    subst Scalar z (scalar_char i.0)
