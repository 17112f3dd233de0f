-- Characters and strings: what the grammar derives the reader reads, and what it reads is derived.
use Rattle.std.specs.Prelude.{◌≡◌, refl, Bool, true, false, List, [], ◌∷◌, ℕ, zero, suc, ◌≤◌, ◌+◌, ◌*◌, leb, eqb, length}
use Rattle.std.proofs.Common.{sym, ap, ◌∙◌, arith, eqb-true, ne_eqb, le-leb, leb-true, leb-false}
use Rattle.std.proofs.lemmas.Bool.{eqb-false}
use Rattle.json_grammar_rules.specs.Bytes.{within, is_unescaped, is_tail, all_hex, hex4, code2, code3, code4, is_high, is_low, is_surrogate}
use Rattle.json_grammar_rules.specs.Grammar.{Utf8, utf8_1, utf8_2, utf8_E0, utf8_E1, utf8_ED, utf8_EE, utf8_F0, utf8_F1, utf8_F4, code_utf8, yield_utf8}
use Rattle.json_grammar_rules.specs.Grammar.{Short, quote, reverse_solidus, solidus, backspace, form_feed, line_feed, carriage_return, tab, short_byte}
use Rattle.json_grammar_rules.specs.Grammar.{short_code}
use Rattle.json_grammar_rules.specs.Grammar.{Char, unescaped, short, unicode, surrogates, Chars, cnil, ccons, yield_char, yield_chars, code_of, codes_of}
use Rattle.json_grammar_rules.specs.Reader.{Got, bad, got, then, over, one, expect, CharLead, lead2, lead3, lead4, is_unescaped1, char_lead, read_two}
use Rattle.json_grammar_rules.specs.Reader.{read_three, read_four}
use Rattle.json_grammar_rules.specs.Reader.{hex_by, read_hex, low_by, read_low, unicode_by, read_unicode, EscapeLead, escape_lead_of, escape_by, read_escape}
use Rattle.json_grammar_rules.specs.Reader.{char_by, read_char, chars_by, chars, read_chars}
use Rattle.common.specs.Truth.{neither}
use Rattle.json_grammar_rules.proofs.ByteLaws.{either, by_test, by_byte, within_true, within_high, within_is, below, above}
use Rattle.json_grammar_rules.proofs.ReaderLaws.{no_bad, then_inv, over_inv, one_inv, expect_inv, enough}
use Rattle.json_grammar_rules.proofs.Written.{longer}
use Rattle.json_grammar_rules.proofs.Written

-- CODE POINTS

-- of one byte
ascii : (b : ℕ) → b ≤ 0x7F → is_unescaped1 b ≡ is_unescaped b
unfolding is_unescaped1 is_unescaped within
ascii b h = rw (le-leb b 0x7F h, le-leb b 0x10FFFF (omega arith))

pub ascii_high : (b : ℕ) → is_unescaped1 b ≡ true → b ≤ 0x7F
unfolding is_unescaped1
ascii_high b h =
    either _ _ h (λ k. either _ _ k (within_high 0x20 0x21 0x7F b (omega arith)) (within_high 0x23 0x5B 0x7F b (omega arith)))
    (within_high 0x5D 0x7F 0x7F b (omega arith))

-- above U+007F all are unescaped
wide : (x : ℕ) → 0x80 ≤ x → x ≤ 0x10FFFF → is_unescaped x ≡ true
unfolding is_unescaped
wide x h k = rw (above 0x20 0x21 x (omega arith), above 0x23 0x5B x (omega arith), within_is 0x5D 0x10FFFF x (omega arith) k)

-- COMPLETE

no_ascii : (b : ℕ) → 0x80 ≤ b → is_unescaped1 b ≡ false
unfolding is_unescaped1
no_ascii b h = rw (above 0x20 0x21 b (omega arith), above 0x23 0x5B b (omega arith), above 0x5D 0x7F b (omega arith))

lead_two : (b : ℕ) → within 0xC2 0xDF b ≡ true → char_lead b ≡ lead2
unfolding char_lead
lead_two b h = let k = within_true 0xC2 0xDF b h in rw (no_ascii b (omega (arith, k)), ne_eqb b 0x5C (omega (arith, k)), h)

lead_three : (b : ℕ) → 0xE1 ≤ b → b ≤ 0xEF → (b ≡ 0xED → ⊥) → char_lead b ≡ lead3 0x80 0xBF
unfolding char_lead
lead_three b l h n =
    rw (
      no_ascii b (omega arith),
      ne_eqb b 0x5C (omega arith),
      above 0xC2 0xDF b (omega arith),
      ne_eqb b 0xE0 (omega arith),
      ne_eqb b 0xED n,
      within_is 0xE1 0xEF b l h,
    )

lead_four : (b : ℕ) → within 0xF1 0xF3 b ≡ true → char_lead b ≡ lead4 0x80 0xBF
unfolding char_lead
lead_four b h =
    let k = within_true 0xF1 0xF3 b h in
    rw (
      no_ascii b (omega (arith, k)),
      ne_eqb b 0x5C (omega (arith, k)),
      above 0xC2 0xDF b (omega (arith, k)),
      ne_eqb b 0xE0 (omega (arith, k)),
      ne_eqb b 0xED (omega (arith, k)),
      above 0xE1 0xEF b (omega (arith, k)),
      ne_eqb b 0xF0 (omega (arith, k)),
      ne_eqb b 0xF4 (omega (arith, k)),
      h,
    )

complete_utf8 : (u : Utf8) (r : List ℕ) → is_unescaped (code_utf8 u) ≡ true → read_char (yield_utf8 u r) ≡ got (code_utf8 u) r
unfolding read_char char_lead yield_utf8 code_utf8 is_tail is_unescaped1 within
complete_utf8 (utf8_1 b h) r e = rw (ascii b (within_true 0x00 0x7F b h).1 ∙ e)
complete_utf8 (utf8_2 b c h k) r e = rw (lead_two b h, k)
complete_utf8 (utf8_E0 c d h k) r e = rw (h, k)
complete_utf8 (utf8_E1 b c d h k l) r e = let p = within_true 0xE1 0xEC b h in rw (lead_three b p.0 (omega (arith, p)) (omega (arith, p)), k, l)
complete_utf8 (utf8_ED c d h k) r e = rw (h, k)
complete_utf8 (utf8_EE b c d h k l) r e = let p = within_true 0xEE 0xEF b h in rw (lead_three b (omega (arith, p)) p.1 (omega (arith, p)), k, l)
complete_utf8 (utf8_F0 c d e h k l) r i = rw (h, k, l)
complete_utf8 (utf8_F1 b c d e h k l m) r i = rw (lead_four b h, k, l, m)
complete_utf8 (utf8_F4 c d e h k l) r i = rw (h, k, l)

pub complete_char : (c : Char) (r : List ℕ) → read_char (yield_char c r) ≡ got (code_of c) r
unfolding read_char char_lead escape_lead_of yield_char code_of short_byte short_code is_unescaped1 within is_surrogate
complete_char (unescaped u h) r = complete_utf8 u r h
complete_char (short quote) r = refl
complete_char (short reverse_solidus) r = refl
complete_char (short solidus) r = refl
complete_char (short backspace) r = refl
complete_char (short form_feed) r = refl
complete_char (short line_feed) r = refl
complete_char (short carriage_return) r = refl
complete_char (short tab) r = refl
complete_char (unicode a b c d h k) r = let i = neither (is_high (hex4 a b c d)) (is_low (hex4 a b c d)) k in rw (h, i.0, i.1)
complete_char (surrogates a b c d i j e f g h k l) r = rw (i, j, k, l)

-- the first byte of a character is no quotation mark
chars_on : (below : List ℕ → Got (List ℕ)) (s : List ℕ) (c : ℕ) (r : List ℕ) → read_char s ≡ got c r → chars below s ≡ over (λ cs. c ∷ cs) (below r)
unfolding read_char char_lead is_unescaped1 within
chars_on below [] c r e = no_bad e
chars_on below (b ∷ s) c r e = go (eqb b 0x22) refl
  where
    go : (t : Bool) → eqb b 0x22 ≡ t → chars_by below t b s ≡ over (λ cs. c ∷ cs) (below r)
    go true h = no_bad (rw (eqb-true b 0x22 h) at e)
    go false h = rw e

pub complete_chars : (cs : Chars) (n : ℕ) (r : List ℕ) → length (yield_chars cs (0x22 ∷ r)) ≤ n → read_chars n (yield_chars cs (0x22 ∷ r)) ≡ got (codes_of cs) r
unfolding yield_chars codes_of read_chars
complete_chars cnil n r h = enough (λ m. read_chars m (0x22 ∷ r)) _ n (length r) h (λ m _. refl)
complete_chars (ccons c cs) n r h =
    let s = yield_chars cs (0x22 ∷ r) in
    let k = longer (Written.char c) s in
    enough (λ m. read_chars m (yield_char c s)) _ n (length s) (omega arith)
    (λ m l. chars_on (λ y. read_chars m y) (yield_char c s) (code_of c) s (complete_char c s) ∙ ap (over (λ cs. code_of c ∷ cs)) (complete_chars cs m r l))

-- SOUND

-- the bytes before r are a character's
abbrev pub Takes : List ℕ → List ℕ → Type 0
Takes s r = (c : Char) × (s ≡ yield_char c r)

record Hex (s : List ℕ) (x : ℕ) (r : List ℕ) : Type 0 where
  a : ℕ
  b : ℕ
  c : ℕ
  d : ℕ
  is : s ≡ a ∷ b ∷ c ∷ d ∷ r
  hex : all_hex a b c d ≡ true
  value : hex4 a b c d ≡ x

hex_inv : (s : List ℕ) (x : ℕ) (r : List ℕ) → read_hex s ≡ got x r → Hex s x r
hex_inv [] x r e = no_bad e
hex_inv (a ∷ []) x r e = no_bad e
hex_inv (a ∷ b ∷ []) x r e = no_bad e
hex_inv (a ∷ b ∷ c ∷ []) x r e = no_bad e
hex_inv (a ∷ b ∷ c ∷ d ∷ s) x r e = go (all_hex a b c d) refl e
  where
    go : (t : Bool) → all_hex a b c d ≡ t → hex_by t (hex4 a b c d) s ≡ got x r → Hex (a ∷ b ∷ c ∷ d ∷ s) x r
    go true h f = record { a = a; b = b; c = c; d = d; is = cc; hex = h; value = cc }
    go false h f = no_bad f

-- a high surrogate, and the low one that follows it
pair_sound : (s : List ℕ) (h : ℕ) (y : List ℕ) (x : ℕ) (r : List ℕ) → Hex s h y → is_high h ≡ true → read_low h y ≡ got x r → Takes (0x5C ∷ 0x75 ∷ s) r
unfolding yield_char
pair_sound s h y x r u k e =
    let i = expect_inv 0x5C y (λ y₁. expect 0x75 y₁ (λ y₂. then (read_hex y₂) (λ l z. low_by (is_low l) h l z))) x r e in
    let j = expect_inv 0x75 i.0 (λ y₂. then (read_hex y₂) (λ l z. low_by (is_low l) h l z)) x r i.2 in
    let m = then_inv (read_hex j.0) (λ l z. low_by (is_low l) h l z) x r j.2 in
    go m.0 m.1 (hex_inv j.0 m.0 m.1 m.2) (cc (i.1, j.1)) (is_low m.0) refl m.3
  where
    go : {y₂ : List ℕ} (l : ℕ) (z : List ℕ) → Hex y₂ l z → y ≡ 0x5C ∷ 0x75 ∷ y₂ → (t : Bool) → is_low l ≡ t → low_by t h l z ≡ got x r → Takes (0x5C ∷ 0x75 ∷ s) r
    go l z v p true q f = (
      surrogates u.a u.b u.c u.d u.hex (ap is_high u.value ∙ k)
          v.a v.b v.c v.d v.hex (ap is_low v.value ∙ q),
      cc (u.is, p, v.is, f),
    )
    go l z v p false q f = no_bad f

unicode_sound : (s : List ℕ) (x : ℕ) (r : List ℕ) → read_unicode s ≡ got x r → Takes (0x5C ∷ 0x75 ∷ s) r
unfolding yield_char is_surrogate
unicode_sound s x r e =
    let i = then_inv (read_hex s) (λ h y. unicode_by (is_high h) (is_low h) h y) x r e in
    go i.0 i.1 (hex_inv s i.0 i.1 i.2) (is_high i.0) refl (is_low i.0) refl i.3
  where
    go : (h : ℕ) (y : List ℕ) → Hex s h y → (t : Bool) → is_high h ≡ t → (l : Bool) → is_low h ≡ l → unicode_by t l h y ≡ got x r → Takes (0x5C ∷ 0x75 ∷ s) r
    go h y u true p l q f = pair_sound s h y x r u p f
    go h y u false p true q f = no_bad f
    go h y u false p false q f = (unicode u.a u.b u.c u.d u.hex (rw (u.value, p, q)), cc (u.is, f))

escape_sound : (s : List ℕ) (x : ℕ) (r : List ℕ) → read_escape s ≡ got x r → Takes (0x5C ∷ s) r
unfolding yield_char short_byte escape_lead_of
escape_sound [] x r e = no_bad e
escape_sound (b ∷ s) x r e =
    by_byte P b 0x22 (is quote) (by_byte P b 0x5C (is reverse_solidus) (by_byte P b 0x2F (is solidus) (by_byte P b 0x62 (is backspace)
    (by_byte P b 0x66 (is form_feed) (by_byte P b 0x6E (is line_feed) (by_byte P b 0x72 (is carriage_return) (by_byte P b 0x74 (is tab)
    (by_byte P b 0x75 (λ h f. rw h (unicode_sound s x r f)) no_bad)))))))) e
  where
    P : EscapeLead → Type 0
    P l = escape_by l s ≡ got x r → Takes (0x5C ∷ b ∷ s) r

    is : (y : Short) {z : ℕ} → b ≡ short_byte y → got z s ≡ got x r → Takes (0x5C ∷ b ∷ s) r
    is y h f = (short y, cc)

-- forms of two bytes and more: the bytes after the first, the second within its bounds
two_sound : (b : ℕ) (s : List ℕ) (x : ℕ) (r : List ℕ) → within 0xC2 0xDF b ≡ true → read_two b s ≡ got x r → Takes (b ∷ s) r
unfolding yield_char yield_utf8 code_utf8 is_tail code2
two_sound b s x r h e =
    let i = one_inv is_tail s (λ c y. got (code2 b c) y) x r e in
    let p = within_true 0xC2 0xDF b h in
    let q = within_true 0x80 0xBF i.0 i.3 in
    (unescaped (utf8_2 b i.0 h i.3) (wide _ (omega (arith, p, q)) (omega (arith, p, q))), cc (i.2, i.4))

record Three (lo hi : ℕ) (s r : List ℕ) : Type 0 where
  c : ℕ
  d : ℕ
  is : s ≡ c ∷ d ∷ r
  second : within lo hi c ≡ true
  third : is_tail d ≡ true

three_inv : (lo hi b : ℕ) (s : List ℕ) (x : ℕ) (r : List ℕ) → read_three lo hi b s ≡ got x r → Three lo hi s r
three_inv lo hi b s x r e =
    let i = one_inv (within lo hi) s (λ c y. one is_tail y (λ d z. got (code3 b c d) z)) x r e in
    let j = one_inv is_tail i.1 (λ d z. got (code3 b i.0 d) z) x r i.4 in
    record { c = i.0; d = j.0; is = cc (i.2, j.2, j.4); second = i.3; third = j.3 }

-- E0 A0 is the least of them and EF BF the greatest
wide3 : {lo hi : ℕ} {s r : List ℕ} (b : ℕ) → 0xE0A0 ≤ 256 * b + lo → 0x80 ≤ lo → b ≤ 0xEF → hi ≤ 0xBF
    → (t : Three lo hi s r) → is_unescaped (code3 b t.c t.d) ≡ true
unfolding is_tail code3
wide3 {lo = lo} {hi = hi} b l m h k t =
    let p = within_true lo hi t.c t.second in
    let q = within_true 0x80 0xBF t.d t.third in
    wide _ (omega (arith, p, q)) (omega (arith, p, q))

E0_sound : (s : List ℕ) (x : ℕ) (r : List ℕ) → read_three 0xA0 0xBF 0xE0 s ≡ got x r → Takes (0xE0 ∷ s) r
unfolding yield_char yield_utf8 code_utf8
E0_sound s x r e =
    let t = three_inv 0xA0 0xBF 0xE0 s x r e in
    (unescaped (utf8_E0 t.c t.d t.second t.third) (wide3 0xE0 (omega arith) (omega arith) (omega arith) (omega arith) t), cc t.is)

ED_sound : (s : List ℕ) (x : ℕ) (r : List ℕ) → read_three 0x80 0x9F 0xED s ≡ got x r → Takes (0xED ∷ s) r
unfolding yield_char yield_utf8 code_utf8
ED_sound s x r e =
    let t = three_inv 0x80 0x9F 0xED s x r e in
    (unescaped (utf8_ED t.c t.d t.second t.third) (wide3 0xED (omega arith) (omega arith) (omega arith) (omega arith) t), cc t.is)

-- E1 to EC, EE and EF
three_sound : (b : ℕ) (s : List ℕ) (x : ℕ) (r : List ℕ) → 0xE1 ≤ b → b ≤ 0xEF → (b ≡ 0xED → ⊥) → read_three 0x80 0xBF b s ≡ got x r → Takes (b ∷ s) r
unfolding yield_char yield_utf8 code_utf8 is_tail
three_sound b s x r l h n e = go (three_inv 0x80 0xBF b s x r e) (leb b 0xEC) refl
  where
    go : Three 0x80 0xBF s r → (u : Bool) → leb b 0xEC ≡ u → Takes (b ∷ s) r
    go t true k =
        let i = within_is 0xE1 0xEC b l (leb-true b 0xEC k) in
        (unescaped (utf8_E1 b t.c t.d i t.second t.third) (wide3 b (omega arith) (omega arith) h (omega arith) t), cc t.is)
    go t false k =
        let m = leb-false b 0xEC k in
        let i = within_is 0xEE 0xEF b (omega arith) h in
        (unescaped (utf8_EE b t.c t.d i t.second t.third) (wide3 b (omega arith) (omega arith) h (omega arith) t), cc t.is)

record Four (lo hi : ℕ) (s r : List ℕ) : Type 0 where
  c : ℕ
  d : ℕ
  e : ℕ
  is : s ≡ c ∷ d ∷ e ∷ r
  second : within lo hi c ≡ true
  third : is_tail d ≡ true
  fourth : is_tail e ≡ true

four_inv : (lo hi b : ℕ) (s : List ℕ) (x : ℕ) (r : List ℕ) → read_four lo hi b s ≡ got x r → Four lo hi s r
four_inv lo hi b s x r f =
    let i = one_inv (within lo hi) s (λ c y. one is_tail y (λ d z. one is_tail z (λ e w. got (code4 b c d e) w))) x r f in
    let j = one_inv is_tail i.1 (λ d z. one is_tail z (λ e w. got (code4 b i.0 d e) w)) x r i.4 in
    let k = one_inv is_tail j.1 (λ e w. got (code4 b i.0 j.0 e) w) x r j.4 in
    record { c = i.0; d = j.0; e = k.0; is = cc (i.2, j.2, k.2, k.4); second = i.3; third = j.3; fourth = k.3 }

-- F0 90 is the least of them and F4 8F the greatest
wide4 : {lo hi : ℕ} {s r : List ℕ} (b : ℕ) → 0xF090 ≤ 256 * b + lo → 256 * b + hi ≤ 0xF48F → 0x80 ≤ lo → hi ≤ 0xBF
    → (t : Four lo hi s r) → is_unescaped (code4 b t.c t.d t.e) ≡ true
unfolding is_tail code4
wide4 {lo = lo} {hi = hi} b l h m k t =
    let p = within_true lo hi t.c t.second in
    let q = within_true 0x80 0xBF t.d t.third in
    let o = within_true 0x80 0xBF t.e t.fourth in
    wide _ (omega (arith, p, q, o)) (omega (arith, p, q, o))

F0_sound : (s : List ℕ) (x : ℕ) (r : List ℕ) → read_four 0x90 0xBF 0xF0 s ≡ got x r → Takes (0xF0 ∷ s) r
unfolding yield_char yield_utf8 code_utf8
F0_sound s x r f =
    let t = four_inv 0x90 0xBF 0xF0 s x r f in
    (unescaped (utf8_F0 t.c t.d t.e t.second t.third t.fourth) (wide4 0xF0 (omega arith) (omega arith) (omega arith) (omega arith) t), cc t.is)

F4_sound : (s : List ℕ) (x : ℕ) (r : List ℕ) → read_four 0x80 0x8F 0xF4 s ≡ got x r → Takes (0xF4 ∷ s) r
unfolding yield_char yield_utf8 code_utf8
F4_sound s x r f =
    let t = four_inv 0x80 0x8F 0xF4 s x r f in
    (unescaped (utf8_F4 t.c t.d t.e t.second t.third t.fourth) (wide4 0xF4 (omega arith) (omega arith) (omega arith) (omega arith) t), cc t.is)

-- F1 to F3
four_sound : (b : ℕ) (s : List ℕ) (x : ℕ) (r : List ℕ) → within 0xF1 0xF3 b ≡ true → read_four 0x80 0xBF b s ≡ got x r → Takes (b ∷ s) r
unfolding yield_char yield_utf8 code_utf8 is_tail
four_sound b s x r h f =
    let t = four_inv 0x80 0xBF b s x r f in
    let p = within_true 0xF1 0xF3 b h in
    let w = wide4 b (omega (arith, p)) (omega (arith, p)) (omega arith) (omega arith) t in
    (unescaped (utf8_F1 b t.c t.d t.e h t.second t.third t.fourth) w, cc t.is)

pub char_sound : (s : List ℕ) (x : ℕ) (r : List ℕ) → read_char s ≡ got x r → Takes s r
unfolding read_char char_lead yield_char yield_utf8 code_utf8
char_sound [] x r e = no_bad e
char_sound (b ∷ s) x r e =
    by_test P (is_unescaped1 b) plain
    (λ _. by_byte P b 0x5C (λ h f. rw h (escape_sound s x r f))
    (by_test P (within 0xC2 0xDF b) (two_sound b s x r)
    (λ _. by_byte P b 0xE0 (λ h f. rw h (E0_sound s x r (rw h at f)))
    (by_test P (eqb b 0xED) (λ h f. let k = eqb-true b 0xED h in rw k (ED_sound s x r (rw k at f)))
    (λ n. by_test P (within 0xE1 0xEF b) (λ h f. let p = within_true 0xE1 0xEF b h in three_sound b s x r p.0 p.1 (eqb-false b 0xED n) f)
    (λ _. by_byte P b 0xF0 (λ h f. rw h (F0_sound s x r (rw h at f)))
    (by_byte P b 0xF4 (λ h f. rw h (F4_sound s x r (rw h at f)))
    (by_test P (within 0xF1 0xF3 b) (four_sound b s x r) (λ _. no_bad))))))))) e
  where
    P : CharLead → Type 0
    P l = char_by l b s ≡ got x r → Takes (b ∷ s) r

    plain : is_unescaped1 b ≡ true → got b s ≡ got x r → Takes (b ∷ s) r
    plain h f = let k = ascii_high b h in (unescaped (utf8_1 b (within_is 0x00 0x7F b (omega arith) k)) (sym (ascii b k) ∙ h), cc)

pub chars_sound : (n : ℕ) (s x r : List ℕ) → read_chars n s ≡ got x r → (cs : Chars) × (s ≡ yield_chars cs (0x22 ∷ r))
unfolding read_chars yield_chars
chars_sound zero s x r e = no_bad e
chars_sound (suc n) [] x r e = no_bad e
chars_sound (suc n) (b ∷ s) x r e = go (eqb b 0x22) refl e (λ y a. chars_sound n y a r)
  where
    go : (t : Bool) → eqb b 0x22 ≡ t → chars_by (λ y. read_chars n y) t b s ≡ got x r
        → ((y a : List ℕ) → read_chars n y ≡ got a r → (cs : Chars) × (y ≡ yield_chars cs (0x22 ∷ r))) → (cs : Chars) × (b ∷ s ≡ yield_chars cs (0x22 ∷ r))
    go true h f ih = let q = eqb-true b 0x22 h in (cnil, cc)
    go false h f ih =
        let i = then_inv (read_char (b ∷ s)) (λ c y. over (λ cs. c ∷ cs) (read_chars n y)) x r f in
        let j = over_inv (λ cs. i.0 ∷ cs) (read_chars n i.1) x r i.3 in
        let c = char_sound (b ∷ s) i.0 i.1 i.2 in
        let k = ih i.1 j.0 j.1 in
        (ccons c.0 k.0, c.1 ∙ ap (yield_char c.0) k.1)

-- FUEL: as much as there are bytes is enough

pub chars_read : (n : ℕ) (s x r : List ℕ) → length s ≤ n → read_chars n s ≡ got x r → (cs : Chars) × (s ≡ yield_chars cs (0x22 ∷ r)) × (codes_of cs ≡ x)
chars_read n s x r h e =
    let i = chars_sound n s x r e in
    let q : got (codes_of i.0) r ≡ got x r = sym (complete_chars i.0 n r (rw i.1 at h)) ∙ sym (ap (read_chars n) i.1) ∙ e in
    (i.0, i.1, cc)

pub chars_fuel : (n m : ℕ) (s : List ℕ) → length s ≤ n → length s ≤ m → read_chars n s ≡ read_chars m s
chars_fuel n m s h k = go (read_chars n s) (read_chars m s) refl refl
  where
    again : (a b : ℕ) → length s ≤ a → length s ≤ b → (x r : List ℕ) → read_chars a s ≡ got x r → read_chars b s ≡ got x r
    again a b h k x r e =
        let i = chars_read a s x r h e in
        ap (read_chars b) i.1 ∙ complete_chars i.0 b r (rw i.1 at k) ∙ ap (λ (c : List ℕ). got c r) i.2

    go : (f g : Got (List ℕ)) → read_chars n s ≡ f → read_chars m s ≡ g → read_chars n s ≡ read_chars m s
    go (got x r) g e i = e ∙ sym (again n m h k x r e)
    go bad (got x r) e i = again m n k h x r i ∙ sym i
    go bad bad e i = e ∙ sym i
