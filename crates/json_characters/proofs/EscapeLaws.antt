-- Laws of escapes.
use Rattle.std.specs.Prelude.{Some, None}
use mathlib.Core.Path.{◌≡◌, refl, sym, ap, ◌∙◌, subst}
use mathlib.Core.Bool.{Bool, true, false}
use mathlib.Core.List.{List, [], ◌∷◌}
use Prim.Native.Nat.{ℕ, zero, suc, ◌+◌, ◌-◌, ◌*◌, ◌≤◌, ◌<◌}
use native.Mathlib.Omega.{arith}
use lib.Dec.{eqb}
use lib.ListN.{length, drop, get_or, length-drop, drop_of_length-le}
use borrow.Author.Tests.{eq-eqb, ne_eqb}
use Rattle.json_grammar_rules.specs.Bytes.{is_hex, hex_val, hex4, all_hex, is_high, is_low, pair_code}
use Rattle.json_grammar_rules.specs.Reader.{Got, bad, got, then, one, one_by, read_hex, low_by, read_low, unicode_by, read_unicode, EscapeLead, short_lead, escape_lead_of, escape_by, read_escape}
use Rattle.json_characters.specs.Places.{at_byte}
use Rattle.json_grammar_rules.proofs.ByteLaws.{within_true}
use Rattle.json_characters.specs.Characters.{Scan, Scans}
use Rattle.json_characters.specs.Steps.{ScanAt, ShortEscape, read_digits}
use Rattle.json_characters.proofs.ScanLaws.{scans_from, scan_same, scan_got, scan_after, scan_one, scan_not, scan_then, scan_none}

-- FOUR DIGITS

abbrev pub read_hexes : ℕ → ℕ → List ℕ → Got ℕ
read_hexes n x s = read_digits is_hex is_hex 16 hex_val n x s

-- fewer bytes than digits
short_digits : (n x : ℕ) (l : List ℕ) → length l < n → read_hexes n x l ≡ bad
unfolding read_digits
short_digits zero x l h = absurd (omega arith)
short_digits (suc n) x [] h = refl
short_digits (suc n) x (a ∷ l) h = go (is_hex a) (short_digits n (x * 16 + hex_val a) l (omega arith))
  where
    go : (t : Bool) → read_hexes n (x * 16 + hex_val a) l ≡ bad → one_by t a l (λ c r. read_hexes n (x * 16 + hex_val c) r) ≡ bad
    go true e = e
    go false e = refl

-- the four digits at once, or one by one
four_digits : (l : List ℕ) → read_hex l ≡ read_hexes 4 0 l
unfolding read_digits all_hex hex4
four_digits [] = refl
four_digits (a ∷ []) = sym (short_digits 4 0 (a ∷ []) (omega arith))
four_digits (a ∷ b ∷ []) = sym (short_digits 4 0 (a ∷ b ∷ []) (omega arith))
four_digits (a ∷ b ∷ c ∷ []) = sym (short_digits 4 0 (a ∷ b ∷ c ∷ []) (omega arith))
four_digits (a ∷ b ∷ c ∷ d ∷ s) = go (is_hex a) (is_hex b) (is_hex c) (is_hex d) refl refl refl refl
  where
    go : (p q r t : Bool) → is_hex a ≡ p → is_hex b ≡ q → is_hex c ≡ r → is_hex d ≡ t → read_hex (a ∷ b ∷ c ∷ d ∷ s) ≡ read_hexes 4 0 (a ∷ b ∷ c ∷ d ∷ s)
    go true true true true e f g h = rw (e, f, g, h) (ap (λ (x : ℕ). got x s) (omega arith))
    go true true true false e f g h = rw (e, f, g, h)
    go true true false t e f g h = rw (e, f, g)
    go true false r t e f g h = rw (e, f)
    go false q r t e f g h = rw e

pub hex_digits : (s : List ℕ) (at : ℕ) (r : Scan) → ScanAt (read_hexes 4 0) s at r → ScanAt read_hex s at r
hex_digits s at r h = scan_same read_hex (read_hexes 4 0) s at r four_digits h

pub hex_short : (s : List ℕ) (at : ℕ) → length s - at < 4 → ScanAt read_hex s at None
unfolding ScanAt
hex_short s at h = four_digits (drop at s) ∙ short_digits 4 0 (drop at s) (rw (length-drop at s) h)

-- SURROGATES

abbrev low_half : ℕ → List ℕ → Got ℕ
low_half h l = then (read_hex l) (λ x r. low_by (is_low x) h x r)

module _ (s : List ℕ) (at h : ℕ) where
  pub low_short : length s - at < 2 → ScanAt (read_low h) s at None
  unfolding ScanAt
  low_short k = go (drop at s) (rw (length-drop at s) k)
    where
      go : (l : List ℕ) → length l < 2 → read_low h l ≡ bad
      go [] k = refl
      go (a ∷ []) k = by (eqb a 0x5C)
        where
          by : (t : Bool) → one_by t a [] (λ _ r. one (λ b. eqb b 0x75) r (λ _ q. low_half h q)) ≡ bad
          by true = refl
          by false = refl
      go (a ∷ b ∷ l) k = absurd (omega arith)

  pub low_no_escape : at < length s → (get_or s at 0 ≡ 0x5C → ⊥) → ScanAt (read_low h) s at None
  low_no_escape k n = scan_not (λ b. eqb b 0x5C) (λ _ r. one (λ b. eqb b 0x75) r (λ _ q. low_half h q)) s at k (ne_eqb (get_or s at 0) 0x5C n)

  module _ (k : at + 1 < length s) (e : get_or s at 0 ≡ 0x5C) where
    after_escape : (r : Scan) → ScanAt (λ l. one (λ b. eqb b 0x75) l (λ _ q. low_half h q)) s (at + 1) r → ScanAt (read_low h) s at r
    after_escape r rest = scan_one (λ b. eqb b 0x5C) (λ _ r. one (λ b. eqb b 0x75) r (λ _ q. low_half h q)) s at r (omega arith) (eq-eqb (get_or s at 0) 0x5C e) rest

    pub low_no_u : (get_or s (at + 1) 0 ≡ 0x75 → ⊥) → ScanAt (read_low h) s at None
    low_no_u n = after_escape None (scan_not (λ b. eqb b 0x75) (λ _ q. low_half h q) s (at + 1) k (ne_eqb (get_or s (at + 1) 0) 0x75 n))

    module _ (f : get_or s (at + 1) 0 ≡ 0x75) where
      after_u : (r : Scan) → ScanAt (low_half h) s (at + 2) r → ScanAt (read_low h) s at r
      after_u r rest =
          let m : at + 2 ≡ at + 1 + 1 = omega arith in
          after_escape r (scan_one (λ b. eqb b 0x75) (λ _ q. low_half h q) s (at + 1) r k (eq-eqb (get_or s (at + 1) 0) 0x75 f) (rw m at rest))

      pub low_no_hex : ScanAt read_hex s (at + 2) None → ScanAt (read_low h) s at None
      low_no_hex d = after_u None (scan_none read_hex (λ x r. low_by (is_low x) h x r) s (at + 2) d)

      low_by_hex : (x e : ℕ) (r : Scan) → ScanAt read_hex s (at + 2) (Some (x, e)) → ScanAt (low_by (is_low x) h x) s e r → ScanAt (read_low h) s at r
      low_by_hex x e r d rest = after_u r (scan_then read_hex (λ x r. low_by (is_low x) h x r) s (at + 2) x e r d rest)

      pub low_is : (x e y : ℕ) → ScanAt read_hex s (at + 2) (Some (x, e)) → is_low x ≡ true → y ≡ pair_code h x → ScanAt (read_low h) s at (Some (y, e))
      low_is x e y d i g = low_by_hex x e (Some (y, e)) d (rw (i, g) (scan_got s e (pair_code h x) (scan_after read_hex s (at + 2) x e d).1))

      pub low_not : (x e : ℕ) → ScanAt read_hex s (at + 2) (Some (x, e)) → is_low x ≡ false → ScanAt (read_low h) s at None
      unfolding ScanAt
      low_not x e d i = low_by_hex x e None d (rw i refl)

module _ (s : List ℕ) (at : ℕ) where
  pub unicode_no_hex : ScanAt read_hex s at None → ScanAt read_unicode s at None
  unicode_no_hex d = scan_none read_hex (λ x r. unicode_by (is_high x) (is_low x) x r) s at d

  module _ (x e : ℕ) (d : ScanAt read_hex s at (Some (x, e))) where
    by_hex : (r : Scan) → ScanAt (unicode_by (is_high x) (is_low x) x) s e r → ScanAt read_unicode s at r
    by_hex r rest = scan_then read_hex (λ x r. unicode_by (is_high x) (is_low x) x r) s at x e r d rest

    pub unicode_high : (r : Scan) → is_high x ≡ true → ScanAt (read_low x) s e r → ScanAt read_unicode s at r
    unicode_high r i rest = by_hex r (rw i rest)

    pub unicode_low : is_high x ≡ false → is_low x ≡ true → ScanAt read_unicode s at None
    unfolding ScanAt
    unicode_low i j = by_hex None (rw (i, j) refl)

    pub unicode_is : is_high x ≡ false → is_low x ≡ false → ScanAt read_unicode s at (Some (x, e))
    unicode_is i j = by_hex (Some (x, e)) (rw (i, j) (scan_got s e x (scan_after read_hex s at x e d).1))

-- the code point of a pair fits, and is made without a difference below 0
pub pair_high : (h : ℕ) → is_high h ≡ true → (0xD800 ≤ h) × (h ≤ 0xDBFF)
unfolding is_high
pair_high h e = within_true 0xD800 0xDBFF h e

pub pair_low : (x : ℕ) → is_low x ≡ true → (0xDC00 ≤ x) × (x ≤ 0xDFFF)
unfolding is_low
pair_low x e = within_true 0xDC00 0xDFFF x e

-- ESCAPES OF ONE BYTE, AND ALL

pub short_is : (b x c next : ℕ) → b ≡ x → escape_lead_of x ≡ short_lead c → ShortEscape b next (Some (c, next))
unfolding ShortEscape
short_is b x c next e f s h = (omega arith, h, ap (λ (l : EscapeLead). escape_by l (drop next s)) (ap escape_lead_of e ∙ f))

pub short_none : (b next : ℕ) → (b ≡ 0x75 → ⊥) → (b ≡ 0x22 → ⊥) → (b ≡ 0x5C → ⊥) → (b ≡ 0x2F → ⊥) → (b ≡ 0x62 → ⊥) → (b ≡ 0x66 → ⊥) → (b ≡ 0x6E → ⊥) → (b ≡ 0x72 → ⊥) → (b ≡ 0x74 → ⊥)
    → ShortEscape b next None
unfolding ShortEscape escape_lead_of
short_none b next u a₁ a₂ a₃ a₄ a₅ a₆ a₇ a₈ s h =
    rw (ne_eqb b 0x22 a₁, ne_eqb b 0x5C a₂, ne_eqb b 0x2F a₃, ne_eqb b 0x62 a₄, ne_eqb b 0x66 a₅, ne_eqb b 0x6E a₆, ne_eqb b 0x72 a₇, ne_eqb b 0x74 a₈, ne_eqb b 0x75 u)

-- what follows the byte after `\`
escape_rest : (s : List ℕ) (at : ℕ) (r : Scan) → at < length s → ScanAt (escape_by (escape_lead_of (get_or s at 0))) s (at + 1) r → ScanAt read_escape s at r
unfolding ScanAt
escape_rest s at r h rest =
    subst (λ (g : Got ℕ). Scans s at r g) (sym (ap read_escape (at_byte s at h))) (scans_from s at (at + 1) r _ (omega arith) rest)

pub escape_u : (s : List ℕ) (at : ℕ) (r : Scan) → at < length s → get_or s at 0 ≡ 0x75 → ScanAt read_unicode s (at + 1) r → ScanAt read_escape s at r
unfolding escape_lead_of
escape_u s at r h e rest = escape_rest s at r h (rw e rest)

pub escape_short : (s : List ℕ) (at : ℕ) (r : Scan) → at < length s → ShortEscape (get_or s at 0) (at + 1) r → ScanAt read_escape s at r
unfolding ShortEscape ScanAt
escape_short s at r h k = escape_rest s at r h (k s (omega arith))

pub escape_out : (s : List ℕ) (at : ℕ) → length s ≤ at → ScanAt read_escape s at None
unfolding ScanAt
escape_out s at h = ap read_escape (drop_of_length-le s h)
