-- Laws of the character at a place.
use Rattle.std.specs.Prelude.{◌≡◌, refl, true, List, [], ◌∷◌, ℕ, ◌+◌, ◌≤◌, ◌<◌, length, drop, get_or, Some, None}
use Rattle.std.proofs.Common.{sym, ap, ◌∙◌, subst, arith}
use Rattle.std.proofs.lemmas.Bool.{false≢true}
use Rattle.json_grammar_rules.specs.Bytes.{within}
use Rattle.json_grammar_rules.proofs.CharLaws.{ascii_high, char_sound}
use Rattle.json_grammar_rules.specs.Reader.{Got, bad, got, is_unescaped1, char_lead, read_char}
use Rattle.json_grammar_rules.proofs.Written.{char, longer}
use Rattle.json_characters.specs.Characters.{Scan, scan_of, char_at, Scans, CharAt}
use Rattle.json_characters.specs.Places.{at_byte, pos_drop, pos_left}
use Rattle.json_characters.specs.Utf8.{octets}
use Rattle.json_characters.specs.Utf8Laws.{octets_ascii, most, char_scalar}

-- the relation and the equation
pub char_is : (s : List ℕ) (at : ℕ) (r : Scan) → CharAt s at r → r ≡ char_at s at
unfolding CharAt char_at
char_is s at (Some (c, e)) h = sym (ap (scan_of s) h.2 ∙ ap (λ (z : ℕ). Some (c, z)) (pos_drop s e h.1))
char_is s at None h = sym (ap (scan_of s) h)

-- a callee's contract at the answer that it gave
pub scanned : (s : List ℕ) (at : ℕ) (q q' : Scan) → q ≡ char_at s at → q ≡ q' → CharAt s at q'
unfolding CharAt char_at
scanned s at q q' h e = subst (λ (x : Scan). CharAt s at x) (sym h ∙ e) (go (read_char (drop at s)) refl)
  where
    go : (g : Got ℕ) → read_char (drop at s) ≡ g → Scans s (at + 1) (scan_of s g) g
    go (got c x) k =
        let t = char_sound (drop at s) c x k in
        let w = char t.0 in
        let p = pos_left s at {x = x} (record { front = w.written; is = t.1 ∙ w.is x }) (omega (arith, longer w x, ap length t.1)) in
        (p.0, p.1, ap (got c) p.2)
    go bad k = refl

pub char_after : (s : List ℕ) (at c e : ℕ) → CharAt s at (Some (c, e)) → (at < e) × (e ≤ length s)
unfolding CharAt
char_after s at c e h = (omega (arith, h.0), h.1)

pub char_most : (s : List ℕ) (at c e : ℕ) → CharAt s at (Some (c, e)) → c ≤ 0x10FFFF
unfolding CharAt
char_most s at c e h = most (char_scalar (drop at s) c (drop e s) h.2)

-- a byte that stands unescaped
pub char_plain : (s : List ℕ) (at : ℕ) → at < length s → (c : ℕ) → is_unescaped1 (get_or s at 0) ≡ true → c ≡ get_or s at 0 → CharAt s at (Some (c, at + 1))
unfolding CharAt read_char char_lead
char_plain s at h c e f = (omega arith, omega arith, ap read_char (at_byte s at h) ∙ rw (e, f))

-- a quotation mark never does
pub plain_quote : (b : ℕ) → is_unescaped1 b ≡ true → b ≡ 0x22 → ⊥
unfolding is_unescaped1 within
plain_quote b e f = false≢true (sym (ap is_unescaped1 f) ∙ e)

-- a byte that does is its own octet
pub plain_octets : (b : ℕ) → is_unescaped1 b ≡ true → octets b ≡ b ∷ []
plain_octets b e = octets_ascii b (ascii_high b e)
