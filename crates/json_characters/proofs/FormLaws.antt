-- Laws of the forms of several octets.
use Rattle.std.specs.Prelude.{None}
use mathlib.Core.Path.{◌≡◌, refl, ap}
use mathlib.Core.Bool.{Bool, true, false}
use mathlib.Core.List.{List, [], ◌∷◌}
use Prim.Native.Nat.{ℕ, zero, suc, ◌+◌, ◌-◌, ◌≤◌, ◌<◌}
use native.Mathlib.Omega.{arith}
use borrow.Author.Tests.{ne_eqb}
use Rattle.json_grammar_rules.specs.Bytes.{within, is_tail, code2, code3, code4}
use Rattle.json_grammar_rules.specs.Reader.{Got, got, one, one_by, is_unescaped1, CharLead, lead2, lead3, lead4, no_char, char_lead, char_by, read_two, read_three, read_four}
use Rattle.json_characters.specs.Characters.{Scan}
use Rattle.json_grammar_rules.proofs.ByteLaws.{within_true, above}
use Rattle.json_characters.specs.Steps.{ScanAt, FormAt, read_digits, read_tails}
use Rattle.json_characters.proofs.ScanLaws.{scan_same}
use Rattle.json_characters.proofs.DigitLaws.{room}

-- TAILS

-- five bits at most before three tails
pub room_least : (n x : ℕ) → n ≤ 3 → x < 32 → x < room 8388608 64 n
room_least zero x l h = omega arith
room_least (suc zero) x l h = omega arith
room_least (suc (suc zero)) x l h = omega arith
room_least (suc (suc (suc zero))) x l h = h
room_least (suc (suc (suc (suc n)))) x l h = absurd (omega arith)

pub tail_bits : (lo hi b y : ℕ) → within lo hi b ≡ true → 0x80 ≤ lo → hi ≤ 0xBF → y ≡ b - 0x80 → y < 64
tail_bits lo hi b y e l k f = omega (arith, within_true lo hi b e)

-- FORMS

one_same : (p : ℕ → Bool) (k k' : ℕ → List ℕ → Got ℕ) (l : List ℕ) → ((b : ℕ) (r : List ℕ) → k b r ≡ k' b r) → one p l k ≡ one p l k'
one_same p k k' [] h = refl
one_same p k k' (b ∷ l) h = go (p b)
  where
    go : (t : Bool) → one_by t b l k ≡ one_by t b l k'
    go true = h b l
    go false = refl

same_got : (x y : ℕ) (r : List ℕ) → x ≡ y → got x r ≡ got y r
same_got x y r e = ap (λ (z : ℕ). got z r) e

two : (b : ℕ) (l : List ℕ) → read_two b l ≡ read_tails 1 0x80 0xBF (b - 0xC0) l
unfolding read_digits is_tail code2
two b l = one_same (within 0x80 0xBF) _ _ l λ c r. refl

three : (lo hi b : ℕ) (l : List ℕ) → read_three lo hi b l ≡ read_tails 2 lo hi (b - 0xE0) l
unfolding read_digits is_tail code3
three lo hi b l = one_same (within lo hi) _ _ l λ c r. one_same (within 0x80 0xBF) _ _ r λ d t. same_got _ _ t (omega arith)

four : (lo hi b : ℕ) (l : List ℕ) → read_four lo hi b l ≡ read_tails 3 lo hi (b - 0xF0) l
unfolding read_digits is_tail code4
four lo hi b l = one_same (within lo hi) _ _ l λ c r. one_same (within 0x80 0xBF) _ _ r λ d t. one_same (within 0x80 0xBF) _ _ t λ e u. same_got _ _ u (omega arith)

-- what follows a first octet whose row is known
row : (l : CharLead) (s : List ℕ) (at b : ℕ) (r : Scan) → char_lead b ≡ l → ScanAt (char_by l b) s at r → FormAt b s at r
unfolding FormAt
row l s at b r e h = rw e h

not_one : (b : ℕ) → 0x7F < b → is_unescaped1 b ≡ false
unfolding is_unescaped1
not_one b h = rw (above 0x20 0x21 b (omega arith), above 0x23 0x5B b (omega arith), above 0x5D 0x7F b (omega arith))

-- the bits of a first octet from lo on
pub lead_low : (m lo hi b : ℕ) → m ≤ lo → within lo hi b ≡ true → m ≤ b
lead_low m lo hi b h e = omega (arith, within_true lo hi b e)

pub lead_bits : (m lo hi b x : ℕ) → hi < m + 32 → within lo hi b ≡ true → x ≡ b - m → x < 32
lead_bits m lo hi b x h e f = omega (arith, within_true lo hi b e)

-- the rows, in the order of the tests; x has the bits of the first octet
module _ (s : List ℕ) (at b : ℕ) where
  two_row : (x : ℕ) (r : Scan) → char_lead b ≡ lead2 → x ≡ b - 0xC0 → ScanAt (read_tails 1 0x80 0xBF x) s at r → FormAt b s at r
  two_row x r e f h = row lead2 s at b r e (scan_same (read_two b) (read_tails 1 0x80 0xBF (b - 0xC0)) s at r (two b) (rw f at h))

  pub three_row : (lo hi x : ℕ) (r : Scan) → char_lead b ≡ lead3 lo hi → x ≡ b - 0xE0 → ScanAt (read_tails 2 lo hi x) s at r → FormAt b s at r
  three_row lo hi x r e f h = row (lead3 lo hi) s at b r e (scan_same (read_three lo hi b) (read_tails 2 lo hi (b - 0xE0)) s at r (three lo hi b) (rw f at h))

  pub four_row : (lo hi x : ℕ) (r : Scan) → char_lead b ≡ lead4 lo hi → x ≡ b - 0xF0 → ScanAt (read_tails 3 lo hi x) s at r → FormAt b s at r
  four_row lo hi x r e f h = row (lead4 lo hi) s at b r e (scan_same (read_four lo hi b) (read_tails 3 lo hi (b - 0xF0)) s at r (four lo hi b) (rw f at h))

  pub form_two : (x : ℕ) (r : Scan) → within 0xC2 0xDF b ≡ true → x ≡ b - 0xC0 → ScanAt (read_tails 1 0x80 0xBF x) s at r → FormAt b s at r
  unfolding char_lead
  form_two x r e f h =
      let k = within_true 0xC2 0xDF b e in
      two_row x r (rw (not_one b (omega arith), ne_eqb b 0x5C (omega arith), e)) f h

  pub form_three : (x : ℕ) (r : Scan) → (b ≡ 0xED → ⊥) → within 0xE1 0xEF b ≡ true → x ≡ b - 0xE0 → ScanAt (read_tails 2 0x80 0xBF x) s at r → FormAt b s at r
  unfolding char_lead
  form_three x r n e f h =
      let k = within_true 0xE1 0xEF b e in
      three_row 0x80 0xBF x r (rw (not_one b (omega arith), ne_eqb b 0x5C (omega arith), above 0xC2 0xDF b (omega arith), ne_eqb b 0xE0 (omega arith), ne_eqb b 0xED n, e)) f h

  pub form_four : (x : ℕ) (r : Scan) → within 0xF1 0xF3 b ≡ true → x ≡ b - 0xF0 → ScanAt (read_tails 3 0x80 0xBF x) s at r → FormAt b s at r
  unfolding char_lead
  form_four x r e f h =
      let k = within_true 0xF1 0xF3 b e in
      four_row 0x80 0xBF x r
      (rw (
        not_one b (omega arith),
        ne_eqb b 0x5C (omega arith),
        above 0xC2 0xDF b (omega arith),
        ne_eqb b 0xE0 (omega arith),
        ne_eqb b 0xED (omega arith),
        above 0xE1 0xEF b (omega arith),
        ne_eqb b 0xF0 (omega arith),
        ne_eqb b 0xF4 (omega arith),
        e,
      ))
      f h

  pub form_none : is_unescaped1 b ≡ false → (b ≡ 0x5C → ⊥) → within 0xC2 0xDF b ≡ false → (b ≡ 0xE0 → ⊥) → (b ≡ 0xED → ⊥) → within 0xE1 0xEF b ≡ false
      → (b ≡ 0xF0 → ⊥) → (b ≡ 0xF4 → ⊥) → within 0xF1 0xF3 b ≡ false → FormAt b s at None
  unfolding char_lead ScanAt
  form_none a₁ a₂ a₃ a₄ a₅ a₆ a₇ a₈ a₉ =
      row no_char s at b None (rw (a₁, ne_eqb b 0x5C a₂, a₃, ne_eqb b 0xE0 a₄, ne_eqb b 0xED a₅, a₆, ne_eqb b 0xF0 a₇, ne_eqb b 0xF4 a₈, a₉)) refl
