-- What the private functions' contracts cite: parts of a character at places of a slice.
use Rattle.std.specs.Prelude.{Bool, cond, Option, Some, None, List, ℕ, zero, suc, ◌+◌, ◌-◌, ◌*◌, ◌≤◌, length, drop}
use Rattle.json_grammar_rules.specs.Bytes.{within, is_hex, hex_val}
use Rattle.json_grammar_rules.specs.Reader.{Got, got, one, char_by, char_lead, escape_by, escape_lead_of}
use Rattle.json_characters.specs.Characters.{Scan, Scans}

-- r is what the reader f gives at a place
unfoldable pub ScanAt : (List ℕ → Got ℕ) → List ℕ → ℕ → Scan → Type 0
ScanAt f s at r = Scans s at r (f (drop at s))

-- the value of a digit of an escape; none where the byte is no such digit
abbrev pub hex_digit : ℕ → Option ℕ
hex_digit b = cond (is_hex b) (Some (hex_val b)) None

-- n more digits to the base b, each of value v; the first of them passes the test p, the others q; x is the number so far
unfoldable pub read_digits : (ℕ → Bool) → (ℕ → Bool) → ℕ → (ℕ → ℕ) → ℕ → ℕ → List ℕ → Got ℕ
read_digits p q b v zero x s = got x s
read_digits p q b v (suc n) x s = one p s (λ c r. read_digits q q b v n (x * b + v c) r)

-- n more octets of a form, the first of them from lo to hi, the others tails: each adds six bits
abbrev pub read_tails : ℕ → ℕ → ℕ → ℕ → List ℕ → Got ℕ
read_tails n lo hi x s = read_digits (within lo hi) (within 0x80 0xBF) 64 (λ c. c - 0x80) n x s

-- r is what follows the first octet b of a form
unfoldable pub FormAt : ℕ → List ℕ → ℕ → Scan → Type 0
FormAt b s at r = ScanAt (char_by (char_lead b) b) s at r

-- r is what a `\` and the byte b stand for, up to the place `next`
unfoldable pub ShortEscape : ℕ → ℕ → Scan → Type 0
ShortEscape b next r = (s : List ℕ) → next ≤ length s → Scans s next r (escape_by (escape_lead_of b) (drop next s))
