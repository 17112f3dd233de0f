-- The character at a place of a slice.
use Rattle.std.specs.Prelude.{◌≡◌, List, ℕ, ◌+◌, ◌≤◌, length, drop, Option, Some, None}
use Rattle.json_grammar_rules.specs.Places.{pos}
use Rattle.json_grammar_rules.specs.Reader.{Got, bad, got, read_char}

-- a character's code point and the place after it, or none
abbrev pub Scan : Type 0
Scan = Option (ℕ × ℕ)

-- what was read of s: a code point and the place after it, or nothing
abbrev pub scan_of : List ℕ → Got ℕ → Scan
scan_of s (got c r) = Some (c, pos s r)
scan_of s bad = None

-- the character at a place; `None` where none stands
unfoldable pub char_at : List ℕ → ℕ → Scan
char_at s at = scan_of s (read_char (drop at s))

-- r is what a reader that starts at `from` gives: a code point and the place after it, or nothing
abbrev pub Scans : List ℕ → ℕ → Scan → Got ℕ → Type 0
Scans s from (Some (c, e)) g = (from ≤ e) × (e ≤ length s) × (g ≡ got c (drop e s))
Scans s from None g = g ≡ bad

-- r is the character at a place: the same, for reasoning
unfoldable pub CharAt : List ℕ → ℕ → Scan → Type 0
CharAt s at r = Scans s (at + 1) r (read_char (drop at s))
