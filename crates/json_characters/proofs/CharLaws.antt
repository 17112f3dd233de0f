-- Laws of the character at a place, by its first byte.
use Rattle.std.specs.Prelude.{None}
use mathlib.Core.Path.{◌≡◌, sym, ap, subst}
use mathlib.Core.List.{List}
use Prim.Native.Nat.{ℕ, ◌+◌, ◌≤◌, ◌<◌}
use lib.ListN.{length, get_or, drop_of_length-le}
use Rattle.json_grammar_rules.specs.Bytes.{within}
use Rattle.json_grammar_rules.specs.Reader.{Got, is_unescaped1, char_lead, read_escape, read_char}
use Rattle.json_characters.specs.Characters.{Scan, Scans, char_at, CharAt}
use Rattle.json_characters.specs.CharacterLaws.{char_is}
use Rattle.json_characters.specs.Places.{at_byte}
use Rattle.json_characters.specs.Steps.{ScanAt, FormAt}

pub char_out : (s : List ℕ) (at : ℕ) → length s ≤ at → None ≡ char_at s at
unfolding CharAt read_char
char_out s at h = char_is s at None (ap read_char (drop_of_length-le s h))

module _ (s : List ℕ) (at : ℕ) (h : at < length s) where
  pub char_form : (r : Scan) → FormAt (get_or s at 0) s (at + 1) r → r ≡ char_at s at
  unfolding CharAt FormAt ScanAt read_char
  char_form r k = char_is s at r (subst (λ (g : Got ℕ). Scans s (at + 1) r g) (sym (ap read_char (at_byte s at h))) k)

  pub char_escape : (r : Scan) → get_or s at 0 ≡ 0x5C → ScanAt read_escape s (at + 1) r → r ≡ char_at s at
  unfolding FormAt char_lead is_unescaped1 within
  char_escape r e k = char_form r (rw e k)
