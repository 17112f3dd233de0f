-- What the private functions' contracts cite: octets in a word, and octets written.
use Rattle.std.specs.Prelude.{◌≡◌, false, List, ◌++◌, ℕ, ◌≤◌, ◌<◌, length, drop, Some, None}
use Rattle.common.specs.Same.{same}
use Rattle.json_grammar_rules.specs.Reader.{Got, bad, got}
use Rattle.json_characters.specs.Utf8.{octets, utf8}
use Rattle.json_string.specs.Strings.{text_at}
use Rattle.json_string.specs.Ends.{End}

-- r is the place in w after the octets of c, which stand at a place or do not
unfoldable pub OctetsEnd : List ℕ → ℕ → ℕ → End → Type 0
OctetsEnd w at c (Some e) = (at ≤ e) × (e ≤ length w) × ((xs : List ℕ) → same (octets c ++ xs) (drop at w) ≡ same xs (drop e w))
OctetsEnd w at c None = (xs : List ℕ) → same (octets c ++ xs) (drop at w) ≡ false

-- after the octets w, those of the string that was read were written to the front of a buffer that held old and now holds new; or no
-- string was read, or there is no room for all of them
abbrev pub Wrote : List ℕ → List ℕ → List ℕ → End → Got (List ℕ) → Type 0
Wrote w old new (Some n) (got cs r) = (length (w ++ utf8 cs) ≤ length old) × (n ≡ length (w ++ utf8 cs)) × (new ≡ (w ++ utf8 cs) ++ drop n old)
Wrote w old new (Some n) bad = ⊥
Wrote w old new None (got cs r) = length old < length (w ++ utf8 cs)
Wrote w old new None bad = Unit {0}

-- .. of the string at p
unfoldable pub Writes : List ℕ → ℕ → List ℕ → List ℕ → List ℕ → End → Type 0
Writes s p w old new r = Wrote w old new r (text_at s p)
