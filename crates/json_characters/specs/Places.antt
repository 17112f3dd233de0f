-- Places in a list of bytes.
use Rattle.std.specs.Prelude.{◌≡◌, List, ◌∷◌, ℕ, ◌+◌, ◌≤◌, ◌<◌, length, drop, get_or}
use Rattle.std.proofs.Common.{sym, arith, add-one, length-drop, drop-cons}
use Rattle.json_grammar_rules.proofs.Endings.{Ending, at_ending, ending_of, ending_drop}
use Rattle.json_grammar_rules.specs.Places.{pos}

-- the byte at a place, and the rest
pub at_byte : (s : List ℕ) (at : ℕ) → at < length s → drop at s ≡ get_or s at 0 ∷ drop (at + 1) s
at_byte s at h = rw (add-one at) (drop-cons s at 0 h)

-- the place of the bytes from i on
pub pos_drop : (s : List ℕ) (i : ℕ) → i ≤ length s → pos s (drop i s) ≡ i
unfolding pos
pos_drop s i h = rw (length-drop i s) (omega arith)

-- the place of what is left of the bytes from i on, when some are taken
pub pos_left : (s : List ℕ) (i : ℕ) {x : List ℕ} → Ending (drop i s) x → length x < length (drop i s) → (i + 1 ≤ pos s x) × (pos s x ≤ length s) × (x ≡ drop (pos s x) s)
unfolding pos
pos_left s i {x} e h = let l = length-drop i s in (omega arith, omega arith, sym (at_ending (ending_of (ending_drop s i) e)))
