-- `text_is` meets its contract. The loop's invariant: the rests of the string and of the word compare as both do.
use Prim.Native.Nat.{◌≤◌, ◌-◌}
use lib.ListN.{length, drop}
use mathlib.Core.Path.{◌≡◌}
use Rattle.json_string.specs.Strings.{text_is}
use Rattle.json_string.proofs.compare.text_is.Given as goal

abbrev pub invariant-loop-i : goal.invariant-loop-i
invariant-loop-i l = (l.k ≤ length l.word) × (text_is l.s l.i (drop l.k l.word) ≡ text_is l.s l.p l.word)

abbrev pub decreases-loop-i : goal.decreases-loop-i
decreases-loop-i l = length l.s - l.i
