-- `string_end` meets its contract. The loop's invariant: the rest of the string ends where the string does.
use mathlib.Core.Path.{◌≡◌}
use Prim.Native.Nat.{◌-◌}
use lib.ListN.{length}
use Rattle.json_string.specs.Strings.{string_end}
use Rattle.json_string.proofs.strings.string_end.Given as goal

abbrev pub invariant-loop-at : goal.invariant-loop-at
invariant-loop-at l = string_end l.s l.at ≡ string_end l.s l.from

abbrev pub decreases-loop-at : goal.decreases-loop-at
decreases-loop-at l = length l.s - l.at
