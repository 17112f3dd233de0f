-- `same_text_lem` meets its contract. The loop's invariant: the rests of both strings compare as the strings do.
use Prim.Native.Nat.{◌-◌}
use lib.ListN.{length}
use mathlib.Core.Path.{◌≡◌}
use Rattle.json_string.specs.Strings.{same_text}
use Rattle.json_string.proofs.compare.same_text.Given as goal

abbrev pub invariant-loop-i : goal.invariant-loop-i
invariant-loop-i l = same_text l.s l.i l.t l.j ≡ same_text l.s l.p l.t l.q

abbrev pub decreases-loop-i : goal.decreases-loop-i
decreases-loop-i l = length l.s - l.i
