-- `next_mark` meets its contract.
use Prim.Native.Nat.{◌-◌, ◌≤◌}
use lib.ListN.{length}
use Rattle.std.specs.Prelude.{Option}
use Rattle.json_check.specs.declared.marks.Mark.{Mark}
use Rattle.json_check.specs.Marks.{MarkAt}
use Rattle.json_check.proofs.marks.next_mark.Given as goal

abbrev pub invariant-loop-at : goal.invariant-loop-at
invariant-loop-at l = (l.from ≤ l.at) × (l.at ≤ length l.s) × ((r : Option Mark) → MarkAt l.s l.at r → MarkAt l.s l.from r)

abbrev pub decreases-loop-at : goal.decreases-loop-at
decreases-loop-at l = length l.s - l.at
