-- `meets` meets its contract.
use mathlib.Core.Path.{◌≡◌}
use Prim.Native.Nat.{◌-◌, ◌≤◌}
use lib.ListN.{length}
use Rattle.json_check.proofs.StackLaws.{Without}
use Rattle.json_check.proofs.NameLaws.{Meeting}
use Rattle.json_check.proofs.names.meets.Given as goal

abbrev pub invariant-loop-i : goal.invariant-loop-i
invariant-loop-i l = (l.names.base ≤ l.i) × (l.i ≤ l.names.count) × Without l.s l.fn.names.kept l.names.base l.i l.place

abbrev pub invariant-pairs : goal.invariant-pairs
invariant-pairs l =
    (l.names.count ≤ 64) × (l.names.kept ≡ l.fn.names.kept) × Meeting l.s l.fn.names.kept l.fn.names.base l.fn.names.count l.from l.names.base l.names.count l.inner l.at

abbrev pub decreases-pairs : goal.decreases-pairs
decreases-pairs l = length l.s - l.at
