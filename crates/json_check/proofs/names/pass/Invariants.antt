-- `pass` meets its contract.
use Prim.Native.Nat.{◌-◌, ◌≤◌}
use lib.ListN.{length}
use Rattle.json_check.proofs.StackLaws.{Without}
use Rattle.json_check.proofs.NameLaws.{Filling}
use Rattle.json_check.proofs.names.pass.Given as goal

abbrev pub invariant-loop-i : goal.invariant-loop-i
invariant-loop-i l = (l.names.base ≤ l.i) × (l.i ≤ l.names.count) × Without l.s l.names.kept l.names.base l.i l.place

abbrev pub invariant-pairs : goal.invariant-pairs
invariant-pairs l = (l.names.count ≤ 64) × Filling l.s l.from l.names.kept l.names.base l.names.count l.at

abbrev pub decreases-pairs : goal.decreases-pairs
decreases-pairs l = length l.s - l.at
