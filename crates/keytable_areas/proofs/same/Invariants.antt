-- `same`: the bytes before i agree, word by word; the last word begins at i or before it.
use Prim.Native.Nat.{◌≤◌, ◌-◌}
use lib.ListN.{length}
use Rattle.common.specs.Bytes.{Bytes}
use Rattle.common.specs.LittleEndian.{SameTo}
use Rattle.keytable_areas.proofs.same.Given as goal

abbrev pub invariant-loop-i : goal.invariant-loop-i
invariant-loop-i l = (l.i ≤ length l.a) × SameTo l.a l.b l.i × Bytes l.a × Bytes l.b

abbrev pub decreases-loop-i : goal.decreases-loop-i
decreases-loop-i l = length l.a - l.i
