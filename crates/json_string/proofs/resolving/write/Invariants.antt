-- `write` meets its contract. The loop's invariant: the octets of the characters passed are at the front.
use Prim.Native.Nat.{◌-◌}
use lib.ListN.{length}
use Rattle.json_string.proofs.WriteLaws.{Ahead}
use Rattle.json_string.proofs.resolving.write.Given as goal

abbrev pub invariant-loop-i : goal.invariant-loop-i
invariant-loop-i l = Ahead l.s l.p l.initial.out l.i l.n l.out

abbrev pub decreases-loop-i : goal.decreases-loop-i
decreases-loop-i l = length l.s - l.i
