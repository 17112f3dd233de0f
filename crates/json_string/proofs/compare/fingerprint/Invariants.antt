-- `fingerprint` meets its contract. The loop's invariant: mixing the rest of the string into what is mixed so far gives the fingerprint.
use mathlib.Core.Path.{◌≡◌}
use Prim.Native.Nat.{◌-◌}
use lib.ListN.{length}
use Rattle.json_string.specs.Strings.{mixed_at, fingerprint_at}
use Rattle.json_string.proofs.compare.fingerprint.Given as goal

abbrev pub invariant-loop-at : goal.invariant-loop-at
invariant-loop-at l = mixed_at l.s l.at l.h ≡ fingerprint_at l.s l.p

abbrev pub decreases-loop-at : goal.decreases-loop-at
decreases-loop-at l = length l.s - l.at
