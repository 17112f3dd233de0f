-- `skip` meets its contract. What is passed over from `at` on ends where what is passed over from `from` on does, for each test that answers as the class.
use mathlib.Core.Path.{◌≡◌}
use mathlib.Core.Bool.{Bool}
use Prim.Native.Nat.{ℕ, ◌-◌, ◌<◌}
use lib.ListN.{length}
use Rattle.json_tokens.specs.Tokens.{skip_to}
use Rattle.json_tokens.proofs.classes.skip.Given as goal

abbrev pub invariant-loop-at : goal.invariant-loop-at
invariant-loop-at g l = (p : ℕ → Bool) → ((b : ℕ) (r : Bool) → b < 256 → goal.F-post g l.fn.class b r → r ≡ p b) → skip_to p l.s l.at ≡ skip_to p l.s l.from

abbrev pub decreases-loop-at : goal.decreases-loop-at
decreases-loop-at g l = length l.s - l.at
