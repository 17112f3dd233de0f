-- No bit differs as long as the bytes before i agree, and only so long.
use mathlib.Core.Path.{◌≡◌}
use mathlib.Core.Logic.{◌↔◌}
use mathlib.Core.List.{List}
use Prim.Native.Nat.{ℕ, ◌<◌}
use lib.ListN.{get_or}
use Rattle.jws_segments.proofs.equal.differences.Given as goal

-- the bytes before i agree
abbrev pub Alike : List ℕ → List ℕ → ℕ → Type 0
Alike a b i = (k : ℕ) → k < i → get_or a k 0 ≡ get_or b k 0

abbrev pub invariant-loop-i : goal.invariant-loop-i
invariant-loop-i l = (l.all ≡ 0) ↔ Alike l.a l.b l.i
