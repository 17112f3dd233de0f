-- What the test of a range says.
use Rattle.std.specs.Prelude.{◌≡◌, true, false, ℕ, ◌≤◌, ◌<◌, leb}
use Rattle.std.proofs.Math.Bool.{and-false}
use Rattle.std.proofs.Common.{le-leb}
use Rattle.std.proofs.lemmas.Bool.{lt-leb}
use Rattle.common.specs.Ranges.{within}

pub within_is : (lo hi b : ℕ) → lo ≤ b → b ≤ hi → within lo hi b ≡ true
unfolding within
within_is lo hi b h k = rw (le-leb lo b h, le-leb b hi k)

pub from_low : (lo hi b : ℕ) → lo ≤ b → leb b hi ≡ within lo hi b
unfolding within
from_low lo hi b h = rw (le-leb lo b h)

pub below : (lo hi b : ℕ) → b < lo → within lo hi b ≡ false
unfolding within
below lo hi b h = rw (lt-leb lo b h)

pub above : (lo hi b : ℕ) → hi < b → within lo hi b ≡ false
unfolding within
above lo hi b h = rw (lt-leb b hi h) (and-false (leb lo b))
