-- `has_period`: whether one of the bytes before i is a period.
use Rattle.std.specs.Prelude.{◌≡◌, take}
use Rattle.jws_segments.specs.Split.{with_period}
use Rattle.jws_segments.proofs.periods.has_period.Given as goal

abbrev pub invariant-loop-i : goal.invariant-loop-i
invariant-loop-i l = l.found ≡ with_period (take l.i l.s)
