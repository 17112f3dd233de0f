-- `block_with_period`: no block before i has a period.
use Rattle.std.specs.Prelude.{[]}
use Rattle.base64url_rules.proofs.Searches.{Unmet}
use Rattle.jws_segments.specs.Split.{with_period}
use Rattle.jws_segments.proofs.periods.block_with_period.Given as goal

abbrev pub invariant-loop-i : goal.invariant-loop-i
invariant-loop-i l = Unmet with_period l.blocks [] l.i
