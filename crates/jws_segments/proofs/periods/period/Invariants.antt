-- `period`: no byte before i is a period.
use Rattle.std.specs.Prelude.{nat_eq}
use Rattle.base64url_rules.proofs.Searches.{Unmet}
use Rattle.jws_segments.proofs.periods.period.Given as goal

abbrev pub invariant-loop-i : goal.invariant-loop-i
invariant-loop-i l = Unmet (λ b. nat_eq b 46) l.s 0 l.i
