-- `period`: no byte before i is a period.
use Rattle.std.proofs.Common.{below_more, below_none, eq-eqb, ne_eqb}
use Rattle.base64url_rules.proofs.Searches.{met, unmet}
use Rattle.jws_segments.proofs.periods.period.Goals as goal

pub loop-i-init : goal.loop-i-init
loop-i-init c = below_none _

pub returns-then-s-i-eq46 : goal.returns-then-s-i-eq46
returns-then-s-i-eq46 c = met _ _ 0 c.loop-i.i c.loop-i.invariant c.loop-i-test.true (eq-eqb _ 46 c.if-s-i-eq46.true)

pub loop-i-preserved : goal.loop-i-preserved
loop-i-preserved c = below_more _ _ c.loop-i.invariant (ne_eqb _ 46 c.if-s-i-eq46.false)

pub returns : goal.returns
returns c = unmet _ c.args.s.now 0 c.loop-i.invariant c.loop-i-test.false
