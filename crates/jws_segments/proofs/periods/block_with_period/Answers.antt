-- `block_with_period`: no block before i has a period.
use Rattle.std.proofs.Common.{[], sym, ◌∙◌}
use Rattle.base64url_rules.proofs.Searches.{met, unmet}
use Rattle.jws_segments.proofs.periods.block_with_period.Goals as goal

pub returns-then-has_period : goal.returns-then-has_period
returns-then-has_period c = met _ _ [] c.loop-i.i c.loop-i.invariant c.loop-i-test.true (sym c.has_period.ensures ∙ c.if-has_period.true)

pub returns : goal.returns
returns c = unmet _ c.args.blocks.now [] c.loop-i.invariant c.loop-i-test.false
