-- `top_members` meets its contract.
use Rattle.json_tokens.specs.TokenLaws.{skips}
use Rattle.json_members.proofs.StepPaths as law
use Rattle.json_members.proofs.steps.top_members.Goals as goal

pub returns-then-at-header : goal.returns-then-at-header
returns-then-at-header c = law.top_is (skips c.skip_ws-at.ensures) c.if-at-header.true c.first_member.ensures

pub returns : goal.returns
returns c = law.top_out (skips c.skip_ws-at.ensures) c.if-at-header.false
