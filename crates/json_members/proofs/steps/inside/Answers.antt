-- `inside` meets its contract.
use Rattle.json_tokens.specs.TokenLaws.{skips}
use Rattle.json_members.proofs.StepPaths as law
use Rattle.json_members.proofs.steps.inside.Goals as goal

pub returns-then-p-s : goal.returns-then-p-s
returns-then-p-s c = law.first_out _ (skips c.skip_ws-p.ensures) c.if-p-s.true

pub returns-then-s-p : goal.returns-then-s-p
returns-then-s-p c = law.first_closed _ (skips c.skip_ws-p.ensures) c.if-p-s.false c.if-s-p.true

pub returns : goal.returns
returns c = law.first_found _ (skips c.skip_ws-p.ensures) c.if-p-s.false c.if-s-p.false
