-- `after_comma` meets its contract.
use Rattle.json_tokens.specs.TokenLaws.{skips}
use Rattle.json_members.proofs.StepPaths as law
use Rattle.json_members.proofs.steps.after_comma.Goals as goal

pub returns-then-at-s : goal.returns-then-at-s
returns-then-at-s c = law.next_out (skips c.skip_ws-at.ensures) c.if-at-s.true

pub returns-then-s-at-ne44 : goal.returns-then-s-at-ne44
returns-then-s-at-ne44 c = law.next_other (skips c.skip_ws-at.ensures) c.if-at-s.false c.if-s-at-ne44.true

pub returns-then-p-s : goal.returns-then-p-s
returns-then-p-s c = law.next_end (skips c.skip_ws-at.ensures) c.if-at-s.false c.if-s-at-ne44.false (skips c.skip_ws-p.ensures) c.if-p-s.true

pub returns : goal.returns
returns c = law.next_found (skips c.skip_ws-at.ensures) c.if-at-s.false c.if-s-at-ne44.false (skips c.skip_ws-p.ensures) c.if-p-s.false
