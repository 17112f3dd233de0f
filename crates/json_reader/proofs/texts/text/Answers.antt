-- `text` meets its contract.
use Rattle.json_tokens.specs.TokenLaws.{skips}
use Rattle.json_tokens.specs.EndsLaws.{ended}
use Rattle.json_reader.proofs.TextLaws as law
use Rattle.json_reader.proofs.texts.text.Goals as goal

pub returns-then-at-s : goal.returns-then-at-s
returns-then-at-s c = law.text_out _ (skips c.skip_ws-at.ensures) c.if-at-s.true

pub returns-then-s-at-ne123 : goal.returns-then-s-at-ne123
returns-then-s-at-ne123 c = law.text_other _ (skips c.skip_ws-at.ensures) c.if-at-s.false c.if-s-at-ne123.true

pub returns : goal.returns
returns c =
    law.text_is_lem _ (skips c.skip_ws-at.ensures) c.if-at-s.false c.if-s-at-ne123.false (ended c.in-Some.is c.object.ensures) (skips c.skip_ws.ensures)

pub returns-in_default : goal.returns-in_default
returns-in_default c =
    law.text_object_bad _ (skips c.skip_ws-at.ensures) c.if-at-s.false c.if-s-at-ne123.false (ended c.in_default.is c.object.ensures)
