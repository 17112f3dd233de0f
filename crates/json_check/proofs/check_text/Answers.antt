-- `check_text` meets its contract.
use Rattle.json_check.proofs.TextLaws as law
use Rattle.json_check.proofs.check_text.Goals as goal

pub returns-then-not-text : goal.returns-then-not-text
returns-then-not-text c = law.text_other _ _ c.text.ensures c.if-not-text.true

pub returns-then-twice_from : goal.returns-then-twice_from
returns-then-twice_from c = law.text_twice _ _ c.text.ensures c.if-not-text.false c.twice_from.ensures c.if-twice_from.true

pub returns : goal.returns
returns c = law.text_fine _ _ c.text.ensures c.if-not-text.false c.twice_from.ensures c.if-twice_from.false
