-- `between` meets its contract.
use mathlib.Core.Path.{sym}
use Rattle.json_grammar_rules.proofs.ByteLaws.{from_low, below}
use Rattle.json_characters.proofs.classes.between.Goals as goal

pub returns-then-b-lo : goal.returns-then-b-lo
returns-then-b-lo c = sym (below _ _ _ c.if-b-lo.true)

pub returns : goal.returns
returns c = from_low _ _ _ c.if-b-lo.false
