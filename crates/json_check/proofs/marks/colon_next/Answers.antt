-- `colon_next` meets its contract.
use mathlib.Core.Path.{◌∙◌}
use borrow.Author.Tests.{le-ltb}
use Rattle.json_tokens.specs.TokenLaws.{skips}
use Rattle.json_check.proofs.MarkLaws as law
use Rattle.json_check.proofs.marks.colon_next.Goals as goal

pub returns-then-at-s : goal.returns-then-at-s
returns-then-at-s c = law.colon_at (skips c.skip_ws-at.ensures) c.if-at-s.true

pub returns-else-at-s : goal.returns-else-at-s
returns-else-at-s c = le-ltb _ _ c.if-at-s.false ∙ law.colon_out (skips c.skip_ws-at.ensures) c.if-at-s.false
