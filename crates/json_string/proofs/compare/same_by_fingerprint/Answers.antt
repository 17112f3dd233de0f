-- `same_by_fingerprint` meets its contract.
use mathlib.Core.Path.{◌∙◌}
use borrow.Author.Tests.{ne_eqb}
use Rattle.json_string.proofs.TextPaths.{fingerprints_differ}
use Rattle.json_string.proofs.compare.same_by_fingerprint.Goals as goal

pub returns-else-f-g : goal.returns-else-f-g
returns-else-f-g c = ne_eqb _ _ c.if-f-g.false ∙ fingerprints_differ _ _ _ _ _ _ c.requires.0 c.requires.1 c.if-f-g.false
