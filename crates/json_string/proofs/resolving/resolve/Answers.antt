-- `resolve` meets its contract.
use mathlib.Core.Path.{ap, ◌∙◌}
use mathlib.Core.Bool.{not}
use Rattle.json_string.proofs.WriteLaws.{resolves_some, resolves_cleared}
use Rattle.json_string.proofs.resolving.resolve.Goals as goal

pub returns-then-is_none : goal.returns-then-is_none
returns-then-is_none c = resolves_cleared _ _ _ _ _ _ c.write-written.ensures (c.is_none.ensures ∙ ap not c.if-is_none.true) c.write-written.auto.out c.zero.ensures

pub returns-else-is_none : goal.returns-else-is_none
returns-else-is_none c = resolves_some _ _ _ _ _ c.write-written.ensures (c.is_none.ensures ∙ ap not c.if-is_none.false)
