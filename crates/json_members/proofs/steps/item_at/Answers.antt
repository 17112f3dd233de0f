-- `item_at` meets its contract.
use mathlib.Core.Path.{sym, ◌∙◌}
use native.Mathlib.Omega.{arith}
use Rattle.json_tokens.specs.EndsLaws.{bounds}
use Rattle.json_tokens.specs.TokenLaws.{skips}
use Rattle.json_reader.specs.ReadLaws.{bare_ends}
use Rattle.json_members.proofs.StepPaths as law
use Rattle.json_members.proofs.steps.item_at.Goals as goal

pub returns-in_err-e : goal.returns-in_err-e
returns-in_err-e c = c.from_residual.ensures ∙ law.item_none _ (skips c.skip_ws-f.ensures) (sym c.in_err-e.was ∙ c.bare.ensures)

pub spanned-requires : goal.spanned-requires
spanned-requires c = let k = bounds (bare_ends _ (sym c.in_ok-e.was ∙ c.bare.ensures)) in (omega (arith, k.0), k.1)

pub returns : goal.returns
returns c = law.item_is _ (skips c.skip_ws-f.ensures) (sym c.in_ok-e.was ∙ c.bare.ensures) c.spanned.ensures
