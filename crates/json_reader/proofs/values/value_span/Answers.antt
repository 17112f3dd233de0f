-- `value_span` meets its contract.
use mathlib.Core.Path.{sym, ◌∙◌}
use Rattle.json_tokens.specs.TokenLaws.{skips}
use Rattle.json_reader.proofs.TextLaws as law
use Rattle.json_reader.proofs.CycleLaws as cycle
use Rattle.json_reader.proofs.values.value_span.Goals as goal

pub returns-then-colon-s : goal.returns-then-colon-s
returns-then-colon-s c = law.span_none _ (cycle.colon_out _ (skips c.skip_ws-colon.ensures) c.if-colon-s.true)

pub returns-then-s-colon-ne58 : goal.returns-then-s-colon-ne58
returns-then-s-colon-ne58 c = law.span_none _ (cycle.colon_other _ (skips c.skip_ws-colon.ensures) c.if-colon-s.false c.if-s-colon-ne58.true)

pub returns : goal.returns
returns c =
    law.span_is _ (skips c.skip_ws-colon.ensures) c.if-colon-s.false c.if-s-colon-ne58.false (skips c.skip_ws-from.ensures) (sym c.in_ok-to.was ∙ c.bare.ensures)

pub returns-in_err-to : goal.returns-in_err-to
returns-in_err-to c =
    c.from_residual.ensures ∙ law.span_none _ (cycle.colon_is _ (skips c.skip_ws-colon.ensures) c.if-colon-s.false c.if-s-colon-ne58.false (cycle.value_bad _ (skips c.skip_ws-from.ensures) (sym c.in_err-to.was ∙ c.bare.ensures)))
