-- `exp_end` meets its contract.
use mathlib.Core.Path.{sym, ◌∙◌}
use Rattle.json_tokens.proofs.NumberLaws as law
use Rattle.json_tokens.proofs.numbers.exp_end.Goals as goal

pub returns-then-at-s : goal.returns-then-at-s
returns-then-at-s c = law.exp_out c.requires c.if-at-s.true

pub returns-then-is_e : goal.returns-then-is_e
returns-then-is_e c = law.exp_is c.if-at-s.false (sym c.is_e.ensures ∙ c.if-is_e.true) c.skip_sign.ensures c.digits_end.ensures

pub returns : goal.returns
returns c = law.exp_other c.if-at-s.false (sym c.is_e.ensures ∙ c.if-is_e.false)
