-- `skip_sign` meets its contract.
use mathlib.Core.Path.{sym, ◌∙◌}
use Rattle.json_tokens.proofs.NumberLaws as law
use Rattle.json_tokens.proofs.numbers.skip_sign.Goals as goal

pub returns-then-at-s : goal.returns-then-at-s
returns-then-at-s c = law.sign_out c.if-at-s.true

pub returns-then-is_sign : goal.returns-then-is_sign
returns-then-is_sign c = law.sign_is c.if-at-s.false (sym c.is_sign.ensures ∙ c.if-is_sign.true)

pub returns : goal.returns
returns c = law.sign_other c.if-at-s.false (sym c.is_sign.ensures ∙ c.if-is_sign.false)
