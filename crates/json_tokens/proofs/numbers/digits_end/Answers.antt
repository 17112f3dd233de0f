-- `digits_end` meets its contract.
use mathlib.Core.Path.{sym, ◌∙◌}
use Rattle.json_grammar_rules.specs.Bytes.{is_digit}
use Rattle.json_tokens.specs.TokenLaws.{moves}
use Rattle.json_tokens.proofs.NumberLaws as law
use Rattle.json_tokens.proofs.numbers.digits_end.Goals as goal

pub returns-then-at-s : goal.returns-then-at-s
returns-then-at-s c = law.digits_out c.if-at-s.true

pub returns-then-is_digit : goal.returns-then-is_digit
returns-then-is_digit c = law.digits_is c.if-at-s.false (sym c.is_digit.ensures ∙ c.if-is_digit.true) (moves is_digit c.skip_digits.ensures)

pub returns : goal.returns
returns c = law.digits_other c.if-at-s.false (sym c.is_digit.ensures ∙ c.if-is_digit.false)
