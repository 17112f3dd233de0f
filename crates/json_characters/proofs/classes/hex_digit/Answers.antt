-- `hex_digit` meets its contract.
use mathlib.Core.Path.{sym, ◌∙◌}
use native.Mathlib.Omega.{arith}
use Rattle.json_grammar_rules.proofs.ByteLaws.{within_true}
use Rattle.json_characters.proofs.ClassLaws.{digit_decimal, digit_letter, digit_none}
use Rattle.json_characters.proofs.classes.hex_digit.Goals as goal

pub returns-then-between : goal.returns-then-between
returns-then-between c = digit_decimal _ (sym c.between.ensures ∙ c.if-between.true) c.from.ensures

pub returns-then-between-2 : goal.returns-then-between-2
returns-then-between-2 c = digit_letter _ (sym c.between.ensures ∙ c.if-between.false) (sym c.between-2.ensures ∙ c.if-between-2.true) c.from-then-between-2.ensures

pub returns : goal.returns
returns c = digit_none _ (sym c.between.ensures ∙ c.if-between.false) (sym c.between-2.ensures ∙ c.if-between-2.false)

pub overflow_sub-b : goal.overflow_sub-b
overflow_sub-b c = (within_true 0x30 0x39 _ (sym c.between.ensures ∙ c.if-between.true)).0
