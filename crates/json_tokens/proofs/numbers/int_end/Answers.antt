-- `int_end` meets its contract.
use native.Mathlib.Omega.{arith}
use lib.ListN.{get_or}
use Rattle.json_grammar_rules.specs.Bytes.{is_digit, is_digit19}
use Rattle.json_grammar_rules.proofs.ByteLaws.{within_is, above, below}
use Rattle.json_tokens.specs.TokenLaws.{moves}
use Rattle.json_tokens.proofs.NumberLaws as law
use Rattle.json_tokens.proofs.numbers.int_end.Goals as goal

pub returns-then-at-s : goal.returns-then-at-s
returns-then-at-s c = law.int_out c.if-at-s.true

pub returns-in-48 : goal.returns-in-48
returns-in-48 c = law.int_zero c.if-at-s.false c.in-48.is

pub returns-in-49-to-57 : goal.returns-in-49-to-57
unfolding is_digit19
returns-in-49-to-57 c =
    law.int_digits c.if-at-s.false (within_is 0x31 0x39 (get_or c.args.s.now c.args.at 0) (omega arith) (omega arith)) (moves is_digit c.skip_digits.ensures)

pub returns-in_default : goal.returns-in_default
unfolding is_digit19
returns-in_default c = law.int_other c.if-at-s.false (below 0x31 0x39 (get_or c.args.s.now c.args.at 0) (omega arith)) (λ e. omega arith)

pub returns-in_default-2 : goal.returns-in_default-2
unfolding is_digit19
returns-in_default-2 c = law.int_other c.if-at-s.false (above 0x31 0x39 (get_or c.args.s.now c.args.at 0) (omega arith)) (λ e. omega arith)
