-- `is_digit` meets its contract.
use mathlib.Core.Path.{sym}
use native.Mathlib.Omega.{arith}
use Rattle.json_grammar_rules.specs.Bytes.{is_digit}
use Rattle.json_grammar_rules.proofs.ByteLaws.{within_is, above, below}
use Rattle.json_tokens.proofs.numbers.is_digit.Goals as goal

pub returns-in-48-to-57 : goal.returns-in-48-to-57
unfolding is_digit
returns-in-48-to-57 c = sym (within_is 0x30 0x39 c.args.b (omega arith) (omega arith))

pub returns-in_default : goal.returns-in_default
unfolding is_digit
returns-in_default c = sym (below 0x30 0x39 c.args.b (omega arith))

pub returns-in_default-2 : goal.returns-in_default-2
unfolding is_digit
returns-in_default-2 c = sym (above 0x30 0x39 c.args.b (omega arith))
