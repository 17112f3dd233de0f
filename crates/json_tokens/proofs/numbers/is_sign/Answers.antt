-- `is_sign` meets its contract.
use borrow.Author.Tests.{ne_eqb}
use Rattle.json_grammar_rules.specs.Bytes.{is_sign}
use Rattle.json_tokens.proofs.numbers.is_sign.Goals as goal

pub returns-then-b-eq45 : goal.returns-then-b-eq45
unfolding is_sign
returns-then-b-eq45 c = rw c.if-b-eq45.true

pub returns-else-b-eq45 : goal.returns-else-b-eq45
unfolding is_sign
returns-else-b-eq45 c = rw (ne_eqb _ 0x2D c.if-b-eq45.false)
