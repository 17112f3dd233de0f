-- `is_e` meets its contract.
use borrow.Author.Tests.{ne_eqb}
use Rattle.json_grammar_rules.specs.Bytes.{is_e}
use Rattle.json_tokens.proofs.numbers.is_e.Goals as goal

pub returns-then-b-eq101 : goal.returns-then-b-eq101
unfolding is_e
returns-then-b-eq101 c = rw c.if-b-eq101.true

pub returns-else-b-eq101 : goal.returns-else-b-eq101
unfolding is_e
returns-else-b-eq101 c = rw (ne_eqb _ 0x65 c.if-b-eq101.false)
