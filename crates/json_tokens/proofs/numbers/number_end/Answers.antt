-- `number_end` meets its contract.
use Rattle.json_tokens.specs.TokenLaws.{number_is}
use Rattle.json_tokens.proofs.NumberLaws as law
use Rattle.json_tokens.proofs.numbers.number_end.Goals as goal

pub returns-then-s-at-eq45 : goal.returns-then-s-at-eq45
returns-then-s-at-eq45 c = number_is (law.number_minus c.requires c.if-s-at-eq45.true c.unsigned_end.ensures)

pub returns : goal.returns
returns c = number_is (law.number_unsigned c.requires c.if-s-at-eq45.false c.unsigned_end-2.ensures)
