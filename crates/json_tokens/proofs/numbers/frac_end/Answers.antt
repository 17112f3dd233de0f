-- `frac_end` meets its contract.
use Rattle.json_tokens.proofs.NumberLaws as law
use Rattle.json_tokens.proofs.numbers.frac_end.Goals as goal

pub returns-then-at-s : goal.returns-then-at-s
returns-then-at-s c = law.frac_out c.requires c.if-at-s.true

pub returns-then-s-at-eq46 : goal.returns-then-s-at-eq46
returns-then-s-at-eq46 c = law.frac_is c.if-at-s.false c.if-s-at-eq46.true c.digits_end.ensures

pub returns : goal.returns
returns c = law.frac_other c.if-at-s.false c.if-s-at-eq46.false
