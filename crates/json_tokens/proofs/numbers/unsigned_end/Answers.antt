-- `unsigned_end` meets its contract.
use Rattle.json_tokens.specs.EndsLaws.{ended, bounds}
use Rattle.json_tokens.proofs.NumberLaws as law
use Rattle.json_tokens.proofs.numbers.unsigned_end.Goals as goal

pub frac_end-requires : goal.frac_end-requires
frac_end-requires c = (bounds (ended c.in_ok-f.was c.int_end.ensures)).1

pub exp_end-requires : goal.exp_end-requires
exp_end-requires c = (bounds (ended c.in_ok-x.was c.frac_end.ensures)).1

pub returns : goal.returns
returns c = law.unsigned_is (ended c.in_ok-f.was c.int_end.ensures) (ended c.in_ok-x.was c.frac_end.ensures) c.exp_end.ensures

pub returns-in_err-x : goal.returns-in_err-x
returns-in_err-x c = rw c.from_residual-in_err-x.ensures (law.unsigned_frac_bad (ended c.in_ok-f.was c.int_end.ensures) (ended c.in_err-x.was c.frac_end.ensures))

pub returns-in_err-f : goal.returns-in_err-f
returns-in_err-f c = rw c.from_residual.ensures (law.unsigned_int_bad (ended c.in_err-f.was c.int_end.ensures))
