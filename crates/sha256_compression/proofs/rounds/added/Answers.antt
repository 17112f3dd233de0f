-- `sha256_compression::rounds::added` meets its contract.
use Rattle.std.proofs.Common.{refl, arith, length-set}
use Rattle.sha2_rules.specs.Parameters.{sha_256}
use Rattle.sha2_rules.proofs.RoundLaws.{one_sum}
use Rattle.sha256_compression.proofs.rounds.added.Goals as goal

pub loop-i-preserved : goal.loop-i-preserved
loop-i-preserved c = (
  simp length-set c.loop-i.invariant.0,
  one_sum sha_256 c.args.v c.args.h c.loop-i.sums c.loop-i.i _ (omega arith) c.loop-i.invariant.1 refl,
)
