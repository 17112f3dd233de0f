-- `sha256_runs::rounds::compress_eight` meets its contract.
use Rattle.std.proofs.Common.{refl, add-one}
use Rattle.sha2_rules.specs.Parameters.{sha_256}
use Rattle.sha2_rules.specs.Hash.{hash_value}
use Rattle.sha2_rules.proofs.ValueLaws.{next_block}
use Rattle.sha256_runs.proofs.rounds.compress_eight.Goals as goal

pub loop-l-init : goal.loop-l-init
unfolding hash_value
loop-l-init c = refl

pub loop-l-preserved : goal.loop-l-preserved
loop-l-preserved c =
    rw add-one (next_block sha_256 c.args.value c.args.run.now c.loop-l.l c.loop-l.invariant (c.compress_one-next.ensures c.args.run.now c.make.ensures))
