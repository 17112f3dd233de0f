-- `sha256_runs::rounds::compress_eight` meets its contract.
use Rattle.std.proofs.Common.{◌≡◌}
use Rattle.sha2_rules.specs.Parameters.{sha_256}
use Rattle.sha2_rules.specs.Hash.{hash_value}
use Rattle.sha256_runs.proofs.rounds.compress_eight.Given as goal

abbrev pub invariant-loop-l : goal.invariant-loop-l
invariant-loop-l l = l.v ≡ hash_value sha_256 l.initial.v l.run l.l
