-- `sha256::Hasher::absorb_runs` meets its contract.
use Rattle.std.proofs.Common.{◌≡◌, ◌*◌}
use Rattle.sha2_rules.specs.Parameters.{sha_256}
use Rattle.sha2_rules.specs.Hash.{hash_value}
use Rattle.sha256.proofs.Hasher.absorb_runs.Given as goal

abbrev pub invariant-loop-run : goal.invariant-loop-run
invariant-loop-run l = l.self.value ≡ hash_value sha_256 l.initial.self.value l.m (8 * l.run-index)
