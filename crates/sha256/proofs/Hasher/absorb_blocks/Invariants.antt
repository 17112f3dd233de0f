-- `sha256::Hasher::absorb_blocks` meets its contract.
use Rattle.std.proofs.Common.{◌≡◌}
use Rattle.sha2_rules.specs.Parameters.{sha_256}
use Rattle.sha2_rules.specs.Hash.{hash_value}
use Rattle.sha256.proofs.Hasher.absorb_blocks.Given as goal

abbrev pub invariant-loop-block : goal.invariant-loop-block
invariant-loop-block l = l.self.value ≡ hash_value sha_256 l.initial.self.value l.m l.block-index
