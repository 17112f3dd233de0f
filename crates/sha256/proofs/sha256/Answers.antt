-- `sha256::sha256` meets its contract.
use Rattle.std.proofs.Common.{[], refl, ◌∙◌, arith}
use Rattle.sha2_rules.specs.Parameters.{sha_256}
use Rattle.sha2_rules.specs.Hash.{hash_value}
use Rattle.sha2_rules.proofs.BlockLaws.{after_blocks}
use Rattle.sha256.proofs.sha256.Goals as goal

pub returns : goal.returns
unfolding hash_value
returns c = c.finish.ensures.0 ∙ rw c.new.ensures (after_blocks sha_256 [] c.args.m.now (omega arith) refl)
