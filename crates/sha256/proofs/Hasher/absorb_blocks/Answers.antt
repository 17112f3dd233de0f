-- `sha256::Hasher::absorb_blocks` meets its contract.
use Rattle.std.proofs.Common.{refl, ap, ◌∙◌, add-one, arith}
use Rattle.sha2_rules.specs.Parameters.{sha_256}
use Rattle.sha2_rules.specs.Compression.{compressed}
use Rattle.sha2_rules.specs.Hash.{hash_value}
use Rattle.sha2_rules.proofs.ValueLaws.{next_block}
use Rattle.sha256.proofs.Chunks.{part}
use Rattle.sha256.proofs.Hasher.absorb_blocks.Goals as goal

pub loop-block-init : goal.loop-block-init
unfolding hash_value
loop-block-init c = refl

pub loop-block-preserved : goal.loop-block-preserved
loop-block-preserved c =
    let m = c.args.m.now in
    let i = c.loop-block.block-index in
    let block = part 64 i m c.as_chunks.ensures.front (omega arith) in
    rw add-one (next_block sha_256 c.args.self.now.value m i c.loop-block.invariant (c.compress-next.ensures ∙ ap (compressed sha_256 c.loop-block.self.value) block))
