-- `hmac::hash_with_block` meets its contract.
use Rattle.std.proofs.Common.{◌≡◌, ℕ, length, ap, sym, ◌∙◌, arith}
use Rattle.sha2_rules.specs.Parameters.{sha_256}
use Rattle.sha2_rules.specs.Hash.{hash_after}
use Rattle.sha2_rules.proofs.BlockLaws.{after_blocks}
use Rattle.hmac.proofs.hash_with_block.Goals as goal

pub returns : goal.returns
returns c =
    let block = c.args.block.now in
    let l : length block ≡ 64 = omega arith in
    c.finish.ensures.0 ∙ ap (λ (n : ℕ). hash_after sha_256 c.absorb_blocks.new.self.value n c.args.m.now) (sym l)
    ∙ rw (c.absorb_blocks.ensures, c.restart.ensures) (after_blocks sha_256 block c.args.m.now (omega arith) (omega arith))
