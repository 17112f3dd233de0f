-- `sha256::Hasher::absorb` meets its contract.
use Rattle.std.proofs.Common.{List, ℕ, ◌/◌, length, ap, sym, ◌∙◌, arith}
use Rattle.common.specs.Laid.{part_from}
use Rattle.sha2_rules.specs.Parameters.{sha_256}
use Rattle.sha2_rules.specs.Hash.{hash_value}
use Rattle.sha2_rules.proofs.BlockLaws.{two_parts}
use Rattle.sha256.proofs.Hasher.absorb.Goals as goal

pub returns : goal.returns
returns c =
    let m = c.args.m.now in
    let n = c.in_runs-n.result in
    let value = c.args.self.now.value in
    let after = c.absorb_runs.new.self.value in
    two_parts sha_256 value m n (omega arith) c.in_runs-n.ensures.0 (omega (arith, c.in_runs-n.ensures.1))
    (c.absorb_runs.ensures ∙ ap (λ (part : List ℕ). hash_value sha_256 value part (length part / 64)) c.split_at.ensures.front)
    (c.absorb_blocks-2.ensures ∙ ap (λ (part : List ℕ). hash_value sha_256 after part (length part / 64)) (c.split_at.ensures.back ∙ sym (part_from n m)))
