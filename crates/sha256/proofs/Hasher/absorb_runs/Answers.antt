-- `sha256::Hasher::absorb_runs` meets its contract.
use Rattle.std.proofs.Common.{◌≡◌, List, ℕ, ◌+◌, ◌-◌, ◌*◌, refl, ap, ◌∙◌, arith}
use Rattle.sha2_rules.specs.Parameters.{sha_256}
use Rattle.sha2_rules.specs.Hash.{hash_value}
use Rattle.sha2_rules.proofs.BlockLaws.{more_blocks}
use Rattle.sha256.proofs.Chunks.{part}
use Rattle.sha256.proofs.Hasher.absorb_runs.Goals as goal

pub loop-run-init : goal.loop-run-init
unfolding hash_value
loop-run-init c = refl

pub loop-run-preserved : goal.loop-run-preserved
loop-run-preserved c =
    let m = c.args.m.now in
    let i = c.loop-run.run-index in
    let run = part 512 i m c.as_chunks.ensures.front (omega arith) in
    let size : i * 512 + 512 - i * 512 ≡ 512 = omega arith in
    let next : 8 * (i + 1) ≡ 8 * i + 8 = omega arith in
    rw next
    (more_blocks sha_256 c.args.self.now.value m (8 * i) 8 (i * 512) (omega arith) (omega arith) c.loop-run.invariant
    (c.compress_eight-next.ensures.value ∙ ap (λ (b : List ℕ). hash_value sha_256 c.loop-run.self.value b 8) (run ∙ rw size)))
