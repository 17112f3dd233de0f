-- `sha256_compression::schedule::block_words` meets its contract.
use Rattle.std.proofs.Common.{◌≡◌, ◌+◌, ◌*◌, sym, refl, ◌∙◌, arith, length-set}
use Rattle.sha2_rules.specs.Parameters.{sha_256}
use Rattle.sha2_rules.specs.Compression.{schedule}
use Rattle.sha2_rules.proofs.ScheduleLaws.{block_word, one_word}
use Rattle.sha256_compression.proofs.schedule.block_words.Goals as goal

pub loop-t-init : goal.loop-t-init
unfolding schedule
loop-t-init c = (refl, refl)

pub loop-t-preserved : goal.loop-t-preserved
loop-t-preserved c =
    let b = c.args.block.now in
    let t = c.loop-t.t in
    let place : 4 * t ≡ t * 4 = omega arith in (
      simp length-set c.loop-t.invariant.0,
      one_word sha_256 b c.loop-t.w t (t + 1) _ refl (omega arith) c.loop-t.invariant.1 (c.number4_at.ensures ∙ rw place (sym (block_word sha_256 b (schedule sha_256 b t) t (omega arith)))),
    )
