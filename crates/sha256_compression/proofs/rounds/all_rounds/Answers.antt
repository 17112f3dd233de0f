-- `sha256_compression::rounds::all_rounds` meets its contract.
use Rattle.std.proofs.Common.{◌≡◌, ◌+◌, ◌*◌, set, refl, arith, length-set}
use Rattle.sha2_rules.specs.Parameters.{sha_256}
use Rattle.sha2_rules.specs.Compression.{rounds}
use Rattle.sha2_rules.proofs.ScheduleLaws.{one_later}
use Rattle.sha2_rules.proofs.RoundLaws.{two_more}
use Rattle.sha256_compression.proofs.rounds.all_rounds.Goals as goal

pub making-init : goal.making-init
unfolding rounds
making-init c = record { words_len = omega arith; words = c.block_words-w.ensures; value = refl }

pub making-preserved : goal.making-preserved
making-preserved c =
    let t = 2 * c.making.turn in
    let b = c.args.block.now in
    let i = c.making.invariant in
    let next : 2 * (c.making.turn + 1) ≡ t + 2 = omega arith in
    let w1 = one_later sha_256 b c.making.w (t + 16) (t + 17) c.later_word.result (omega arith) (omega arith) (omega arith) i.words c.later_word.ensures in
    record {
      words_len = simp length-set i.words_len;
      words = rw next (one_later sha_256 b (set c.making.w (t + 16) c.later_word.result) (t + 17) (t + 2 + 16) c.later_word-in-making.result (omega arith) (omega arith) (simp length-set (omega arith)) w1 c.later_word-in-making.ensures);
      value = rw next (two_more sha_256 c.args.value b _ c.making.w t (t + 16) 64 refl (omega arith) (omega arith) i.words i.value c.two_rounds-next.ensures);
    }

pub last-preserved : goal.last-preserved
last-preserved c = λ s h.
    let made : 2 * c.making.turn + 16 ≡ 64 = omega arith in
    let next : 2 * (c.last.turn + 1) ≡ 2 * c.last.turn + 2 = omega arith in
    rw next (two_more sha_256 s c.args.block.now _ c.making.w (2 * c.last.turn) 64 64 refl (omega arith) (omega arith) (rw made at c.making.invariant.words) (c.last.invariant s h) c.two_rounds-next-in-last.ensures)
