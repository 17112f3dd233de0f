-- `sha256_runs::schedules::Schedules::row` meets its contract: up to place 8 t + l the words are those of the eight schedules.
use Rattle.std.proofs.Common.{◌≡◌, ◌+◌, ◌*◌, sym, ◌∙◌, arith, length-set}
use Rattle.common.specs.BigEndianLaws.{number_in_part}
use Rattle.sha2_rules.specs.Parameters.{sha_256}
use Rattle.sha2_rules.specs.Woven.{woven_word}
use Rattle.sha2_rules.proofs.WovenLaws.{one_woven, first_woven}
use Rattle.sha256_runs.proofs.schedules.Schedules.row.Goals as goal

pub loop-l-preserved : goal.loop-l-preserved
loop-l-preserved c =
    let b = c.args.run.now in
    let w = c.loop-l.self.words in
    let t = c.args.t in
    let l = c.loop-l.l in
    let e : c.number4_at.result ≡ woven_word sha_256 b (t * 8 + l) =
    c.number4_at.ensures ∙ sym (first_woven sha_256 b w t l (omega arith) (omega arith) (omega arith) ∙ number_in_part 4 b (l * 64) 64 (t * 4) (omega arith)) in
    record {
      words_len = simp length-set c.loop-l.invariant.words_len;
      woven = λ v i h. one_woven sha_256 b w (t * 8 + l) c.number4_at.result (omega arith) (c.loop-l.invariant.woven v) e i (omega arith);
    }
