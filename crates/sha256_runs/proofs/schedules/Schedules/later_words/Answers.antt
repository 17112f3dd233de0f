-- `sha256_runs::schedules::Schedules::later_words` meets its contract: up to place i the words are those of the eight schedules.
use Rattle.std.proofs.Common.{◌∙◌, arith}
use Rattle.sha2_rules.specs.Parameters.{sha_256}
use Rattle.sha2_rules.proofs.WovenLaws.{later_woven_lem, one_woven}
use Rattle.sha256_runs.proofs.schedules.Schedules.later_words.Goals as goal

pub loop-i-preserved : goal.loop-i-preserved
loop-i-preserved c = λ b v.
    let before = c.loop-i.invariant b v in
    one_woven sha_256 b c.loop-i.self.words c.loop-i.i _ (omega arith) before (c.later_word.ensures ∙ later_woven_lem sha_256 b c.loop-i.self.words c.loop-i.i (omega arith) (omega arith) before)
