-- `sha256_runs::schedules::Schedules::first_words` meets its contract.
use Rattle.std.proofs.Common.{◌*◌}
use Rattle.sha2_rules.specs.Parameters.{sha_256}
use Rattle.sha2_rules.specs.Woven.{Woven}
use Rattle.sha256_runs.proofs.schedules.Schedules.first_words.Given as goal

abbrev pub invariant-loop-t : goal.invariant-loop-t
invariant-loop-t l = Woven sha_256 l.run l.self.words (l.t * 8)
