-- `sha256_runs::schedules::Schedules::later_words` meets its contract: up to place i the words are those of the eight schedules.
use Rattle.std.proofs.Common.{ℕ, List}
use Rattle.sha2_rules.specs.Parameters.{sha_256}
use Rattle.sha2_rules.specs.Woven.{Woven}
use Rattle.sha256_runs.proofs.schedules.Schedules.later_words.Given as goal

abbrev pub invariant-loop-i : goal.invariant-loop-i
invariant-loop-i l = (b : List ℕ) → Woven sha_256 b l.initial.self.words 128 → Woven sha_256 b l.self.words l.i
