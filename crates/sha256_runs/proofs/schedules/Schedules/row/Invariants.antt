-- `sha256_runs::schedules::Schedules::row` meets its contract: up to place 8 t + l the words are those of the eight schedules.
use Rattle.std.proofs.Common.{◌≡◌, ◌+◌, ◌*◌, length}
use Rattle.sha2_rules.specs.Parameters.{sha_256}
use Rattle.sha2_rules.specs.Woven.{Woven}
use Rattle.sha256_runs.proofs.schedules.Schedules.row.Given as goal

abbrev pub invariant-loop-l : goal.invariant-loop-l
invariant-loop-l l = record {
  words_len : length l.self.words ≡ 512;
  woven : Woven sha_256 l.run l.initial.self.words (l.t * 8) → Woven sha_256 l.run l.self.words (l.t * 8 + l.l);
}
