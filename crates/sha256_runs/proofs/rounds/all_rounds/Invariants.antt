-- `sha256_runs::rounds::all_rounds` meets its contract.
use Rattle.std.proofs.Common.{◌≡◌, ℕ, ◌*◌, List}
use Rattle.sha2_rules.specs.Parameters.{sha_256}
use Rattle.sha2_rules.specs.Compression.{schedule, rounds}
use Rattle.sha2_rules.specs.Woven.{Woven, block_of}
use Rattle.sha256_runs.proofs.rounds.all_rounds.Given as goal

abbrev pub invariant-loop-turn : goal.invariant-loop-turn
invariant-loop-turn l = (b : List ℕ) → Woven sha_256 b l.schedules.words 512 → l.v ≡ rounds sha_256 l.initial.v (schedule sha_256 (block_of sha_256 b l.l) 64) (2 * l.turn)
