-- `sha256_compression::rounds::all_rounds` meets its contract.
use Rattle.std.proofs.Common.{◌≡◌, ℕ, ◌+◌, ◌*◌, List, length, take}
use Rattle.sha2_rules.specs.Parameters.{sha_256}
use Rattle.sha2_rules.specs.Compression.{schedule, rounds}
use Rattle.sha256_compression.proofs.rounds.all_rounds.Given as goal

abbrev pub invariant-making : goal.invariant-making
invariant-making l = record {
  words_len : length l.w ≡ 64;
  words : take (2 * l.turn + 16) l.w ≡ schedule sha_256 l.block (2 * l.turn + 16);
  value : l.v ≡ rounds sha_256 l.initial.v (schedule sha_256 l.block 64) (2 * l.turn);
}

abbrev pub invariant-last : goal.invariant-last
invariant-last l = (s : List ℕ) → l.initial.v ≡ rounds sha_256 s (schedule sha_256 l.block 64) 48 → l.v ≡ rounds sha_256 s (schedule sha_256 l.block 64) (2 * l.turn)
