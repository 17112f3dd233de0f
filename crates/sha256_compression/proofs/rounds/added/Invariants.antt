-- `sha256_compression::rounds::added` meets its contract.
use Rattle.std.proofs.Common.{◌≡◌, length, take}
use Rattle.sha2_rules.specs.Parameters.{sha_256}
use Rattle.sha2_rules.specs.Compression.{sums}
use Rattle.sha256_compression.proofs.rounds.added.Given as goal

abbrev pub invariant-loop-i : goal.invariant-loop-i
invariant-loop-i l = (length l.sums ≡ 8) × (take l.i l.sums ≡ sums sha_256 l.v l.h l.i)
