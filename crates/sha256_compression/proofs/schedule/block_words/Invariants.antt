-- `sha256_compression::schedule::block_words` meets its contract.
use Rattle.std.proofs.Common.{◌≡◌, length, take}
use Rattle.sha2_rules.specs.Parameters.{sha_256}
use Rattle.sha2_rules.specs.Compression.{schedule}
use Rattle.sha256_compression.proofs.schedule.block_words.Given as goal

abbrev pub invariant-loop-t : goal.invariant-loop-t
invariant-loop-t l = (length l.w ≡ 64) × (take l.t l.w ≡ schedule sha_256 l.block l.t)
