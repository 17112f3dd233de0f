-- `sha256::digest::digest` meets its contract.
use Rattle.std.proofs.Common.{◌≡◌, ◌*◌, length, take}
use Rattle.sha2_rules.specs.Hash.{word_bytes}
use Rattle.sha256.proofs.digest.digest.Given as goal

abbrev pub invariant-loop-i : goal.invariant-loop-i
invariant-loop-i l = record { size : length l.digest ≡ 32; words : take (l.i * 4) l.digest ≡ word_bytes 4 l.value l.i }
