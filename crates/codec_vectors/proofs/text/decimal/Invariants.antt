-- The number is at most a million, whatever the text.
use Rattle.std.proofs.Common.{◌≤◌}
use Rattle.codec_vectors.proofs.text.decimal.Given as goal

abbrev pub invariant-loop-c : goal.invariant-loop-c
invariant-loop-c l = l.n ≤ 1000000
