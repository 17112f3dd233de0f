-- `hmac::xor_pad` meets its contract: the bytes before the index are padded, and the others are the block's.
use Rattle.std.proofs.Common.{◌≡◌, ◌≤◌, ◌<◌, ℕ, length, get_or}
use Rattle.std.specs.Int.Bits.{bit_xor}
use Rattle.hmac.proofs.xor_pad.Given as goal

abbrev pub invariant-loop-byte : goal.invariant-loop-byte
invariant-loop-byte l = record {
  size : length l.byte-items ≡ 64;
  done : (k : ℕ) → k < l.byte-index → get_or l.byte-items k 0 ≡ bit_xor (get_or l.initial.byte-items k 0) l.pad;
  left : (k : ℕ) → l.byte-index ≤ k → get_or l.byte-items k 0 ≡ get_or l.initial.byte-items k 0;
}
