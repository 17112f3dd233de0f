-- `mixed` meets its contract.
use mathlib.Core.Path.{ap}
use Prim.Native.Nat.{ℕ, ◌*◌, ◌/◌, ◌%◌, ◌^◌}
use lib.Bits.{bit_or, bit_xor}
use Rattle.json_string.proofs.compare.mixed.Goals as goal

pub returns : goal.returns
returns c = ap (λ (x : ℕ). bit_xor x (bit_or (c.args.h / 2 ^ 32) ((c.args.h * 2 ^ 32) % 2 ^ 64))) c.by_prime.ensures
