-- `unused_bits` meets its contract, by the length of the rest.
use Prim.Native.Nat.{◌%◌}
use native.Mathlib.Omega.{arith}
use lib.ListN.{length}
use borrow.Author.Tests.{eq-eqb, ne_eqb}
use Rattle.base64url_rules.specs.Base64url.{unused_bits}
use Rattle.base64url_decoding.proofs.fault.unused_bits.Goals as goal

pub returns-in-2 : goal.returns-in-2
unfolding unused_bits
returns-in-2 c = rw (c.value.ensures, eq-eqb _ 2 c.in-2.is)

pub returns-in-3 : goal.returns-in-3
unfolding unused_bits
returns-in-3 c = rw (c.value-in-3.ensures, ne_eqb (length c.args.text.now % 4) 2 (λ e. omega arith), eq-eqb _ 3 c.in-3.is)

pub returns-in_default : goal.returns-in_default
unfolding unused_bits
returns-in_default c =
    let rest = length c.args.text.now % 4 in
    rw (ne_eqb rest 2 (λ e. omega arith), ne_eqb rest 3 (λ e. omega arith))
