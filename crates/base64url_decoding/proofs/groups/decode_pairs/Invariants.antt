-- `decode_pairs` meets its contract: up to i, the pairs of groups are strict and their bytes are written.
use mathlib.Core.Bool.{true}
use Prim.Native.Nat.{◌*◌}
use lib.ListN.{take}
use Rattle.base64url_decoding.specs.Writing.{Decodes}
use Rattle.base64url_decoding.proofs.groups.decode_pairs.Given as goal

abbrev pub invariant-loop-i : goal.invariant-loop-i
invariant-loop-i g l = Decodes (take (l.i * 8) l.text) l.initial.out true l.out
