-- `encode_groups` meets its contract: up to i, the text of the groups is written.
use mathlib.Core.Path.{◌≡◌}
use Prim.Native.Nat.{◌*◌}
use lib.ListN.{take}
use Rattle.common.specs.Buffer.{laid}
use Rattle.base64url_rules.specs.Base64url.{encode}
use Rattle.base64url_encoding.proofs.groups.encode_groups.Given as goal

abbrev pub invariant-loop-i : goal.invariant-loop-i
invariant-loop-i l = l.out ≡ laid (encode (take (l.i * 3) l.bytes)) l.initial.out
