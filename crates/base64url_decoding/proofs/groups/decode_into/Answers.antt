-- `decode_into` meets its contract: the pairs, and then the rest in the part behind their bytes.
use mathlib.Core.Path.{sym, ◌∙◌}
use Prim.Native.Nat.{◌*◌, ◌/◌}
use native.Mathlib.Omega.{arith}
use lib.ListN.{length}
use Rattle.base64url_decoding.proofs.DecodeLaws.{not_strict, front_refused, whole}
use Rattle.base64url_decoding.proofs.groups.decode_into.Goals as goal

pub returns-then-decode_front : goal.returns-then-decode_front
returns-then-decode_front c =
    whole c.args.text.now c.args.out.now c.decode_front.new.out c.decode_last.new.out (length c.args.text.now / 8 * 8) (length c.args.text.now / 8 * 6) (omega arith) (omega arith) (omega arith) c.if-decode_front.true c.decode_front.ensures c.decode_last.ensures

pub returns-else-decode_front : goal.returns-else-decode_front
returns-else-decode_front c =
    rw c.if-decode_front.false (not_strict (front_refused c.args.text.now (length c.args.text.now / 8 * 8) (omega arith) (omega arith) (sym c.decode_front.ensures.answer ∙ c.if-decode_front.false)))
