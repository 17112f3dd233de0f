-- `decode_with` meets its contract: either the bytes are written, or the text is not strict or does not fit, and the buffer is cleared.
use mathlib.Core.Path.{◌≡◌, sym, ◌∙◌}
use mathlib.Core.Bool.{true, false≢true}
use Prim.Native.Nat.{◌<◌}
use native.Mathlib.Omega.{arith}
use lib.ListN.{length}
use Rattle.base64url_rules.specs.Base64url.{decode, strict}
use Rattle.base64url_rules.proofs.LengthLaws.{length_decode}
use Rattle.base64url_rules.proofs.OutcomeLaws.{accepted, refused}
-- the buffer keeps its length, whether or not it was written
use Rattle.base64url_decoding.proofs.decode_with.Goals as goal
use Rattle.base64url_decoding.proofs.decode_with.Goals.{else-n-out-via-then-n-out+else-decode_into, else-n-out-via-else-n-out}

pub returns-then-decode_into : goal.returns-then-decode_into
returns-then-decode_into c =
    let n : c.decoded_len-n.result ≡ length (decode c.args.text.now) = c.decoded_len-n.ensures ∙ sym (length_decode c.args.text.now) in
    rw (n, c.decode_into.ensures.bytes c.if-decode_into.true) (accepted c.args.text.now _ (sym c.decode_into.ensures.answer ∙ c.if-decode_into.true) (omega arith))

pub returns : goal.returns
returns c =
    let n : c.decoded_len-n.result ≡ length (decode c.args.text.now) = c.decoded_len-n.ensures ∙ sym (length_decode c.args.text.now) in
    let short : strict c.args.text.now ≡ true → length c.args.out.now < length (decode c.args.text.now) = λ t. elim c.else-n-out.branch [
      | else-n-out-via-then-n-out+else-decode_into w ↦ absurd (false≢true (sym w.if-decode_into.false ∙ w.decode_into.ensures.answer ∙ t))
      | else-n-out-via-else-n-out w ↦ omega arith
    ] in
    rw (c.refuse.ensures, c.zero.ensures, c.else-n-out.auto.out) (refused c.args.text.now c.args.out.now short)
