-- `encode_with` meets its contract: the text is written where it fits, and else the buffer is cleared.
use mathlib.Core.Path.{◌≡◌, sym, ◌∙◌}
use native.Mathlib.Omega.{arith}
use lib.ListN.{length}
use Rattle.base64url_rules.specs.Base64url.{encode}
use Rattle.base64url_rules.proofs.LengthLaws.{length_encode}
use Rattle.base64url_rules.proofs.OutcomeLaws.{roomy, tight}
use Rattle.base64url_encoding.proofs.encode_with.Goals as goal

pub returns-then-out-n : goal.returns-then-out-n
returns-then-out-n c =
    let n : c.encoded_len-n.result ≡ length (encode c.args.bytes.now) = c.encoded_len-n.ensures ∙ sym (length_encode c.args.bytes.now) in
    rw c.zero.ensures (tight c.args.bytes.now _ (omega arith))

pub returns : goal.returns
returns c =
    let n : c.encoded_len-n.result ≡ length (encode c.args.bytes.now) = c.encoded_len-n.ensures ∙ sym (length_encode c.args.bytes.now) in
    rw (n, c.encode_into.ensures) (roomy c.args.bytes.now _ (omega arith))
