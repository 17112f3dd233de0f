-- `signing_input` meets its contract: the header's text, and the payload's segment behind it.
use native.Mathlib.Omega.{arith}
use Rattle.base64url_rules.specs.Base64url.{encode}
use Rattle.base64url_rules.proofs.LengthLaws.{length_encode}
use Rattle.jws_signing.proofs.FrontLaws.{text_front, front_more}
use Rattle.jws_signing.proofs.making.signing_input.Goals as goal

pub segment-requires : goal.segment-requires
segment-requires c =
    omega (arith, length_encode c.args.header.now, c.encode_with.auto)

pub returns : goal.returns
returns c =
    front_more (encode c.args.header.now) (encode c.args.payload.now) c.args.token.now
    (text_front c.args.header.now c.args.token.now (omega arith) c.encode_with.ensures c.encoded_len.ensures)
    c.segment.ensures
