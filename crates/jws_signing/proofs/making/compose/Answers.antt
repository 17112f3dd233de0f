-- `compose` meets its contract: the MAC is taken of the front, and its segment stands behind it.
use native.Mathlib.Omega.{arith}
use Rattle.base64url_rules.specs.Base64url.{encode}
use Rattle.jws_rules.proofs.SegmentLaws.{length_dot}
use Rattle.jws_signing.proofs.FrontLaws.{length_text, token_laid}
use Rattle.jws_signing.proofs.making.compose.Goals as goal

pub slice_bounds-hmac_sha256-end : goal.slice_bounds-hmac_sha256-end
slice_bounds-hmac_sha256-end c =
    omega (arith, c.signing_input-n.ensures.size, c.signing_input-n.auto, length_dot (encode c.args.header.now) (encode c.args.payload.now))

pub segment-requires : goal.segment-requires
segment-requires c = omega (arith, c.signing_input-n.ensures.size, c.signing_input-n.auto, length_dot (encode c.args.header.now) (encode c.args.payload.now), length_text c.hmac_sha256-mac.result (omega arith))

pub returns : goal.returns
returns c =
    token_laid c.args.secret.now c.args.header.now c.args.payload.now c.args.token.now c.hmac_sha256-mac.result
    c.signing_input-n.ensures
    c.hmac_sha256-mac.ensures
    c.segment.ensures
