-- `segment` meets its contract: a period, and behind it the text.
use native.Mathlib.Omega.{arith}
use lib.ListN.{length-set}
use Rattle.base64url_rules.proofs.LengthLaws.{length_encode}
use Rattle.jws_signing.proofs.FrontLaws.{segment_front}
use Rattle.jws_signing.proofs.making.segment.Goals as goal

pub slice_bounds-encode_with-count : goal.slice_bounds-encode_with-count
slice_bounds-encode_with-count c = simp length-set (omega arith)

pub slice_bounds-encode_with-start : goal.slice_bounds-encode_with-start
slice_bounds-encode_with-start c = simp length-set (omega arith)

pub overflow_add-result-2 : goal.overflow_add-result-2
overflow_add-result-2 c = omega (arith, length_encode c.args.bytes.now)

pub returns : goal.returns
returns c =
    segment_front c.args.bytes.now c.args.token.now c.args.at c.requires c.encode_with.ensures c.encoded_len.ensures
