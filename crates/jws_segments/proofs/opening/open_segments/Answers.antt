-- `open_segments` meets its contract: the segments one by one.
use Rattle.jws_segments.specs.OpenLaws.{opening_is}
use Rattle.jws_segments.proofs.opening.open_segments.Goals as goal

pub returns : goal.returns
returns c =
    opening_is _ _ _ _ _ c.decode_segment-header_length.ensures c.decode_segment-payload_length.ensures c.decode_segment-signature_length.ensures
