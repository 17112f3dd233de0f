-- `decode_segment` meets its contract: only a fault says that the segment isn't strict.
use mathlib.Core.Path.{refl}
use Rattle.base64url_decoding.specs.Answers.{decoded}
use Rattle.jws_segments.specs.OpenLaws.{segment_is}
use Rattle.jws_segments.proofs.opening.decode_segment.Goals as goal

pub returns-in-Ok : goal.returns-in-Ok
returns-in-Ok c = rw c.in-Ok.is at (segment_is c.args.text.now c.args.out.now (decoded c.decode_with.result) _ c.decode_with.ensures refl)

pub returns-in-Err-Short : goal.returns-in-Err-Short
returns-in-Err-Short c = rw (c.in-Err-Short.is, c.in-Err-Short.field-0-is) at (segment_is c.args.text.now c.args.out.now (decoded c.decode_with.result) _ c.decode_with.ensures c.decoded_len.ensures)

pub returns-in-Err-Fault : goal.returns-in-Err-Fault
returns-in-Err-Fault c = rw (c.in-Err-Fault.is, c.in-Err-Fault.field-0-is) at (segment_is c.args.text.now c.args.out.now (decoded c.decode_with.result) _ c.decode_with.ensures c.decoded_len-in-Err-Fault.ensures)
