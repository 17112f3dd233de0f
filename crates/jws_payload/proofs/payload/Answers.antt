-- `payload` meets its contract.
use Rattle.std.proofs.Common.{length, sym, arith, length-take-le}
use Rattle.jws_rules.proofs.Promises.{part_within}
use Rattle.jws_payload.proofs.payload.Goals as goal

pub slice_bounds-result-end : goal.slice_bounds-result-end
slice_bounds-result-end c =
    let buffer = c.args.buffer.now in
    sym (length-take-le _ buffer (omega (arith, c.part_length.ensures, part_within c.args.details.payload_length (length buffer))))
