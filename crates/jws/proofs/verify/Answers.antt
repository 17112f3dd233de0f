-- `verify` meets its contract: past the record's lengths both buffers are cleared.
use Rattle.jws.proofs.ClearLaws as law
use Rattle.jws.proofs.verify.Goals as goal

pub slice_bounds-zero-count : goal.slice_bounds-zero-count
slice_bounds-zero-count c = rw c.lengths-n.ensures (law.header_within c.judge-verified.ensures)

pub slice_bounds-zero-start : goal.slice_bounds-zero-start
slice_bounds-zero-start c = rw c.lengths-n.ensures (law.header_within c.judge-verified.ensures)

pub slice_bounds-zero-count-2 : goal.slice_bounds-zero-count-2
slice_bounds-zero-count-2 c = rw c.lengths-n.ensures (law.payload_within c.judge-verified.ensures)

pub slice_bounds-zero-start-2 : goal.slice_bounds-zero-start-2
slice_bounds-zero-start-2 c = rw c.lengths-n.ensures (law.payload_within c.judge-verified.ensures)

pub returns : goal.returns
returns c =
    rw c.lengths-n.ensures
    (law.verified_is _ _ _ c.judge-verified.ensures c.judge-verified.auto.header c.judge-verified.auto.payload (rw c.lengths-n.ensures at c.zero.ensures) (rw c.lengths-n.ensures at c.zero-2.ensures))
