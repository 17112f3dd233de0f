-- `known_from`. The loop's invariant: the slots show the members passed.
use Rattle.json_members.specs.StepLaws.{entry_at_lem}
use Rattle.jose_facts.proofs.WalkFrom.{going_start, going_nothing, going_next, going_less}
use Rattle.jose_facts.proofs.members.known_from.Goals as goal

pub loop-at-init : goal.loop-at-init
loop-at-init c = going_start _ _ _ c.requires

pub entry_at-requires : goal.entry_at-requires
entry_at-requires c = let g = rw c.in-Some.is at c.loop-at.invariant in g.0

pub note-known-requires : goal.note-known-requires
note-known-requires c = let g = rw c.in-Some.is at c.loop-at.invariant in g.0

pub loop-at-smaller : goal.loop-at-smaller
loop-at-smaller c =
    let g = rw c.in-Some.is at c.loop-at.invariant in
    rw c.in-Some.is (going_less _ _ _ g (entry_at_lem _ _ _ c.in-Some-entry_at.ensures))

pub loop-at-preserved : goal.loop-at-preserved
loop-at-preserved c =
    let g = rw c.in-Some.is at c.loop-at.invariant in
    going_next _ _ _ g (entry_at_lem _ _ _ c.in-Some-entry_at.ensures) c.note-known.ensures

pub returns-in_default-entry_at : goal.returns-in_default-entry_at
returns-in_default-entry_at c = let g = rw c.in-Some.is at c.loop-at.invariant in going_nothing _ _ _ g c.in_default-entry_at.ensures

pub returns : goal.returns
returns c = rw c.in_default.is at c.loop-at.invariant
