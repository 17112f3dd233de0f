-- `known_from`. The loop's invariant: the slots show the members passed.
use Rattle.jose_facts.proofs.WalkFrom.{Going, left}
use Rattle.jose_facts.proofs.members.known_from.Given as goal

abbrev pub invariant-loop-at : goal.invariant-loop-at
invariant-loop-at l = Going l.text l.fn.from l.depth l.at l.known

abbrev pub decreases-loop-at : goal.decreases-loop-at
decreases-loop-at l = left l.text l.at
