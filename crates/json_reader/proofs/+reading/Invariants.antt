-- At each call the bytes left fall, or else a weight does. A loop keeps that what is right for the rest of a list is right for the whole.
use Prim.Native.Nat.{◌≤◌, ◌-◌, ◌*◌, ◌+◌}
use lib.ListN.{length}
use Rattle.json_string.specs.Ends.{End}
use Rattle.json_reader.specs.Reads.{ElementsEnd, MembersEnd}
use Rattle.json_reader.proofs.+reading.Given as goal

abbrev pub decreases-values::value : goal.decreases-values::value
decreases-values::value l = 8 * (length l.s.now - l.from) + 1

abbrev pub decreases-values::bare : goal.decreases-values::bare
decreases-values::bare l = 8 * (length l.s.now - l.at) + 0

abbrev pub decreases-objects::object : goal.decreases-objects::object
decreases-objects::object l = 8 * (length l.s.now - l.from) + 2

abbrev pub decreases-objects::member_list : goal.decreases-objects::member_list
decreases-objects::member_list l = 8 * (length l.s.now - l.from) + 1

abbrev pub decreases-objects::member : goal.decreases-objects::member
decreases-objects::member l = 8 * (length l.s.now - l.from) + 0

abbrev pub decreases-objects::after_name : goal.decreases-objects::after_name
decreases-objects::after_name l = 8 * (length l.s.now - l.from) + 0

abbrev pub decreases-arrays::elements : goal.decreases-arrays::elements
decreases-arrays::elements l = 8 * (length l.s.now - l.from) + 2

abbrev pub decreases-arrays::array : goal.decreases-arrays::array
decreases-arrays::array l = 8 * (length l.s.now - l.from) + 3

abbrev pub invariant-arrays::elements-loop-e : goal.invariant-arrays::elements-loop-e
invariant-arrays::elements-loop-e l = (l.from ≤ l.at) × ((r : End) → ElementsEnd l.s l.at l.depth r → ElementsEnd l.s l.from l.depth r)

abbrev pub decreases-arrays::elements-loop-e : goal.decreases-arrays::elements-loop-e
decreases-arrays::elements-loop-e l = length l.s - l.at

abbrev pub invariant-objects::member_list-loop-e : goal.invariant-objects::member_list-loop-e
invariant-objects::member_list-loop-e l = (l.from ≤ l.at) × ((r : End) → MembersEnd l.s l.at l.depth r → MembersEnd l.s l.from l.depth r)

abbrev pub decreases-objects::member_list-loop-e : goal.decreases-objects::member_list-loop-e
decreases-objects::member_list-loop-e l = length l.s - l.at
