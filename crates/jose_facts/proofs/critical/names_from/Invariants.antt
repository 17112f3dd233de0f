-- `names_from`. The loop's invariant: what is right for the elements from p on is right for all of them.
use Rattle.std.proofs.Common.{◌-◌, ◌<◌, length}
use Rattle.jose_rules.specs.declared.Said.{Said}
use Rattle.jose_rules.specs.declared.Listed.{Listed}
use Rattle.jose_facts.specs.Says.{NamesGo, NamesAt}
use Rattle.jose_facts.proofs.critical.names_from.Given as goal

abbrev pub invariant-loop-item : goal.invariant-loop-item
invariant-loop-item l =
    (l.p < length l.text) × ((r : Said Listed) → NamesGo l.text l.p l.depth l.listed r → NamesAt l.text l.from l.depth r)

abbrev pub decreases-loop-item : goal.decreases-loop-item
decreases-loop-item l = length l.text - l.p
