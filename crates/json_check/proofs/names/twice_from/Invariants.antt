-- `twice_from` meets its contract. The loop's invariant: what was found is right from the first place on.
use Rattle.json_check.specs.Twice.{Searched}
use Rattle.json_check.proofs.NameLaws.{left}
use Rattle.json_check.proofs.names.twice_from.Given as goal

abbrev pub invariant-loop-found : goal.invariant-loop-found
invariant-loop-found l = Searched l.s l.from l.found

abbrev pub decreases-loop-found : goal.decreases-loop-found
decreases-loop-found l = left l.s l.found
