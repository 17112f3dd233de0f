-- `judge_header` meets its contract, by what the header decides.
use Rattle.jose_rules.proofs.DecisionLaws.{with_chosen}
use Rattle.jws.proofs.judging.judge_header.Goals as goal

pub conclude-requires : goal.conclude-requires
conclude-requires c = (with_chosen _ _ (rw c.in_ok-choice.was at c.decide_with.ensures)).2
