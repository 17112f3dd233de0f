-- `decide`: 2, or 5, or as `decide_with`.
use Rattle.std.proofs.Common.{◌∙◌}
use Rattle.jose.proofs.HeaderLaws.{decision_bad, decision_good, decision_long}
use Rattle.jose.proofs.decide.Goals as goal

pub returns-in_default : goal.returns-in_default
returns-in_default c = decision_bad _ _ c.in_default.ensures

pub returns-then-header-gt-LONGEST : goal.returns-then-header-gt-LONGEST
returns-then-header-gt-LONGEST c = decision_long _ _ (rw c.in-Some.ensures at c.in-Some.table.in_order) c.if-header-gt-LONGEST.true

pub returns : goal.returns
returns c = rw c.in-Some.ensures at (c.decide_with.ensures ∙ decision_good _ _ c.in-Some.table.in_order c.if-header-gt-LONGEST.false)
