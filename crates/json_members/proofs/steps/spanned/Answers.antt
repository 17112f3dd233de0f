-- `spanned` meets its contract.
use Rattle.json_members.proofs.StepPaths as law
use Rattle.json_members.proofs.steps.spanned.Goals as goal

pub returns : goal.returns
returns c = law.item_made _ _ _ _ _ c.place_by.ensures c.kind_by.ensures c.after_comma.ensures
