-- `first_element` meets its contract.
use Rattle.json_members.specs.Steps.{first_element}
use Rattle.json_members.proofs.steps.first_element.Goals as goal

pub returns : goal.returns
unfolding first_element
returns c = c.inside.ensures
