-- `first_member_lem` meets its contract.
use Rattle.json_members.specs.Steps.{first_member}
use Rattle.json_members.proofs.steps.first_member.Goals as goal

pub returns : goal.returns
unfolding first_member
returns c = c.inside.ensures
