-- `place_by` meets its contract.
use Rattle.json_members.proofs.StepPaths as law
use Rattle.json_members.proofs.places.place_by.Goals as goal

pub returns-then-b-eq34 : goal.returns-then-b-eq34
returns-then-b-eq34 c = law.place_string _ _ _ c.if-b-eq34.true

pub returns : goal.returns
returns c = law.place_other _ _ _ c.if-b-eq34.false
