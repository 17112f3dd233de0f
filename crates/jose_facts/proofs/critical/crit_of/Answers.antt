-- `crit_of`, by the kind of the slot and the elements.
use Rattle.json_members.specs.StepLaws.{first_element_lem}
use Rattle.jose_facts.proofs.CriticalNames.{first_as, crit_absent, crit_within, crit_some, crit_empty, crit_wrong}
use Rattle.jose_facts.proofs.critical.crit_of.Goals as goal

pub returns-in_default : goal.returns-in_default
returns-in_default c = crit_absent c.in_default.is

pub returns-then-differ : goal.returns-then-differ
returns-then-differ c = crit_wrong c.in-Some.is (c.differ.ensures.apart c.if-differ.true)

pub first_element-requires : goal.first_element-requires
first_element-requires c = crit_within c.in-Some.is (c.differ.ensures.alike c.if-differ.false) c.requires.1

pub names_from-requires : goal.names_from-requires
names_from-requires c = (first_element_lem _ _ c.first_element.ensures).within _ c.in-Some-first_element.is

pub returns-in-Some-first_element : goal.returns-in-Some-first_element
returns-in-Some-first_element c =
    crit_some
    c.in-Some.is
    (c.differ.ensures.alike c.if-differ.false)
    (first_as c.first_element.ensures c.in-Some-first_element.is)
    c.names_from.ensures

pub returns-in-None : goal.returns-in-None
returns-in-None c =
    crit_empty
    c.in-Some.is
    (c.differ.ensures.alike c.if-differ.false)
    (first_as c.first_element.ensures c.in-None.is)
