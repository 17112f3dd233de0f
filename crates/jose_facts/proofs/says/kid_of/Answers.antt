-- `kid_of`, by the kind of the slot.
use Rattle.jose_rules.specs.Members.{string}
use Rattle.jose_rules.specs.Facts.{found_by, kid_fact}
use Rattle.jose_facts.proofs.SlotFacts.{asks_string}
use Rattle.jose_facts.proofs.SaysLaws.{absent_is, wrong_is, kid_said, string_there}
use Rattle.jose_facts.proofs.says.kid_of.Goals as goal

pub returns-in_default : goal.returns-in_default
unfolding kid_fact
returns-in_default c = absent_is (found_by _) string c.in_default.is

pub returns-then-differ : goal.returns-then-differ
unfolding kid_fact
returns-then-differ c = wrong_is (found_by _) string c.in-Some.is asks_string (c.differ.ensures.apart c.if-differ.true)

pub named_key-requires : goal.named_key-requires
named_key-requires c = string_there c.in-Some.is c.requires (c.differ.ensures.alike c.if-differ.false)

pub returns : goal.returns
returns c = kid_said c.in-Some.is (c.differ.ensures.alike c.if-differ.false) c.named_key.ensures
