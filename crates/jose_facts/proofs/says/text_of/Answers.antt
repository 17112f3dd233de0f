-- `text_of`, by the kind of the slot.
use Rattle.jose_rules.specs.Members.{string}
use Rattle.jose_rules.specs.Facts.{text_fact}
use Rattle.jose_facts.proofs.SlotFacts.{asks_string}
use Rattle.jose_facts.proofs.SaysLaws.{absent_is, wrong_is, text_said}
use Rattle.jose_facts.proofs.says.text_of.Goals as goal

pub returns-in_default : goal.returns-in_default
unfolding text_fact
returns-in_default c = record { is = λ h. (absent_is (λ _. tt {0}) string c.in_default.is).is }

pub returns-then-differ : goal.returns-then-differ
unfolding text_fact
returns-then-differ c = record { is = λ h. (wrong_is (λ _. tt {0}) string c.in-Some.is asks_string (c.differ.ensures.apart c.if-differ.true)).is }

pub returns : goal.returns
returns c = text_said c.in-Some.is (c.differ.ensures.alike c.if-differ.false)
