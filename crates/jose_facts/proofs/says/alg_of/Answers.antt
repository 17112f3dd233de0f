-- `alg_of`, by the kind of the slot.
use Rattle.common.specs.Ascii.{ascii}
use Rattle.jose_rules.specs.Names.{HS256}
use Rattle.jose_rules.specs.Members.{string}
use Rattle.jose_rules.specs.Facts.{alg_by, alg_fact}
use Rattle.jose_facts.proofs.SlotFacts.{asks_string}
use Rattle.jose_facts.proofs.SaysLaws.{absent_is, wrong_is, alg_said_yes, alg_said_no}
use Rattle.jose_facts.proofs.says.alg_of.Goals as goal

pub returns-in_default : goal.returns-in_default
unfolding alg_fact
returns-in_default c = absent_is alg_by string c.in_default.is

pub returns-then-differ : goal.returns-then-differ
unfolding alg_fact
returns-then-differ c = wrong_is alg_by string c.in-Some.is asks_string (c.differ.ensures.apart c.if-differ.true)

pub returns-then-is_word : goal.returns-then-is_word
unfolding ascii HS256
returns-then-is_word c =
    alg_said_yes c.in-Some.is (c.differ.ensures.alike c.if-differ.false) c.is_word.ensures c.if-is_word.true

pub returns-else-is_word : goal.returns-else-is_word
unfolding ascii HS256
returns-else-is_word c =
    alg_said_no c.in-Some.is (c.differ.ensures.alike c.if-differ.false) c.is_word.ensures c.if-is_word.false
