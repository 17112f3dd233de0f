-- `facts_of`, member by member.
use Rattle.jose_facts.specs.Known.{the_kid, the_crit, the_fmt}
use Rattle.jose_facts.proofs.AllFacts.{facts_made, shown_at, shown_some}
use Rattle.jose_facts.proofs.facts.facts_of.Goals as goal

pub kid_of-requires : goal.kid_of-requires
kid_of-requires c = shown_some c.requires.1 the_kid

pub crit_of-requires : goal.crit_of-requires
crit_of-requires c = (c.requires.0, shown_at c.requires.1 the_crit)

pub fmt_of-requires : goal.fmt_of-requires
fmt_of-requires c = shown_some c.requires.1 the_fmt

pub returns : goal.returns
returns c =
    facts_made
    c.alg_of.ensures
    c.kid_of.ensures
    c.text_of.ensures
    c.text_of-2.ensures
    c.crit_of.ensures
    c.fmt_of.ensures
