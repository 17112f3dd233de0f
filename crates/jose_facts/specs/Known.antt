-- The known members as the code holds them, a slot for each name; and the facts of them together.
use Rattle.std.specs.Prelude.{◌≡◌, List, ℕ}
use Rattle.json_grammar_rules.specs.Value.{LMembers, plain_members}
use Rattle.json_members.specs.Slots.{Slot, ShowsAll}
use Rattle.keytable_rules.specs.Key.{Key}
use Rattle.jose_rules.specs.declared.Facts.{Facts}
use Rattle.jose_rules.specs.Names.{alg, kid, typ, cty, crit, fmt}
use Rattle.jose_rules.specs.Facts.{facts_of}
use Rattle.jose_facts.specs.declared.members.Known.{Known}

pub data Which : Type 0 where
  the_alg the_kid the_typ the_cty the_crit the_fmt : Which

abbrev pub name : Which → List ℕ
name the_alg = alg
name the_kid = kid
name the_typ = typ
name the_cty = cty
name the_crit = crit
name the_fmt = fmt

abbrev pub slot : Which → Known → Slot
slot the_alg m = m.alg
slot the_kid m = m.kid
slot the_typ m = m.typ
slot the_cty m = m.cty
slot the_crit m = m.crit
slot the_fmt m = m.fmt

-- the slots show the first of some members of the text h, with d the depth left for their values
pub record SomeShown (h : List ℕ) (d : ℕ) (m : Known) : Type 0 where
  pub members : LMembers
  pub shows : ShowsAll name slot h d m members

-- r is what they say, whichever members they show
pub record FactsAre (h : List ℕ) (d : ℕ) (m : Known) (ks : List Key) (r : Facts) : Type 0 where
  pub is : (ms : LMembers) → ShowsAll name slot h d m ms → r ≡ facts_of (plain_members ms) ks
