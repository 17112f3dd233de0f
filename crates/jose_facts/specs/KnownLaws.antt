-- The known ones of the members that begin at a place: what `facts_of` asks for, and what it answers.
use Rattle.std.specs.Prelude.{◌≡◌, List, ℕ}
use Rattle.json_grammar_rules.specs.Value.{LMembers, plain_members}
use Rattle.json_string.specs.Ends.{End}
use Rattle.json_members.specs.Members.{MembersFrom}
use Rattle.json_members.specs.Slots.{ShowsAll, KnownFrom}
use Rattle.keytable_rules.specs.Key.{Key}
use Rattle.jose_rules.specs.declared.Facts.{Facts}
use Rattle.jose_rules.specs.Facts.{facts_of}
use Rattle.jose_facts.specs.declared.members.Known.{Known}
use Rattle.jose_facts.specs.Known.{name, slot, SomeShown, FactsAre}

module _ {h : List ℕ} {d : ℕ} {r : End} (ms : LMembers) (at : MembersFrom h d r ms) {m : Known} (k : KnownFrom name slot h r d m) where
  pub all_shown : ShowsAll name slot h d m ms
  all_shown = k.is ms at

  pub some_shown : SomeShown h d m
  some_shown = record { members = ms; shows = all_shown }

  pub facts_from : {ks : List Key} {f : Facts} → FactsAre h d m ks f → f ≡ facts_of (plain_members ms) ks
  facts_from a = a.is ms all_shown
