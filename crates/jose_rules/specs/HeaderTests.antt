-- The tests of answers 7 to 14, and what a header decides, computed by the reader.
use Rattle.std.specs.Prelude.{cond, List, ◌++◌, ℕ}
use Rattle.common.specs.First.{Test}
use Rattle.common.specs.Same.{same}
use Rattle.json_grammar_rules.specs.Value.{LMembers, lnil, lcons, plain_members}
use Rattle.json_grammar_rules.specs.Places.{placed}
use Rattle.json_grammar_rules.specs.Reader.{read}
use Rattle.json_rules.specs.Rules.{deepest}
use Rattle.json_rules.specs.Tests.{members_in, grammar_tests}
use Rattle.keytable_rules.specs.Key.{Key}
use Rattle.jose_rules.specs.declared.Part.{Part}
use Rattle.jose_rules.specs.declared.Choice.{Choice}
use Rattle.jose_rules.specs.declared.Facts.{Facts}
use Rattle.jose_rules.specs.Names.{typ, cty}
use Rattle.jose_rules.specs.Rules.{Terms}
use Rattle.jose_rules.specs.Facts.{facts_of, no_facts, choosing_tests, choice_by}
use Rattle.jose_rules.specs.Header.{name_of, value_part, nowhere}

-- the members that are read in h, and what they say
abbrev pub located : List ℕ → LMembers
located h = members_in (read deepest h)

abbrev pub header_facts : List ℕ → List Key → Facts
header_facts h ks = facts_of (plain_members (located h)) ks

abbrev pub jose_tests : List ℕ → Terms → List Test
jose_tests h q = grammar_tests deepest h ++ choosing_tests (header_facts h q.keys) no_facts q.keys

-- the place of the value of the first member with the name n
unfoldable pub raw_text : List ℕ → List ℕ → LMembers → Part
raw_text h n lnil = nowhere
raw_text h n (lcons m ms) = cond (same (name_of m) n) (value_part (placed h m)) (raw_text h n ms)

unfoldable pub header_choice : List ℕ → List Key → Choice
header_choice h ks = choice_by (header_facts h ks) (raw_text h typ (located h)) (raw_text h cty (located h))
