-- The rules of a header's bytes, answers 7 to 14, by the derivations of these bytes; and what a header decides. No parser is mentioned.
use Rattle.std.specs.Prelude.{◌≡◌, ◌⊎◌, List, ◌++◌, map, ℕ, ◌-◌, ◌≤◌}
use Rattle.common.specs.First.{Rule, ◌on◌, NoneOf, condition, numbers}
use Rattle.json_grammar_rules.specs.Twice.{TwiceNamed}
use Rattle.json_grammar_rules.specs.Value.{Members, mnil, object_v, LMember, LMembers, named, lnil, lcons}
use Rattle.json_grammar_rules.specs.Places.{MemberPlaces, placed}
use Rattle.json_grammar_rules.specs.Grammar.{Derivation, bytes, reading_of, depth_of, members_of}
use Rattle.json_rules.specs.Rules.{deepest, grammar_rules}
use Rattle.keytable_rules.specs.Key.{Key}
use Rattle.jose_rules.specs.declared.Part.{Part}
use Rattle.jose_rules.specs.declared.Choice.{Choice}
use Rattle.jose_rules.specs.Names.{kid, typ, cty}
use Rattle.jose_rules.specs.Members.{Lacks}
use Rattle.jose_rules.specs.Rules.{Terms, Chosen, choosing, Chooses}

-- THE RULES

-- rules on the members of a reading, asked of the reading of h: the condition under each number is the one that holds of a derivation's reading
abbrev pub of_reading : List ℕ → (Members → List Rule) → List Rule
of_reading h rules = map (λ n. n on ((t : Derivation) × (bytes t ≡ h) × condition (rules (reading_of t)) n)) (numbers (rules mnil))

-- the grammar's rules, and those of the known members and the key; a compact token has no unprotected header
abbrev pub jose_rules : List ℕ → Terms → List Rule
jose_rules h q = grammar_rules deepest h ++ of_reading h (λ ms. choosing ms mnil q)

-- WHAT A HEADER DECIDES

abbrev pub name_of : LMember → List ℕ
name_of (named f t n v) = n

-- a value's place as its start and its length
abbrev pub value_part : MemberPlaces → Part
value_part m = record { start = m.value_start; length = m.value_end - m.value_start }

abbrev pub nowhere : Part
nowhere = record { start = 0; length = 0 }

-- a member with the name n, among these members of the text h, has its value at p
abbrev pub ValueAt : List ℕ → List ℕ → LMembers → Part → Type 0
ValueAt h n lnil p = ⊥
ValueAt h n (lcons m ms) p = ((name_of m ≡ n) × (p ≡ value_part (placed h m))) ⊎ ValueAt h n ms p

-- "where the text between the quotation marks begins and how long it is, as spelled; two zeros for a missing one"
abbrev pub RawText : List ℕ → List ℕ → LMembers → Part → Type 0
RawText h n ms p = ValueAt h n ms p ⊎ (((q : Part) → ValueAt h n ms q → ⊥) × (p ≡ nowhere))

-- h is a header in order, and decides c
pub record HeaderChooses (h : List ℕ) (q : Terms) (c : Choice) : Type 0 where
  pub derivation : Derivation
  pub derives : bytes derivation ≡ h
  pub shallow : depth_of derivation ≤ deepest
  pub once : TwiceNamed (object_v (reading_of derivation)) → ⊥
  pub rules : NoneOf (choosing (reading_of derivation) mnil q)
  pub chooses : Chooses (reading_of derivation) q.keys c
  pub typ_is : RawText h typ (members_of derivation) c.typ
  pub cty_is : RawText h cty (members_of derivation) c.cty

-- WHICH KEY A HEADER NAMES: the one whose id is the UTF-8 of its `kid`, ..
abbrev pub NamesKey : List ℕ → List Key → ℕ → Type 0
NamesKey h ks i = (t : Derivation) × (bytes t ≡ h) × Chosen (reading_of t) ks i

-- .. and none, of whichever keys, where it has no `kid`
abbrev pub NamesNoKey : List ℕ → Type 0
NamesNoKey h = (t : Derivation) × (bytes t ≡ h) × Lacks kid (reading_of t)
