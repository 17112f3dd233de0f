-- "An object [..] has a name twice", as a condition.
use Rattle.std.specs.Prelude.{◌≡◌, ◌⊎◌, List, [], ℕ, ◌<◌, length, get_or}
use Rattle.json_grammar_rules.specs.Value.{Value, Values, Members, string_v, number_v, true_v, false_v, null_v, array_v, object_v, vnil, vcons, mnil, mcons, names}

-- two of these names, at different places, are equal
abbrev pub Repeated : List (List ℕ) → Type 0
Repeated ns = (i : ℕ) × (j : ℕ) × (i < j) × (j < length ns) × (get_or ns i [] ≡ get_or ns j [])

-- the object with the members ms stands in a value, at any depth: it is the value, or stands in an element or in a member's value
unfoldable mutual
  pub ObjectIn : Members → Value → Type 0
  ObjectIn ms (string_v cs) = ⊥
  ObjectIn ms (number_v cs) = ⊥
  ObjectIn ms true_v = ⊥
  ObjectIn ms false_v = ⊥
  ObjectIn ms null_v = ⊥
  ObjectIn ms (array_v vs) = ObjectInValues ms vs
  ObjectIn ms (object_v ns) = (ns ≡ ms) ⊎ ObjectInMembers ms ns

  pub ObjectInValues : Members → Values → Type 0
  ObjectInValues ms vnil = ⊥
  ObjectInValues ms (vcons v vs) = ObjectIn ms v ⊎ ObjectInValues ms vs

  pub ObjectInMembers : Members → Members → Type 0
  ObjectInMembers ms mnil = ⊥
  ObjectInMembers ms (mcons n v ns) = ObjectIn ms v ⊎ ObjectInMembers ms ns

-- one object of those in the value v has a name twice
abbrev pub TwiceNamed : Value → Type 0
TwiceNamed v = (ms : Members) × ObjectIn ms v × Repeated (names ms)
