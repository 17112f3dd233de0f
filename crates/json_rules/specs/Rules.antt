-- The rules of a header: its limits, and answers 5, 7, 8 and 16 by the derivations of its bytes. No parser is mentioned.
use Rattle.std.specs.Prelude.{◌≡◌, List, [], ◌∷◌, ◌++◌, ℕ, suc, ◌≤◌, ◌<◌, length}
use Rattle.common.specs.First.{Rule, ◌on◌}
use Rattle.json_grammar_rules.specs.Twice.{TwiceNamed}
use Rattle.json_grammar_rules.specs.Value.{Members, mnil, mcons, object_v}
use Rattle.json_grammar_rules.specs.Grammar.{Derivation, Derived, bytes, reading_of, depth_of}

-- Rule 5: "At most 4,096 bytes". Rule 7: "The top object counts as depth 1, each array or object within another adds 1, and 16 is the most."
abbrev pub longest : ℕ
longest = 4096

abbrev pub deepest : ℕ
deepest = 16

-- THE CONDITIONS

-- 8: h is derived, and one object has a name twice
abbrev pub NameTwice : List ℕ → Type 0
NameTwice h = (t : Derivation) × (bytes t ≡ h) × TwiceNamed (object_v (reading_of t))

-- some derivation of h has depth at most `deepest` and no name twice in one object
abbrev pub DerivedOnce : List ℕ → Type 0
DerivedOnce h = (t : Derivation) × (bytes t ≡ h) × (depth_of t ≤ deepest) × (TwiceNamed (object_v (reading_of t)) → ⊥)

unfoldable pub count : Members → ℕ
count mnil = 0
count (mcons n v ms) = suc (count ms)

-- 16: h is derived, and its top object has no member k
abbrev pub NoMember : List ℕ → ℕ → Type 0
NoMember h k = (t : Derivation) × (bytes t ≡ h) × (count (reading_of t) ≤ k)

-- the grammar's rules
abbrev pub grammar_rules : ℕ → List ℕ → List Rule
grammar_rules d h =
    -- "the header isn't JSON by the grammar, or goes deeper than 16"
    7 on (Derived d h → ⊥)
    -- "an object in the header has a name twice"
    ∷ 8 on NameTwice h
    ∷ []

-- 5, by the header's length: "the header has more than 4,096 bytes"
abbrev pub length_rule : ℕ → Rule
length_rule n = 5 on (longest < n)

abbrev pub header_rules : List ℕ → List Rule
header_rules h = length_rule (length h) ∷ grammar_rules deepest h

abbrev pub member_rules : List ℕ → ℕ → List Rule
member_rules h k = header_rules h ++ (16 on NoMember h k ∷ [])
