-- An object's members by name, and what their values say. "Names [..] are compared by code points."
use Rattle.std.specs.Prelude.{◌≡◌, ◌⊎◌, List, [], ◌∷◌, ℕ, ℤ, Option as Perhaps, Some as Known, None}
use Rattle.std.proofs.Math.Option.{Option, none, some}
use Rattle.json_grammar_rules.specs.Value.{Value, Values, Members, string_v, number_v, true_v, false_v, null_v, array_v, object_v, vnil, vcons, mnil, mcons}
use Rattle.decimal_rules.specs.Integer.{integer_of}
use Rattle.common.specs.Options.{bind}

-- a member with the name n has the value v
abbrev pub Has : List ℕ → Value → Members → Type 0
Has n v mnil = ⊥
Has n v (mcons m w ms) = ((m ≡ n) × (w ≡ v)) ⊎ Has n v ms

-- no member has the name n
abbrev pub Lacks : List ℕ → Members → Type 0
Lacks n ms = (v : Value) → Has n v ms → ⊥

-- A meaning: what a value of its kind says; none for any other value.
abbrev pub Meaning : Type 0 → Type 0
Meaning A = Value → Option A

-- of a string, a number, an array, and any other value
abbrev pub by_kind : {B : Type 0} → (List ℕ → B) → (List ℕ → B) → (Values → B) → B → Value → B
by_kind string number array other (string_v s) = string s
by_kind string number array other (number_v cs) = number cs
by_kind string number array other (array_v vs) = array vs
by_kind string number array other true_v = other
by_kind string number array other false_v = other
by_kind string number array other null_v = other
by_kind string number array other (object_v ms) = other

-- a string says its code points
abbrev pub string : Meaning (List ℕ)
string v = by_kind some (λ cs. none) (λ vs. none) none v

-- "an array in which everything is a string" says them in order
unfoldable pub strings_in : Values → Option (List (List ℕ))
strings_in vnil = some []
strings_in (vcons v vs) = bind (string v) (λ s. bind (strings_in vs) (λ ns. some (s ∷ ns)))

abbrev pub strings : Meaning (List (List ℕ))
strings v = by_kind (λ s. none) (λ cs. none) strings_in none v

-- "a number from -2^63 to 2^63 - 1, spelled without `.`, `e` or `E`" says its value
abbrev pub value_of : Perhaps ℤ → Option ℤ
value_of (Known z) = some z
value_of None = none

abbrev pub integer : Meaning ℤ
integer v = by_kind (λ s. none) (λ cs. value_of (integer_of cs)) (λ vs. none) none v

module _ {A : Type 0} (k : Meaning A) (n : List ℕ) (ms : Members) where
  -- the member n is there, has the meaning k, and says a
  abbrev pub Says : A → Type 0
  Says a = (v : Value) × Has n v ms × (k v ≡ some a)

  -- the member n is there, and isn't of the kind that k asks for
  abbrev pub Wrong : Type 0
  Wrong = (v : Value) × Has n v ms × (k v ≡ none)

-- some name of a list is such that P
abbrev pub Some : (List ℕ → Type 0) → List (List ℕ) → Type 0
Some P [] = ⊥
Some P (n ∷ ns) = P n ⊎ Some P ns
