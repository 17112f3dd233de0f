-- What is said of the member that a slot shows: that it is absent, wrong, or what the value says.
use Rattle.std.specs.Prelude.{Some, None}
use mathlib.Core.Path.{◌≡◌, refl, sym, ap, ◌∙◌}
use mathlib.Core.List.{List}
use mathlib.Core.Option.{Option, none}
use Prim.Native.Nat.{ℕ}
use Rattle.json_grammar_rules.specs.Value.{Value, string_v, number_v, true_v, false_v, null_v, array_v, object_v, LItem, plain}
use Rattle.json_grammar_rules.specs.declared.Kind.{Kind}
use Rattle.json_grammar_rules.specs.Places.{kind_of}
use Rattle.json_members.specs.declared.places.Value.{Value as Placed}
use Rattle.json_members.specs.Slots.{plain_of, Shows}
use Rattle.json_members.specs.SlotLaws.{shown, not_shown, kind_no}
use Rattle.jose_rules.specs.Members.{Meaning, string, strings, integer}
use Rattle.jose_rules.specs.declared.Said.{Said}
use Rattle.jose_rules.specs.Facts.{pick, said}

-- a value of another kind than c says nothing
abbrev pub AsksFor : {A : Type 0} → Kind → Meaning A → Type 0
AsksFor c says = (v : Value) → (kind_of v ≡ c → ⊥) → says v ≡ none

pub asks_string : AsksFor Kind.String string
unfolding kind_of
asks_string (string_v s) n = absurd (n refl)
asks_string (number_v cs) n = refl
asks_string true_v n = refl
asks_string false_v n = refl
asks_string null_v n = refl
asks_string (array_v vs) n = refl
asks_string (object_v ms) n = refl

pub asks_number : AsksFor Kind.Number integer
unfolding kind_of
asks_number (string_v s) n = refl
asks_number (number_v cs) n = absurd (n refl)
asks_number true_v n = refl
asks_number false_v n = refl
asks_number null_v n = refl
asks_number (array_v vs) n = refl
asks_number (object_v ms) n = refl

pub asks_array : AsksFor Kind.Array strings
unfolding kind_of
asks_array (string_v s) n = refl
asks_array (number_v cs) n = refl
asks_array true_v n = refl
asks_array false_v n = refl
asks_array null_v n = refl
asks_array (array_v vs) n = absurd (n refl)
asks_array (object_v ms) n = refl

module _ {A B : Type 0} (f : A → B) (says : Meaning A) where
  pub said_absent : {h : List ℕ} {d : ℕ} (o : Option LItem) → Shows h d None o → Said.Absent ≡ said f says (plain_of o)
  said_absent o s = sym (ap (said f says) (not_shown o s))

  -- by what the value says
  abbrev pub by_value : Option A → Said B
  by_value a = pick Said.Absent Said.Wrong (λ a. Said.Is (f a)) a

  module _ {h : List ℕ} {d : ℕ} {x : Placed} (o : Option LItem) (s : Shows h d (Some x) o) where
    pub said_by : {a : Option A} → says (plain (shown o s).value) ≡ a → by_value a ≡ said f says (plain_of o)
    said_by e = sym (ap (said f says) (shown o s).is ∙ ap by_value e)

    pub said_wrong : {c : Kind} → AsksFor c says → (x.kind ≡ c → ⊥) → Said.Wrong ≡ said f says (plain_of o)
    said_wrong asks e = said_by (asks (plain (shown o s).value) (kind_no (shown o s).stands e))
