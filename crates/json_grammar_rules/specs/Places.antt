-- Member k of located members: its kind, and its places as numbers.
use Rattle.std.specs.Prelude.{List, ℕ, zero, suc, ◌+◌, ◌-◌, length}
use Rattle.std.proofs.Math.Option.{Option, none, some}
use Rattle.json_grammar_rules.specs.declared.Kind.{Kind}
use Rattle.json_grammar_rules.specs.Value.{Value, string_v, number_v, true_v, false_v, null_v, array_v, object_v, item, LMember, LMembers, named, lnil, lcons, plain}

unfoldable pub kind_of : Value → Kind
kind_of (string_v cs) = Kind.String
kind_of (number_v cs) = Kind.Number
kind_of true_v = Kind.True
kind_of false_v = Kind.False
kind_of null_v = Kind.Null
kind_of (array_v vs) = Kind.Array
kind_of (object_v ms) = Kind.Object

-- the kind of a member's value, and the places of its name and of its value: each from the first byte to the place after the last
pub record MemberPlaces : Type 0 where
  pub kind : Kind
  pub name_start : ℕ
  pub name_end : ℕ
  pub value_start : ℕ
  pub value_end : ℕ

-- the number of the place in s where x, the last bytes of s, begins
unfoldable pub pos : List ℕ → List ℕ → ℕ
pos s x = length s - length x

-- a string is taken between its quotation marks, every other value whole: what is left out at either end
unfoldable pub margin : Kind → ℕ
margin Kind.String = 1
margin Kind.Number = 0
margin Kind.True = 0
margin Kind.False = 0
margin Kind.Null = 0
margin Kind.Array = 0
margin Kind.Object = 0

unfoldable pub placed : List ℕ → LMember → MemberPlaces
placed s (named f t n (item a b v)) =
    record { kind = kind_of (plain v); name_start = pos s f; name_end = pos s t; value_start = pos s a + margin (kind_of (plain v)); value_end = pos s b - margin (kind_of (plain v)) }

-- member k, from 0, of a text s with these members; none past the last
unfoldable pub member : List ℕ → ℕ → LMembers → Option MemberPlaces
member s k lnil = none
member s zero (lcons m ms) = some (placed s m)
member s (suc k) (lcons m ms) = member s k ms
