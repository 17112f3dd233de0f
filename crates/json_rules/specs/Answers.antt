-- What the member call's answer says: a case for each kind with its places, or a refusal; the specification's number and values for each case. No parser is mentioned.
use Rattle.std.proofs.Math.Option.{Option, none, some}
use Rattle.std.specs.Prelude.{ℕ, ◌-◌}
use Rattle.json_grammar_rules.specs.declared.Kind.{Kind}
use Rattle.json_grammar_rules.specs.Places.{MemberPlaces}
use Rattle.json_rules.specs.declared.Place.{Place}

-- A MEMBER BY THE KIND OF ITS VALUE, as the place of its name and the place of its value; or the refusal's number
pub data Member : Type 0 where
  String Number True False Null Array Object : Place → Place → Member
  Refused : ℕ → Member

abbrev pub place : ℕ → ℕ → Place
place s e = record { start = s; end = e }

-- how many bytes it has: none where the end lies before the start
abbrev pub size_of : Place → ℕ
size_of x = x.end - x.start

-- a case for each kind, with the places of the name and of the value
abbrev pub shown_by : Kind → Place → Place → Member
shown_by Kind.String n v = String n v
shown_by Kind.Number n v = Number n v
shown_by Kind.True n v = True n v
shown_by Kind.False n v = False n v
shown_by Kind.Null n v = Null n v
shown_by Kind.Array n v = Array n v
shown_by Kind.Object n v = Object n v

-- 16: no such member
unfoldable pub answer_for : Option MemberPlaces → Member
answer_for none = Refused 16
answer_for (some m) = shown_by m.kind (place m.name_start m.name_end) (place m.value_start m.value_end)

-- THE SPECIFICATION'S NUMBER AND VALUES for each case

unfoldable pub number_of : Member → ℕ
number_of (String n v) = 0
number_of (Number n v) = 0
number_of (True n v) = 0
number_of (False n v) = 0
number_of (Null n v) = 0
number_of (Array n v) = 0
number_of (Object n v) = 0
number_of (Refused x) = x

-- the kind and the two places; a refusal is its number alone
abbrev pub with_kind : Kind → Place → Place → Option MemberPlaces
with_kind k n v = some (record { kind = k; name_start = n.start; name_end = n.end; value_start = v.start; value_end = v.end })

unfoldable pub values_of : Member → Option MemberPlaces
values_of (String n v) = with_kind Kind.String n v
values_of (Number n v) = with_kind Kind.Number n v
values_of (True n v) = with_kind Kind.True n v
values_of (False n v) = with_kind Kind.False n v
values_of (Null n v) = with_kind Kind.Null n v
values_of (Array n v) = with_kind Kind.Array n v
values_of (Object n v) = with_kind Kind.Object n v
values_of (Refused x) = none

-- the kinds are numbered 1 to 7, in the specification's order
unfoldable pub kind_number : Kind → ℕ
kind_number Kind.String = 1
kind_number Kind.Number = 2
kind_number Kind.True = 3
kind_number Kind.False = 4
kind_number Kind.Null = 5
kind_number Kind.Array = 6
kind_number Kind.Object = 7
