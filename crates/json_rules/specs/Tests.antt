-- The tests of a header's rules, by the reader on lists, and what the member call answers for member k.
use Rattle.std.specs.Prelude.{◌≡◌, ◌⊎◌, Bool, true, false, not, List, [], ◌∷◌, ◌++◌, ℕ, zero, suc, ltb, length}
use Rattle.std.proofs.Math.Option.{Option, none, some}
use Rattle.common.specs.First.{Test, ◌when◌, first}
use Rattle.json_grammar_rules.specs.Value.{object_v, twice, LMembers, lnil, plain_members}
use Rattle.json_grammar_rules.specs.Places.{MemberPlaces, member}
use Rattle.json_grammar_rules.specs.Reader.{Got, bad, got, read}
use Rattle.json_grammar_rules.proofs.Unique.{is_got}
use Rattle.json_rules.specs.Rules.{longest, deepest}
use Rattle.json_rules.specs.Answers.{Member, Refused, answer_for, number_of}

-- THE HEADER

-- the members of the top object, with their places; none where the header isn't derived
abbrev pub members_in : Got LMembers → LMembers
members_in bad = lnil
members_in (got ms r) = ms

-- whether an object has a name twice
abbrev pub twice_in : LMembers → Bool
twice_in ms = twice (object_v (plain_members ms))

-- 7: not derived within the depth; 8: one object has a name twice
abbrev pub grammar_tests : ℕ → List ℕ → List Test
grammar_tests d h = 7 when not (is_got (read d h)) ∷ 8 when twice_in (members_in (read d h)) ∷ []

-- 5: longer than `longest`; then those of the text, within the greatest depth
abbrev pub length_test : ℕ → Test
length_test n = 5 when ltb longest n

unfoldable pub header_tests : List ℕ → List Test
header_tests h = length_test (length h) ∷ grammar_tests deepest h

unfoldable pub checked : List ℕ → ℕ
checked h = first (header_tests h)

-- A MEMBER

-- whether there is no such member; and the tests of both
abbrev pub missing : Option MemberPlaces → Bool
missing none = true
missing (some m) = false

abbrev pub member_tests : List ℕ → ℕ → List Test
member_tests h k = header_tests h ++ (16 when missing (member h k (members_in (read deepest h))) ∷ [])

-- the header's refusal stands before the member
unfoldable pub unless_refused : ℕ → Member → Member
unless_refused zero m = m
unless_refused (suc n) m = Refused (suc n)

unfoldable pub member_of : List ℕ → ℕ → Member
member_of h k = unless_refused (checked h) (answer_for (member h k (members_in (read deepest h))))

-- the member reader's number for member k of h
abbrev pub member_number : List ℕ → ℕ → ℕ
member_number h k = number_of (member_of h k)

-- "The member call tells whether a header is read: then it answers 0 for each of its members and 16 for every other k."
abbrev pub Read : List ℕ → Type 0
Read h = (k : ℕ) → (member_number h k ≡ 0) ⊎ (member_number h k ≡ 16)
