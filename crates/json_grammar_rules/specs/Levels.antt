-- The reader's parts between its levels, by their fuel n and the depth left d.
use Rattle.std.specs.Prelude.{List, ℕ}
use Rattle.json_grammar_rules.specs.Value.{LValue, LItems, LMember, LMembers}
use Rattle.json_grammar_rules.specs.Reader.{Got, read_value, read_more_elements, read_more_members}
use Rattle.json_grammar_rules.specs.Reader

-- a value from its first byte on, with no white space after it
abbrev pub read_bare : ℕ → ℕ → List ℕ → Got LValue
read_bare n d s = Reader.value n (λ e r. read_value n e r) (λ e r. read_more_elements n e r) (λ e r. read_more_members n e r) d s

-- elements up to the closing bracket
abbrev pub read_elements : ℕ → ℕ → List ℕ → Got LItems
read_elements n d s = Reader.elements n (λ e r. read_value n e r) (λ e r. read_more_elements n e r) (λ e r. read_more_members n e r) d s

-- what stands between brackets, and the closing one
abbrev pub read_in_array : ℕ → ℕ → List ℕ → Got LItems
read_in_array n d s = Reader.in_array n (λ e r. read_value n e r) (λ e r. read_more_elements n e r) (λ e r. read_more_members n e r) d s

-- a member
abbrev pub read_member : ℕ → ℕ → List ℕ → Got LMember
read_member n d s = Reader.member n (λ e r. read_value n e r) (λ e r. read_more_elements n e r) (λ e r. read_more_members n e r) d s

-- members up to the closing brace
abbrev pub read_members : ℕ → ℕ → List ℕ → Got LMembers
read_members n d s = Reader.members n (λ e r. read_value n e r) (λ e r. read_more_elements n e r) (λ e r. read_more_members n e r) d s

-- what stands between braces, and the closing one
abbrev pub read_in_object : ℕ → ℕ → List ℕ → Got LMembers
read_in_object n d s = Reader.in_object n (λ e r. read_value n e r) (λ e r. read_more_elements n e r) (λ e r. read_more_members n e r) d s
