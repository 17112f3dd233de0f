-- How many members a header has.
use Rattle.std.specs.Prelude.{Bool, true, false, List, ℕ, eqb, Result, Ok, Err}
use Rattle.answers.specs.declared.refusal.Refusal.{Refusal}
use Rattle.answers.specs.Numbers.{number}
use Rattle.common.specs.First.{settle}
use Rattle.json_grammar_rules.specs.Value.{plain_members}
use Rattle.json_grammar_rules.specs.Reader.{read}
use Rattle.json_rules.specs.Rules.{deepest, count}
use Rattle.json_rules.specs.Tests.{members_in, checked}

-- what a header answers, and the number of members of its top object, 0 if it is refused
pub record Counted : Type 0 where
  pub answer : ℕ
  pub members : ℕ

abbrev pub with_members : ℕ → ℕ → Counted
with_members a n = record { answer = a; members = n }

-- the code's answer, likewise
abbrev pub counted : Result ℕ Refusal → Counted
counted (Ok n) = with_members 0 n
counted (Err r) = with_members (number r) 0

-- a header that is refused has its answer and no member; any other has 0, and the number of members that are read of its top object
unfoldable pub count_of : List ℕ → Counted
count_of h = settle (checked h) (with_members 0 (count (plain_members (members_in (read deepest h))))) (λ a. with_members a 0)

-- A READER STOPS at member k by the answer n: 16 is past the last member, any other is the header's
abbrev pub ended_if : Bool → ℕ → ℕ → Counted
ended_if true n k = with_members 0 k
ended_if false n k = with_members n 0

abbrev pub ended_at : ℕ → ℕ → Counted
ended_at n k = ended_if (eqb n 16) n k
