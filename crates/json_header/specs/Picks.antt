-- Member k of the members that stand at a place.
use Rattle.std.specs.Prelude.{◌≡◌, List, ℕ}
use Rattle.json_grammar_rules.specs.Value.{LMembers}
use Rattle.json_grammar_rules.specs.Places.{member}
use Rattle.json_members.specs.Members.{MembersAt}
use Rattle.json_rules.specs.Answers.{Member, answer_for}

-- r is the answer for member k of the members at p
pub record Picks (s : List ℕ) (p d k : ℕ) (r : Member) : Type 0 where
  pub is : (ms : LMembers) → MembersAt s p d ms → r ≡ answer_for (member s k ms)
