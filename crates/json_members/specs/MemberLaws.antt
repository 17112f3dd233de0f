-- Laws of members and elements that stand at places, for the proofs of code that walks over them.
use Rattle.std.specs.Prelude.{List, ℕ, drop}
use Rattle.json_grammar_rules.specs.Value.{inil, lnil}
use Rattle.json_grammar_rules.proofs.Sequences.{members, elements, not_none}
use Rattle.json_members.specs.Members.{MembersAt, ElementsAt}

-- there is a member where members stand, and an element where elements do
pub no_members : {B : Type 0} {s : List ℕ} {p : ℕ} (d : ℕ) → MembersAt s p d lnil → B
no_members {s = s} {p = p} d o = not_none members o.fuel d (drop p s) o.left o.reads

pub no_elements : {B : Type 0} {s : List ℕ} {p : ℕ} (d : ℕ) → ElementsAt s p d inil → B
no_elements {s = s} {p = p} d o = not_none elements o.fuel d (drop p s) o.left o.reads
