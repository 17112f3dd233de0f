-- The next member or element stands past a comma, and past no other byte.
use Rattle.std.specs.Prelude.{◌≡◌, refl, List, [], ◌∷◌, ℕ, Some, None}
use Rattle.json_grammar_rules.specs.Bytes.{is_ws}
use Rattle.json_grammar_rules.specs.Places.{pos}
use Rattle.json_grammar_rules.specs.Reader.{skip}
use Rattle.json_members.specs.Steps.{start_in, next_in}

-- the byte b, a space and a digit
abbrev after : ℕ → List ℕ
after b = b ∷ 0x20 ∷ 0x31 ∷ []

pub record Examples : Type 0 where
  pub comma : next_in (after 0x2C) (after 0x2C) ≡ Some 2
  pub below : next_in (after 0x2B) (after 0x2B) ≡ None
  pub above : next_in (after 0x2D) (after 0x2D) ≡ None

pub examples : Examples
unfolding is_ws skip pos start_in next_in
examples = record { comma = refl; below = refl; above = refl }
