-- The rules of `decide`: those of a header's bytes, after the table's and that on the header's length. Signing asks the same before it makes a token.
use Rattle.std.specs.Prelude.{List, [], ◌∷◌, ◌++◌, ℕ, length}
use Rattle.common.specs.First.{Rule}
use Rattle.json_rules.specs.Rules.{length_rule}
use Rattle.keytable_rules.specs.Table.{table_rule}
use Rattle.jose_rules.specs.Rules.{terms_of}
use Rattle.jose_rules.specs.Header.{jose_rules}

-- h: a header; T: a table. 2 and 5
abbrev pub opening_rules : List ℕ → List ℕ → List Rule
opening_rules h T = table_rule T ∷ length_rule (length h) ∷ []

abbrev pub deciding : List ℕ → List ℕ → List Rule
deciding h T = opening_rules h T ++ jose_rules h (terms_of T)
