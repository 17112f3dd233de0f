-- What a header decides, or the number of the first rule that refuses it: what `decide_with` and `decide` answer.
use Rattle.std.specs.Prelude.{List, [], ◌∷◌, ◌++◌, ℕ, length, Result, Ok, Err}
use Rattle.answers.specs.declared.refusal.Refusal.{Refusal}
use Rattle.answers.specs.Numbers.{number}
use Rattle.common.specs.First.{Test, first, settle}
use Rattle.json_rules.specs.Tests.{length_test}
use Rattle.keytable_rules.specs.Table.{table_test, keys}
use Rattle.jose_rules.specs.declared.Choice.{Choice}
use Rattle.jose_rules.specs.Rules.{Terms, terms_of}
use Rattle.jose_rules.specs.HeaderTests.{jose_tests, header_choice}

pub data Decision : Type 0 where
  Refused : ℕ → Decision
  Chosen : Choice → Decision

-- as the code answers it
abbrev pub decided : Result Choice Refusal → Decision
decided (Ok c) = Chosen c
decided (Err r) = Refused (number r)

-- by the number of the first rule that refuses, or 0
abbrev pub decision_by : ℕ → Choice → Decision
decision_by n c = settle n (Chosen c) (λ m. Refused m)

-- 7 to 14, of a header of any length
unfoldable pub decision_with : List ℕ → Terms → Decision
decision_with h q = decision_by (first (jose_tests h q)) (header_choice h q.keys)

-- 2 and 5 stand before them
abbrev pub opening_tests : List ℕ → List ℕ → List Test
opening_tests h T = table_test T ∷ length_test (length h) ∷ []

abbrev pub deciding_tests : List ℕ → List ℕ → List Test
deciding_tests h T = opening_tests h T ++ jose_tests h (terms_of T)

unfoldable pub decision : List ℕ → List ℕ → Decision
decision h T = decision_by (first (deciding_tests h T)) (header_choice h (keys T))
