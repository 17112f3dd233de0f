-- What the inner functions of signing promise.
use Rattle.std.specs.Prelude.{◌≡◌, List, ℕ, ◌≤◌, length, take}
use Rattle.common.specs.Buffer.{filled}
use Rattle.common.specs.First.{first, settle}
use Rattle.jws_rules.specs.Outcomes.{Signed}
use Rattle.jws_rules.specs.Outcomes.{SignOutcome, signed_as, unsigned}
use Rattle.jws_rules.specs.Tests.{length_tests}
use Rattle.jws_rules.specs.Token.{token_of, finished_length}

-- a refusal's result
abbrev pub unsigned_result : ℕ → Signed
unsigned_result n = record { answer = n; length = 0 }

-- the result whole, and the buffer as far as the result's length goes: what stands past it the outer function clears
pub record Written (outcome : SignOutcome) (token₀ : List ℕ) (r : Signed) (token : List ℕ) : Type 0 where
  pub result : r ≡ outcome.gives
  pub front : outcome.token ≡ filled (length token₀) (take r.length token)
  pub within : r.length ≤ length token
  pub kept : length token ≡ length token₀

-- what signing gives where the header's rules and the table's don't refuse: by the rules on the finished length
unfoldable pub finished : List ℕ → List ℕ → List ℕ → ℕ → SignOutcome
finished secret h p room = settle (first (length_tests (finished_length h p) room)) (signed_as (token_of secret h p) room) (λ n. unsigned n room)
