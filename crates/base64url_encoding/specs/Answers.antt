-- The code's answer as that of the definition.
use Rattle.std.specs.Prelude.{ℕ, Option, Some, None}
use Rattle.base64url_rules.specs.Outcome.{Encoded}

abbrev pub encoded : Option ℕ → Encoded
encoded (Some n) = Encoded.Text n
encoded None = Encoded.Short
