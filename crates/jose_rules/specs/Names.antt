-- The known members' names (RFC 7515 section 4.1; `fmt` is the specification's) and the one algorithm's, as code points.
use Rattle.std.specs.Prelude.{List, [], ◌∷◌, ℕ}
use Rattle.common.specs.Ascii.{ascii}

unfoldable pub alg : List ℕ
alg = ascii "alg"

unfoldable pub kid : List ℕ
kid = ascii "kid"

unfoldable pub typ : List ℕ
typ = ascii "typ"

unfoldable pub cty : List ℕ
cty = ascii "cty"

unfoldable pub crit : List ℕ
crit = ascii "crit"

unfoldable pub fmt : List ℕ
fmt = ascii "fmt"

-- the names that `crit` may list, and must list where such a member is there
abbrev pub extensions : List (List ℕ)
extensions = fmt ∷ []

abbrev pub known_names : List (List ℕ)
known_names = alg ∷ kid ∷ typ ∷ cty ∷ crit ∷ extensions

unfoldable pub HS256 : List ℕ
HS256 = ascii "HS256"
