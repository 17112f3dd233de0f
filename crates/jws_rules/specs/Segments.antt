-- A token's segments: what stands before, between and after its periods (RFC 7515 section 7.1).
use Rattle.std.specs.Prelude.{cond, List, [], ◌∷◌, ◌++◌, ℕ, suc, eqb}

abbrev pub period : ℕ
period = 0x2E

-- how many periods stand in s
unfoldable pub periods : List ℕ → ℕ
periods [] = 0
periods (x ∷ s) = cond (eqb x period) (suc (periods s)) (periods s)

-- what stands before the first period, and what after it
unfoldable pub front : List ℕ → List ℕ
front [] = []
front (x ∷ s) = cond (eqb x period) [] (x ∷ front s)

unfoldable pub back : List ℕ → List ℕ
back [] = []
back (x ∷ s) = cond (eqb x period) s (back s)

-- a and b with a period between
abbrev pub ◌dot◌ : List ℕ → List ℕ → List ℕ
a dot b = a ++ (period ∷ b)

infixr 60 ◌dot◌
