-- Where the periods of a token stand.
use Rattle.std.specs.Prelude.{Bool, false, cond, ◌||◌, List, ℕ, ◌+◌, nat_eq, fold, ltb, eqb, length, Option, Some, None}
use Rattle.jws_rules.specs.Segments.{period, periods, front, back}

-- whether a period stands in s: each of its bytes is looked at
abbrev pub with_period : List ℕ → Bool
with_period s = fold (λ found b. found || nat_eq b period) false s

-- the place of the first period, if there is one
unfoldable pub first_period : List ℕ → Option ℕ
first_period t = cond (ltb 0 (periods t)) (Some (length (front t))) None

-- the places of both, if there are two
abbrev pub at : ℕ → ℕ → Option (ℕ × ℕ)
at a b = Some (a, b)

unfoldable pub split_of : List ℕ → Option (ℕ × ℕ)
split_of t = cond (eqb (periods t) 2) (at (length (front t)) (length (front t) + 1 + length (front (back t)))) None
