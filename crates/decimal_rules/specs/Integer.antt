-- An integer's decimal text: "a number from -2^63 to 2^63 - 1, spelled without `.`, `e` or `E`". "`-0` is zero."
use Rattle.std.specs.Prelude.{Bool, true, false, cond, ◌&&◌, List, [], ◌∷◌, ℕ, ◌+◌, ◌*◌, ◌-◌, eqb, ℤ, pos, neg_ℤ, Option, Some, None}
use Rattle.std.specs.Int.Signed.{le_z}
use Rattle.common.specs.Ranges.{is_digit}

unfoldable pub all_digits : List ℕ → Bool
all_digits [] = true
all_digits (c ∷ s) = is_digit c && all_digits s

-- one or more digits and nothing else
abbrev pub digits : List ℕ → Bool
digits [] = false
digits (c ∷ s) = all_digits (c ∷ s)

-- the number that the digits write in base ten after those of m. (Leading zeros count nothing: `007` is 7. JSON has none.)
unfoldable pub after : ℕ → List ℕ → ℕ
after m [] = m
after m (c ∷ s) = after (10 * m + (c - 48)) s

abbrev pub number : List ℕ → ℕ
number s = after 0 s

-- a minus sign in front, and the text without it
abbrev pub negative : List ℕ → Bool
negative [] = false
negative (c ∷ s) = eqb c 45

abbrev pub unsigned : List ℕ → List ℕ
unsigned [] = []
unsigned (c ∷ s) = cond (eqb c 45) s (c ∷ s)

-- the value: of the digits, below zero where a minus sign is in front
abbrev pub value : List ℕ → ℤ
value s = cond (negative s) (neg_ℤ (pos (number (unsigned s)))) (pos (number (unsigned s)))

abbrev pub in_range : ℤ → Bool
in_range z = le_z (neg_ℤ (pos 9223372036854775808)) z && le_z z (pos 9223372036854775807)

-- an optional minus sign, digits, and nothing else, whose value is in the range; anything else is none
unfoldable pub integer_of : List ℕ → Option ℤ
integer_of s = cond (digits (unsigned s) && in_range (value s)) (Some (value s)) None
