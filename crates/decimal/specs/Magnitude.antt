-- The value of a digit, and that of digits where it is at most a bound.
use Rattle.std.specs.Prelude.{cond, ◌&&◌, List, ℕ, ◌-◌, leb, Option, Some, None}
use Rattle.common.specs.Ranges.{is_digit}
use Rattle.decimal_rules.specs.Integer.{digits, number}

abbrev pub digit_of : ℕ → Option ℕ
digit_of c = cond (is_digit c) (Some (c - 48)) None

unfoldable pub magnitude_of : ℕ → List ℕ → Option ℕ
magnitude_of most s = cond (digits s && leb (number s) most) (Some (number s)) None
