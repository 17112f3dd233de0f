-- The number of the member after a given one. A number of 64 bits has no number after the greatest, which stays where it is.
use Rattle.std.specs.Prelude.{Bool, true, false, ℕ, ◌+◌, ltb}

abbrev pub greatest : ℕ
greatest = 18446744073709551615

abbrev pub one_more_if : Bool → ℕ → ℕ
one_more_if true k = k + 1
one_more_if false k = k

abbrev pub following_of : ℕ → ℕ
following_of k = one_more_if (ltb k greatest) k
