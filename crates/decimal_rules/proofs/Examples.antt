-- The definition, run on texts at both ends, one beyond each, at -0, and on texts that are no integer's.
use Rattle.std.specs.Prelude.{◌≡◌, refl, ℤ, pos, neg_ℤ, Some, None}
use Prim.Native.String.{String}
use Rattle.common.specs.Ascii.{ascii}
use Rattle.common.specs.Ranges.{within, is_digit}
use Rattle.decimal_rules.specs.Integer.{integer_of, all_digits, after}

abbrev pub Reads : String → ℤ → Type 0
Reads s z = integer_of (ascii s) ≡ Some z

abbrev pub Refused : String → Type 0
Refused s = integer_of (ascii s) ≡ None

pub examples :
    Reads "0" (pos 0)
    × Reads "-0" (pos 0)
    × Reads "1" (pos 1)
    × Reads "8" (pos 8)
    × Reads "-17" (neg_ℤ (pos 17))
    × Reads "007" (pos 7)
    × Reads "9223372036854775807" (pos 9223372036854775807)
    × Refused "9223372036854775808"
    × Reads "-9223372036854775808" (neg_ℤ (pos 9223372036854775808))
    × Refused "-9223372036854775809"
    × Refused "18446744073709551617"
    × Refused "1.0"
    × Refused "1e0"
    × Refused "+1"
    × Refused "-"
    × Refused "--1"
    × Refused ""
unfolding ascii within is_digit integer_of all_digits after
examples = (refl, refl, refl, refl, refl, refl, refl, refl, refl, refl, refl, refl, refl, refl, refl, refl, refl)
