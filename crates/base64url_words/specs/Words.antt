-- A group of four characters as one number of 32 bits: six bits of each, the first the highest, and below 0 where one is outside the alphabet.
use Rattle.std.specs.Prelude.{◌&&◌, cond, List, [], ◌∷◌, ◌++◌, ℕ, ◌*◌, ◌/◌, ◌%◌, ltb, ℤ, Option, Some, None}
use Rattle.std.specs.Int.Bits.{bit_or}
use Rattle.std.specs.Int.{w32}
use Rattle.std.proofs.Common.{of_z, to_z}
use Rattle.base64url_rules.specs.Base64url.{strict, decode}
use Rattle.base64url_rules.proofs.Tables.{entries, signed}

-- a number's 32 bits
abbrev pub bits : ℤ → ℕ
bits = of_z w32

-- a character's value shifted, so that it is multiplied by k; what is near below 0 stays below 0, since its high bits are all set
abbrev pub shifted : ℕ → ℕ → ℕ
shifted c k = bits (signed c) * k % 4294967296

abbrev pub word : ℕ → ℕ → ℕ → ℕ → ℕ
word a b c d = bit_or (bit_or (bit_or (shifted a 262144) (shifted b 4096)) (shifted c 64)) (bits (signed d))

-- the three bytes of a number below 2 ^ 24, the highest first
abbrev pub bytes3 : ℕ → List ℕ
bytes3 n = n / 65536 % 256 ∷ n / 256 % 256 ∷ n % 256 ∷ []

-- the table for long texts: the value of every character, and then every value shifted by six bits
abbrev pub raised : ℕ → ℤ
raised c = to_z w32 (shifted c 64)

unfoldable pub wide : List ℤ
wide = entries signed 0 256 ++ entries raised 0 256

-- the bytes of whole groups of characters, if all are of the alphabet
abbrev pub grouped : List ℕ → Option (List ℕ)
grouped group = cond (strict group) (Some (decode group)) None

-- the bits of two numbers, if neither is below 0
abbrev pub both : ℤ → ℤ → Option (ℕ × ℕ)
both x y = cond (ltb (bits x) 2147483648 && ltb (bits y) 2147483648) (Some (bits x, bits y)) None
