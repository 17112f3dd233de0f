-- Numbers in bytes, the highest first.
use Rattle.std.specs.Prelude.{List, [], ◌∷◌, ◌++◌, ℕ, zero, suc, ◌+◌, ◌*◌, ◌/◌, ◌%◌, get_or}

-- the lowest n bytes of x
unfoldable pub big_endian : ℕ → ℕ → List ℕ
big_endian zero x = []
big_endian (suc n) x = big_endian n (x / 256) ++ (x % 256 ∷ [])

-- the number in the n bytes from place i on
abbrev pub number_at : ℕ → List ℕ → ℕ → ℕ
number_at zero s i = 0
number_at (suc zero) s i = get_or s i 0
number_at (suc (suc n)) s i = number_at (suc n) s i * 256 + get_or s (i + suc n) 0

-- in two bytes, and in four
abbrev pub number2 : List ℕ → ℕ → ℕ
number2 = number_at 2

abbrev pub number4 : List ℕ → ℕ → ℕ
number4 = number_at 4
