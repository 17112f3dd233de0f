-- Lists of bytes: their parts, and each of their elements.
use Rattle.std.specs.Prelude.{List, [], ◌∷◌, ◌++◌, ℕ, zero, suc, ◌<◌, get_or, take, drop}
use Rattle.std.proofs.Common.{arith}
use Rattle.common.specs.Bytes.{Bytes, none, more}

-- what a slice says of each of its elements, said of the list
pub bytes_of : (s : List ℕ) → ((i : ℕ) → get_or s i 0 < 256) → Bytes s
bytes_of [] h = none
bytes_of (x ∷ s) h = more (h 0) (bytes_of s (λ i. h (suc i)))

pub bytes_append : {s t : List ℕ} → Bytes s → Bytes t → Bytes (s ++ t)
bytes_append none b = b
bytes_append (more h a) b = more h (bytes_append a b)

pub bytes_take : (n : ℕ) {s : List ℕ} → Bytes s → Bytes (take n s)
bytes_take zero b = none
bytes_take (suc n) none = none
bytes_take (suc n) (more h b) = more h (bytes_take n b)

pub bytes_drop : (n : ℕ) {s : List ℕ} → Bytes s → Bytes (drop n s)
bytes_drop zero b = b
bytes_drop (suc n) none = none
bytes_drop (suc n) (more h b) = bytes_drop n b

pub byte_at : {s : List ℕ} (i : ℕ) → Bytes s → get_or s i 0 < 256
byte_at i none = omega arith
byte_at zero (more h b) = h
byte_at (suc i) (more h b) = byte_at i b
