-- A part of a message, as the code lends it.
use Rattle.std.proofs.Common.{◌≡◌, List, [], ℕ, zero, suc, ◌*◌, ◌/◌, ◌<◌, length, get_or, take, drop, ap, ◌∙◌, add_comm, zero-mul, suc-mul, drop-drop, not-suc-le-zero, le_of_suc-le-suc}
use Rattle.std.specs.Simd.{first_chunks}

chunk : (size n i : ℕ) (m : List ℕ) → i < n → get_or (first_chunks size n m) i [] ≡ take size (drop (i * size) m)
chunk size zero i m h = absurd (not-suc-le-zero h)
chunk size (suc n) zero m h = rw zero-mul
chunk size (suc n) (suc i) m h =
    chunk size n i (drop size m) (le_of_suc-le-suc h) ∙ rw (drop-drop, suc-mul, add_comm (i * size) size)

-- part i of the parts of a list, each of `size` elements
pub part : (size i : ℕ) (m : List ℕ) {parts : List (List ℕ)} → parts ≡ first_chunks size (length m / size) m → i < length m / size
    → get_or parts i [] ≡ take size (drop (i * size) m)
part size i m e h = ap (λ (l : List (List ℕ)). get_or l i []) e ∙ chunk size (length m / size) i m h
