-- The padding fills the last block, with the fewest zeros (FIPS 180-4, section 5.1.1).
use Rattle.std.specs.Prelude.{◌≡◌, ◌∷◌, ℕ, ◌+◌, ◌*◌, ◌%◌, ◌≤◌, length, replicate}
use Rattle.std.proofs.Common.{◌∙◌, arith, length-append}
use Rattle.std.proofs.lemmas.List.{length-replicate}
use Rattle.common.specs.BigEndian.{big_endian}
use Rattle.common.specs.BigEndianLaws.{length_big_endian}
use Rattle.sha2_rules.specs.Parameters.{Parameters, sha_256}
use Rattle.sha2_rules.specs.Hash.{length_bytes, zeros, padding}

pub length_padding : (P : Parameters) (n : ℕ) → length (padding P n) ≡ 1 + zeros P n + length_bytes P
unfolding padding
length_padding P n =
    length-append (128 ∷ replicate (zeros P n) 0) (big_endian (length_bytes P) (n * 8))
    ∙ omega (arith, length-replicate {A = ℕ} (zeros P n) 0, length_big_endian (length_bytes P) (n * 8))

-- the zero bits of SHA-256: seven in the byte of the bit 1, and those of the zero bytes
abbrev pub zero_bits : ℕ → ℕ
zero_bits n = 7 + 8 * zeros sha_256 n

-- "k zero bits, where k is the smallest, non-negative solution to the equation l + 1 + k = 448 mod 512"
pub solves : (n : ℕ) → (8 * n + 1 + zero_bits n) % 512 ≡ 448
solves n = omega arith

pub smallest : (n k : ℕ) → (8 * n + 1 + k) % 512 ≡ 448 → zero_bits n ≤ k
smallest n k e = omega arith
