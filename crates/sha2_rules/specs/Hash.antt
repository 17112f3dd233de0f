-- The hash of a message, a list of bytes: padding, parsing, the hash computation (FIPS 180-4, sections 5.1, 5.2, 6.2 and 6.4).
use Rattle.std.specs.Prelude.{ℕ, zero, suc, ◌+◌, ◌-◌, ◌*◌, ◌/◌, ◌%◌, List, [], ◌∷◌, ◌++◌, length, get_or, take, drop, replicate}
use Rattle.common.specs.BigEndian.{big_endian}
use Rattle.sha2_rules.specs.Parameters.{Parameters, sha_256}
use Rattle.sha2_rules.specs.Compression.{compressed}

-- the first n words of h, as b bytes each
unfoldable pub word_bytes : ℕ → List ℕ → ℕ → List ℕ
word_bytes b h zero = []
word_bytes b h (suc n) = word_bytes b h n ++ big_endian b (get_or h n 0)

module _ (P : Parameters) where
  -- a block has sixteen words, and the message's length takes two
  abbrev pub block_bytes : ℕ
  block_bytes = 16 * (P.w / 8)

  abbrev pub length_bytes : ℕ
  length_bytes = 2 * (P.w / 8)

  -- section 5.1: after a message of n bytes stand the bit 1 (the byte 128), the fewest zeros that fill the last block, and the message's length in bits.
  -- FIPS defines the hash where the length fits its field; of a longer message this takes the length's lowest bytes.
  abbrev pub zeros : ℕ → ℕ
  zeros n = (2 * block_bytes - (n % block_bytes + 1 + length_bytes)) % block_bytes

  unfoldable pub padding : ℕ → List ℕ
  padding n = (128 ∷ replicate (zeros n) 0) ++ big_endian length_bytes (n * 8)

  unfoldable pub padded : List ℕ → List ℕ
  padded m = m ++ padding (length m)

  -- section 6.2.2: the hash value after the first n blocks of m, from h on
  unfoldable pub hash_value : List ℕ → List ℕ → ℕ → List ℕ
  hash_value h m zero = h
  hash_value h m (suc n) = compressed P (hash_value h m n) (take block_bytes (drop (n * block_bytes) m))

  -- the digest
  unfoldable pub hash : List ℕ → List ℕ
  hash m = word_bytes (P.w / 8) (hash_value P.H0 (padded m) (length (padded m) / block_bytes)) P.digest_words

  -- the digest of a message whose first n bytes, whole blocks, have the hash value h, and whose other bytes are m
  unfoldable pub hash_after : List ℕ → ℕ → List ℕ → List ℕ
  hash_after h n m =
      word_bytes (P.w / 8) (hash_value h (m ++ padding (n + length m)) (length (m ++ padding (n + length m)) / block_bytes)) P.digest_words

abbrev pub SHA256 : List ℕ → List ℕ
SHA256 = hash sha_256
