-- A digest's length, and that it is a list of bytes.
use Rattle.std.specs.Prelude.{◌≡◌, List, ℕ, zero, suc, ◌*◌, ◌/◌, length, get_or}
use Rattle.std.proofs.Common.{sym, ◌∙◌, zero-mul, suc-mul, length-append}
use Rattle.common.specs.Bytes.{Bytes, none}
use Rattle.common.specs.BytesLaws.{bytes_append}
use Rattle.common.specs.BigEndian.{big_endian}
use Rattle.common.specs.BigEndianLaws.{length_big_endian, bytes_big_endian}
use Rattle.sha2_rules.specs.Parameters.{Parameters, sha_256}
use Rattle.sha2_rules.specs.Hash.{word_bytes, hash, SHA256}

pub length_word_bytes : (b : ℕ) (h : List ℕ) (n : ℕ) → length (word_bytes b h n) ≡ n * b
unfolding word_bytes
length_word_bytes b h zero = sym (zero-mul b)
length_word_bytes b h (suc n) =
    length-append (word_bytes b h n) (big_endian b (get_or h n 0)) ∙ rw (length_word_bytes b h n, length_big_endian b (get_or h n 0), suc-mul)

pub bytes_word_bytes : (b : ℕ) (h : List ℕ) (n : ℕ) → Bytes (word_bytes b h n)
unfolding word_bytes
bytes_word_bytes b h zero = none
bytes_word_bytes b h (suc n) = bytes_append (bytes_word_bytes b h n) (bytes_big_endian b (get_or h n 0))

pub length_hash : (P : Parameters) (m : List ℕ) → length (hash P m) ≡ P.digest_words * (P.w / 8)
unfolding hash
length_hash P m = length_word_bytes _ _ _

pub bytes_hash : (P : Parameters) (m : List ℕ) → Bytes (hash P m)
unfolding hash
bytes_hash P m = bytes_word_bytes _ _ _

pub length_SHA256 : (m : List ℕ) → length (SHA256 m) ≡ 32
length_SHA256 = length_hash sha_256

pub bytes_SHA256 : (m : List ℕ) → Bytes (SHA256 m)
bytes_SHA256 = bytes_hash sha_256
