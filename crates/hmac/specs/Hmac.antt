-- HMAC over any hash and its block size in bytes (RFC 2104, section 2), and HMAC-SHA256 (RFC 7518, section 3.2).
use Rattle.std.specs.Prelude.{ℕ, cond, List, ◌++◌, map, ltb, length}
use Rattle.std.specs.Int.Bits.{bit_xor}
use Rattle.common.specs.Buffer.{filled}
use Rattle.sha2_rules.specs.Hash.{SHA256}

module _ (hash : List ℕ → List ℕ) (block : ℕ) where
  -- "Applications that use keys longer than B bytes will first hash the key using H and then use the resultant L byte string as the actual key to HMAC."
  abbrev pub actual_key : List ℕ → List ℕ
  actual_key key = cond (ltb block (length key)) (hash key) key

  -- step (1): zeros appended to the key, to B bytes
  abbrev pub key_block : List ℕ → List ℕ
  key_block key = filled block (actual_key key)

  -- steps (2) and (5): the key's block, each byte with the pad's byte in exclusive or
  abbrev pub xor_pad : ℕ → List ℕ → List ℕ
  xor_pad pad key = map (λ x. bit_xor x pad) (key_block key)

  -- H(K XOR opad, H(K XOR ipad, text)); ipad is the byte 0x36 and opad the byte 0x5C, B times
  unfoldable pub hmac : List ℕ → List ℕ → List ℕ
  hmac key text = hash (xor_pad 0x5c key ++ hash (xor_pad 0x36 key ++ text))

abbrev pub HMACSHA256 : List ℕ → List ℕ → List ℕ
HMACSHA256 = hmac SHA256 64
