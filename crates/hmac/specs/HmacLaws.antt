-- What HMAC hands on of its hash: the length, and that the result is a list of bytes.
use Rattle.std.specs.Prelude.{◌≡◌, List, ℕ, length}
use Rattle.common.specs.Bytes.{Bytes}
use Rattle.sha2_rules.specs.Hash.{SHA256}
use Rattle.sha2_rules.proofs.DigestLaws.{length_SHA256, bytes_SHA256}
use Rattle.hmac.specs.Hmac.{hmac, HMACSHA256}

module _ (hash : List ℕ → List ℕ) (block : ℕ) where
  -- what holds of every hash holds of every HMAC
  pub of_hash : (Q : List ℕ → Type 0) → ((m : List ℕ) → Q (hash m)) → (key text : List ℕ) → Q (hmac hash block key text)
  unfolding hmac
  of_hash Q h key text = h _

pub length_HMACSHA256 : (key text : List ℕ) → length (HMACSHA256 key text) ≡ 32
length_HMACSHA256 = of_hash SHA256 64 (λ (r : List ℕ). length r ≡ 32) length_SHA256

pub bytes_HMACSHA256 : (key text : List ℕ) → Bytes (HMACSHA256 key text)
bytes_HMACSHA256 = of_hash SHA256 64 Bytes bytes_SHA256
