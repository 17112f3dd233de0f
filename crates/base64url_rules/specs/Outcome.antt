-- What decoding and encoding answer, and what the lent buffer holds afterwards.
use Rattle.std.specs.Prelude.{cond, List, ℕ, leb, length}
use Rattle.std.proofs.Math.Option.{Option, none, some}
use Rattle.common.specs.Buffer.{laid, cleared}
use Rattle.base64url_rules.specs.Base64url.{encode, decode}
use Rattle.base64url_rules.specs.Fault.{fault}

-- the answer of decoding: how many bytes were written; the place of the fault in a text that is not strict; or a strict text whose bytes the buffer has no room for
pub data Decoded : Type 0 where
  Bytes Fault : ℕ → Decoded
  Short : Decoded

-- an answer, and what the buffer holds then
pub record Decoding : Type 0 where
  pub answer : Decoded
  pub buffer : List ℕ

abbrev pub decoded_to : Decoded → List ℕ → Decoding
decoded_to answer buffer = record { answer = answer; buffer = buffer }

-- a text with a fault is refused at its place; one without is decoded if the buffer has room for its bytes, and else the buffer is too short
abbrev pub judged : Option ℕ → List ℕ → List ℕ → Decoding
judged (some place) bytes out = decoded_to (Decoded.Fault place) (cleared out)
judged none bytes out =
    cond (leb (length bytes) (length out))
    (decoded_to (Decoded.Bytes (length bytes)) (laid bytes out))
    (decoded_to Decoded.Short (cleared out))

unfoldable pub decoding : List ℕ → List ℕ → Decoding
decoding text out = judged (fault text) (decode text) out

-- the answer to a text that is not decoded
abbrev pub refusal : Option ℕ → Decoded
refusal (some place) = Decoded.Fault place
refusal none = Decoded.Short

-- the answer of encoding: how many characters were written, or a buffer that has no room for them
pub data Encoded : Type 0 where
  Text : ℕ → Encoded
  Short : Encoded

pub record Encoding : Type 0 where
  pub answer : Encoded
  pub buffer : List ℕ

abbrev pub encoded_to : Encoded → List ℕ → Encoding
encoded_to answer buffer = record { answer = answer; buffer = buffer }

-- bytes are encoded if the buffer has room for their text, and else the buffer is too short
unfoldable pub encoding : List ℕ → List ℕ → Encoding
encoding bytes out =
    cond (leb (length (encode bytes)) (length out))
    (encoded_to (Encoded.Text (length (encode bytes))) (laid (encode bytes) out))
    (encoded_to Encoded.Short (cleared out))
