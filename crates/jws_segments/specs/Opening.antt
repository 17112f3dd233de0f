-- What opening a token answers: its segments x, y and z decoded.
use Rattle.std.specs.Bool.{then_some}
use Rattle.std.specs.Prelude.{Bool, false, cond, List, ℕ, eqb, length, replicate, Option, Some, None, Result, Ok, Err}
use Rattle.common.specs.Same.{same}
use Rattle.base64url_rules.specs.Base64url.{decode, strict}
use Rattle.base64url_rules.specs.Outcome.{decoding}
use Rattle.jws_segments.specs.declared.opening.Opened.{Opened}
use Rattle.jws_segments.specs.declared.opening.Segments.{Segments}

-- a segment: how many bytes it stands for, as an error if it isn't strict
abbrev pub segment_of : List ℕ → Result ℕ ℕ
segment_of s = cond (strict s) (Ok (length (decode s))) (Err (length (decode s)))

-- what a buffer holds once a segment was decoded into it: its bytes and then what was there, or zeros where it isn't strict or doesn't fit
abbrev pub decoded_out : List ℕ → List ℕ → List ℕ
decoded_out s out = (decoding s out).buffer

-- the signature in the strict segment z, if it is of 32 bytes
abbrev pub signature_in : List ℕ → Option (List ℕ)
signature_in z = cond (eqb (length (decode z)) 32) (Some (decode z)) None

-- whether s is this MAC
abbrev pub is_mac : Option (List ℕ) → List ℕ → Bool
is_mac (Some bytes) mac = same bytes mac
is_mac None mac = false

-- the bytes of a strict signature of this length, if they are 32
abbrev pub whole_of : Result ℕ ℕ → List ℕ → Option (Option (List ℕ))
whole_of (Err n) bytes = None
whole_of (Ok n) bytes = Some (then_some (eqb n 32) bytes)

-- the three segments, and what the third leaves in 32 zeros
abbrev pub segments_of : List ℕ → List ℕ → List ℕ → Segments
segments_of x y z = record { header = segment_of x; payload = segment_of y; signature = segment_of z; bytes = decoded_out z (replicate 32 0) }

-- what is opened, if all three are strict
abbrev pub joined : Result ℕ ℕ → Result ℕ ℕ → Option (Option (List ℕ)) → Option Opened
joined (Ok n) (Ok m) (Some s) = Some (record { header_length = n; payload_length = m; signature = s })
joined (Ok n) (Ok m) None = None
joined (Ok n) (Err m) s = None
joined (Err n) m s = None

abbrev pub strict_parts : Segments → Option Opened
strict_parts s = joined s.header s.payload (whole_of s.signature s.bytes)

-- what is given, and what the buffers hold then
pub record Opening : Type 0 where
  pub gives : Segments
  pub header : List ℕ
  pub payload : List ℕ

abbrev pub opened_to : Segments → List ℕ → List ℕ → Opening
opened_to s header payload = record { gives = s; header = header; payload = payload }

unfoldable pub opening : List ℕ → List ℕ → List ℕ → List ℕ → List ℕ → Opening
opening x y z header payload = opened_to (segments_of x y z) (decoded_out x header) (decoded_out y payload)
