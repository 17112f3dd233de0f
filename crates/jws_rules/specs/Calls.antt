-- What a call is lent.
use Rattle.std.specs.Prelude.{List, ℕ, length}

-- VERIFYING: a token and a table; and how many bytes the buffers have that are lent for the header and the payload
pub record VerifyCall : Type 0 where
  pub token : List ℕ
  pub table : List ℕ
  pub header_room : ℕ
  pub payload_room : ℕ

-- of a token and a table, with buffers of hr and pr bytes; and with these buffers, by what they hold before the call
abbrev pub verify_of : List ℕ → List ℕ → ℕ → ℕ → VerifyCall
verify_of t T hr pr = record { token = t; table = T; header_room = hr; payload_room = pr }

abbrev pub verify_call : List ℕ → List ℕ → List ℕ → List ℕ → VerifyCall
verify_call t T header payload = verify_of t T (length header) (length payload)

-- SIGNING: a header, a payload and a table; and how many bytes the buffer has that is lent for the token
pub record SignCall : Type 0 where
  pub header : List ℕ
  pub payload : List ℕ
  pub table : List ℕ
  pub room : ℕ

-- of a header, a payload and a table, with a buffer of so many bytes; and with this buffer
abbrev pub sign_of : List ℕ → List ℕ → List ℕ → ℕ → SignCall
sign_of h p T room = record { header = h; payload = p; table = T; room = room }

abbrev pub sign_call : List ℕ → List ℕ → List ℕ → List ℕ → SignCall
sign_call h p T token = sign_of h p T (length token)
