-- What verifying, signing and the payload call give.
use Rattle.std.specs.Prelude.{false, cond, List, ℕ, leb, length, replicate, take}
use Rattle.common.specs.Buffer.{filled}
use Rattle.jose_rules.specs.declared.Choice.{Choice}
use Rattle.jose_rules.specs.Header.{nowhere}
use Rattle.jws_rules.specs.declared.Record.{Record}
use Rattle.jws_rules.specs.Calls.{VerifyCall}

-- VERIFYING answers with a number, and with what the token holds: zeros where it is refused. It hands back that and the two lent buffers.
pub record Verified : Type 0 where
  pub answer : ℕ
  pub details : Record

pub record VerifyOutcome : Type 0 where
  pub gives : Verified
  pub header : List ℕ
  pub payload : List ℕ

abbrev pub given : Verified → List ℕ → List ℕ → VerifyOutcome
given r header payload = record { gives = r; header = header; payload = payload }

-- "The record tells the lengths of header and payload, which key it was, by its number in the table, whether the header has `kid`, the format, and of `typ` and `cty`
-- where the text between the quotation marks begins and how long it is"
abbrev pub record_of : List ℕ → List ℕ → Choice → Record
record_of h p c = record { header_length = length h; payload_length = length p; choice = c }

abbrev pub zero_record : Record
zero_record = record { header_length = 0; payload_length = 0; choice = record { key_index = 0; kid_present = false; format = 0; typ = nowhere; cty = nowhere } }

-- "After a refusal each buffer that was lent for writing is zero from its first byte to its last, and so is every word of the result"
abbrev pub refused : ℕ → VerifyCall → VerifyOutcome
refused n q = given (record { answer = n; details = zero_record }) (replicate q.header_room 0) (replicate q.payload_room 0)

-- "the first buffer begins with the header and the second with the payload; the rest of both is zero"
abbrev pub accepted : List ℕ → List ℕ → Record → VerifyCall → VerifyOutcome
accepted h p r q = given (record { answer = 0; details = r }) (filled q.header_room h) (filled q.payload_room p)

-- "takes that record and the second buffer and lends the payload as a part of it [..]: for a record that asks for more than the buffer has, the part is empty":
-- how long the part is, by what is asked for and what the buffer has; and the part
unfoldable pub part_length : ℕ → ℕ → ℕ
part_length n room = cond (leb n room) n 0

abbrev pub payload : Record → List ℕ → List ℕ
payload r buffer = take (part_length r.payload_length (length buffer)) buffer

-- the header and the payload in what is given
abbrev pub header_in : VerifyOutcome → List ℕ
header_in v = take v.gives.details.header_length v.header

abbrev pub payload_in : VerifyOutcome → List ℕ
payload_in v = payload v.gives.details v.payload

-- SIGNING answers with a number, and with the token's length: 0 where none is made. It hands back that and the lent buffer.
pub record Signed : Type 0 where
  pub answer : ℕ
  pub length : ℕ

pub record SignOutcome : Type 0 where
  pub gives : Signed
  pub token : List ℕ

abbrev pub handed : Signed → List ℕ → SignOutcome
handed r token = record { gives = r; token = token }

-- a refusal: zeros, as in verifying; of the result, that is the length
abbrev pub unsigned : ℕ → ℕ → SignOutcome
unsigned n room = handed (record { answer = n; length = 0 }) (replicate room 0)

-- "the buffer begins with the token, the rest is zero, and the token's length is told"
abbrev pub signed_as : List ℕ → ℕ → SignOutcome
signed_as t room = handed (record { answer = 0; length = length t }) (filled room t)

-- the token in what is given
abbrev pub token_in : SignOutcome → List ℕ
token_in s = take s.gives.length s.token
