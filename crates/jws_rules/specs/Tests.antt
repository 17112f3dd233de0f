-- The rules' tests, phase by phase, and what verifying and signing give: the definitions that the contracts cite.
use Rattle.std.specs.Prelude.{Bool, not, ◌||◌, List, [], ◌∷◌, ◌++◌, ℕ, ltb, eqb, length}
use Rattle.common.specs.First.{Test, ◌when◌, first, settle}
use Rattle.common.specs.Same.{same}
use Rattle.base64url_rules.specs.Base64url.{decode, strict}
use Rattle.hmac.specs.Hmac.{HMACSHA256}
use Rattle.json_rules.specs.Tests.{length_test}
use Rattle.keytable_rules.specs.Table.{table_test, keys}
use Rattle.jose_rules.specs.declared.Choice.{Choice}
use Rattle.jose_rules.specs.Rules.{terms_of}
use Rattle.jose_rules.specs.HeaderTests.{jose_tests, header_choice}
use Rattle.jose_rules.specs.Decision.{deciding_tests}
use Rattle.jws_rules.specs.declared.Record.{Record}
use Rattle.jws_rules.specs.Calls.{VerifyCall, SignCall}
use Rattle.jws_rules.specs.Segments.{periods, front, back}
use Rattle.jws_rules.specs.Token.{token_most, token_of, finished_length, header_of, payload_of, signature_of, sent_input, secret_of}
use Rattle.jws_rules.specs.Outcomes.{VerifyOutcome, SignOutcome, record_of, refused, accepted, unsigned, signed_as}

-- 1, by the token's length
abbrev pub token_length_test : ℕ → Test
token_length_test n = 1 when ltb token_most n

-- VERIFYING

-- what the token's header decides
abbrev pub token_choice : VerifyCall → Choice
token_choice q = header_choice (header_of q.token) (keys q.table)

-- what is given of a token that no rule refuses
abbrev pub token_record : VerifyCall → Record
token_record q = record_of (header_of q.token) (payload_of q.token) (token_choice q)

abbrev pub token_tests : VerifyCall → List Test
token_tests q = token_length_test (length q.token) ∷ table_test q.table ∷ 3 when not (eqb (periods q.token) 2) ∷ []

-- by whether the three segments are strict, and by the lengths n and m of header and payload, with buffers of hr and pr bytes
abbrev pub opened_tests : Bool → Bool → Bool → ℕ → ℕ → ℕ → ℕ → List Test
opened_tests x y z n m hr pr = 4 when (not x || (not y || not z)) ∷ length_test n ∷ 6 when (ltb hr n || ltb pr m) ∷ []

-- of the segments themselves
abbrev pub segment_tests : List ℕ → List ℕ → List ℕ → ℕ → ℕ → List Test
segment_tests x y z hr pr = opened_tests (strict x) (strict y) (strict z) (length (decode x)) (length (decode y)) hr pr

abbrev pub signature_tests : VerifyCall → List Test
signature_tests q = 15 when not (same (signature_of q.token) (HMACSHA256 (secret_of q.table (token_choice q)) (sent_input q.token))) ∷ []

-- the header's and the signature's; those and the segments'; all
abbrev pub from_header : VerifyCall → List Test
from_header q = jose_tests (header_of q.token) (terms_of q.table) ++ signature_tests q

abbrev pub from_segments : VerifyCall → List Test
from_segments q =
    let t = q.token in
    segment_tests (front t) (front (back t)) (back (back t)) q.header_room q.payload_room ++ from_header q

abbrev pub verify_tests : VerifyCall → List Test
verify_tests q = token_tests q ++ from_segments q

unfoldable pub verified : VerifyCall → VerifyOutcome
verified q =
    settle (first (verify_tests q))
    (accepted (header_of q.token) (payload_of q.token) (token_record q) q)
    (λ n. refused n q)

abbrev pub verify_answer : VerifyCall → ℕ
verify_answer q = (verified q).gives.answer

-- SIGNING

-- by the length n of the token that would come out, with a buffer of so many bytes
abbrev pub length_tests : ℕ → ℕ → List Test
length_tests n room = token_length_test n ∷ 6 when ltb room n ∷ []

abbrev pub sign_tests : SignCall → List Test
sign_tests q = deciding_tests q.header q.table ++ length_tests (finished_length q.header q.payload) q.room

-- what the header decides, and the token that is made
abbrev pub sign_choice : SignCall → Choice
sign_choice q = header_choice q.header (keys q.table)

abbrev pub made_by : SignCall → Choice → List ℕ
made_by q c = token_of (secret_of q.table c) q.header q.payload

abbrev pub made : SignCall → List ℕ
made q = made_by q (sign_choice q)

unfoldable pub signed : SignCall → SignOutcome
signed q = settle (first (sign_tests q)) (signed_as (made q) q.room) (λ n. unsigned n q.room)

abbrev pub sign_answer : SignCall → ℕ
sign_answer q = (signed q).gives.answer
