-- The rules of verifying and of signing (RFC 7515 sections 5.2 and 5.1, in the specification's order): each condition in the specification's words
-- under its number, phase by phase. And what it is to be accepted.
use Rattle.std.specs.Prelude.{◌≡◌, ◌⊎◌, false, List, [], ◌∷◌, ◌++◌, ℕ, ◌≤◌, ◌<◌, length}
use Rattle.common.specs.Bytes.{Bytes}
use Rattle.common.specs.First.{Rule, ◌on◌}
use Rattle.base64url_rules.specs.Base64url.{strict}
use Rattle.hmac.specs.Hmac.{HMACSHA256}
use Rattle.json_rules.specs.Rules.{longest, length_rule}
use Rattle.keytable_rules.specs.Table.{Wellformed, table_rule}
use Rattle.jose_rules.specs.declared.Choice.{Choice}
use Rattle.jose_rules.specs.Rules.{terms_of}
use Rattle.jose_rules.specs.Header.{jose_rules, HeaderChooses}
use Rattle.jose_rules.specs.Deciding.{deciding}
use Rattle.jws_rules.specs.declared.Record.{Record}
use Rattle.jws_rules.specs.Calls.{VerifyCall, SignCall}
use Rattle.jws_rules.specs.Segments.{periods, front, back}
use Rattle.jws_rules.specs.Token.{token_most, token_of, finished_length, header_of, payload_of, signature_of, sent_input, secret_of}

-- 1, by the token's length: "the token has more than 32,768 bytes"
abbrev pub token_length_rule : ℕ → Rule
token_length_rule n = 1 on (token_most < n)

-- VERIFYING, in the order "1 to 15"

-- the token, the table and the periods
abbrev pub token_rules : VerifyCall → List Rule
token_rules q =
    -- 1 and 2
    token_length_rule (length q.token)
    ∷ table_rule q.table
    -- "there are fewer than two periods, or more"
    ∷ 3 on (periods q.token ≡ 2 → ⊥)
    ∷ []

-- the segments, and what they decode to
abbrev pub segment_rules : VerifyCall → List Rule
segment_rules q =
    let t = q.token in
    -- "one of the three segments isn't strict"
    4 on ((strict (front t) ≡ false) ⊎ (strict (front (back t)) ≡ false) ⊎ (strict (back (back t)) ≡ false))
    -- 5
    ∷ length_rule (length (header_of t))
    -- "a buffer can't hold what belongs in it"
    ∷ 6 on ((q.header_room < length (header_of t)) ⊎ (q.payload_room < length (payload_of t)))
    ∷ []

-- the decoded signature isn't the MAC under the secret of the key that the header chooses
abbrev pub Differs : VerifyCall → Type 0
Differs q =
    (c : Choice) × HeaderChooses (header_of q.token) (terms_of q.table) c
    × (signature_of q.token ≡ HMACSHA256 (secret_of q.table c) (sent_input q.token) → ⊥)

-- the signature: "The signature segment decodes to these 32 bytes and to nothing more or less."
abbrev pub signature_rules : VerifyCall → List Rule
signature_rules q =
    -- "the signature is another one"
    15 on Differs q
    ∷ []

-- with 7 to 14, the header's, before the signature's
abbrev pub verifying : VerifyCall → List Rule
verifying q = token_rules q ++ (segment_rules q ++ (jose_rules (header_of q.token) (terms_of q.table) ++ signature_rules q))

-- SIGNING, in the order "2, 5, 7 to 14, 1 (of the token that would come out), 6"

-- the token that would come out
abbrev pub length_rules : SignCall → List Rule
length_rules q =
    -- 1
    token_length_rule (finished_length q.header q.payload)
    -- "a buffer can't hold what belongs in it"
    ∷ 6 on (q.room < finished_length q.header q.payload)
    ∷ []

abbrev pub signing : SignCall → List Rule
signing q = deciding q.header q.table ++ length_rules q

-- THE TOKEN IS ACCEPTED with the header h, the payload p and the record r. No decoder and no parser.
pub record Accepted (q : VerifyCall) (h p : List ℕ) (r : Record) : Type 0 where
  pub short : length q.token ≤ token_most
  pub table : Wellformed q.table
  pub token : q.token ≡ token_of (secret_of q.table r.choice) h p
  pub header_short : length h ≤ longest
  pub header_fits : length h ≤ q.header_room
  pub payload_fits : length p ≤ q.payload_room
  pub payload_bytes : Bytes p
  -- derived within the depth, no name twice, the rules of its known members kept; and what it decides
  pub header : HeaderChooses h (terms_of q.table) r.choice
  pub header_length_lem : r.header_length ≡ length h
  pub payload_length_lem : r.payload_length ≡ length p
