-- A compact token: how it is made, and how its parts are read off it (RFC 7515 sections 3.1, 5.1 and 7.1; RFC 7518 section 3.2).
use Rattle.std.specs.Prelude.{List, ℕ, ◌+◌, length}
use Rattle.base64url_rules.specs.Base64url.{encode, encoded_length, decode}
use Rattle.hmac.specs.Hmac.{HMACSHA256}
use Rattle.keytable_rules.specs.Key.{key}
use Rattle.keytable_rules.specs.Table.{keys}
use Rattle.jose_rules.specs.declared.Choice.{Choice}
use Rattle.jws_rules.specs.Segments.{front, back, ◌dot◌}

-- 1: "the token has more than 32,768 bytes"
abbrev pub token_most : ℕ
token_most = 32768

-- RFC 7515 section 2, the JWS Signing Input: BASE64URL(UTF8(JWS Protected Header)) || '.' || BASE64URL(JWS Payload)
abbrev pub signing_input : List ℕ → List ℕ → List ℕ
signing_input h p = encode h dot encode p

-- RFC 7515 section 5.1, step 5: the JWS Signature; with HS256 the MAC over the JWS Signing Input (RFC 7518 section 3.2)
abbrev pub mac_of : List ℕ → List ℕ → List ℕ → List ℕ
mac_of secret h p = HMACSHA256 secret (signing_input h p)

-- RFC 7515 section 7.1: BASE64URL(UTF8(JWS Protected Header)) || '.' || BASE64URL(JWS Payload) || '.' || BASE64URL(JWS Signature)
abbrev pub token_of : List ℕ → List ℕ → List ℕ → List ℕ
token_of secret h p = encode h dot encode p dot encode (mac_of secret h p)

-- "1 (of the token that would come out)": the two segments, that of the MAC's 32 bytes, two periods. It is the token's length: `length_token` of TokenLaws
abbrev pub finished_length : List ℕ → List ℕ → ℕ
finished_length h p = length (encode h) + length (encode p) + encoded_length 32 + 2

-- "`header.payload.signature`: three segments, each base64url, with a period after the first and after the second."
abbrev pub header_of : List ℕ → List ℕ
header_of t = decode (front t)

abbrev pub payload_of : List ℕ → List ℕ
payload_of t = decode (front (back t))

abbrev pub signature_of : List ℕ → List ℕ
signature_of t = decode (back (back t))

-- "the bytes of the token up to the second period, that period left out; as they were sent": the JWS Signing Input
abbrev pub sent_input : List ℕ → List ℕ
sent_input t = front t dot front (back t)

-- the secret of the key that a header chooses
abbrev pub secret_of : List ℕ → Choice → List ℕ
secret_of T c = (key (keys T) c.key_index).secret
