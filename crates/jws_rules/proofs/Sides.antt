-- "Both sides of a limit": the answer on either side of each, and those of the shortest tokens. A limit passes what another rule may still refuse;
-- `earlier .. n` are the rules before n. Tokens and headers that stand at the limits: Inhabited.
use Rattle.std.specs.Prelude.{◌≡◌, ℕ, ◌≤◌, ◌<◌, length}
use Rattle.std.proofs.Math.Path.{refl}
use Rattle.std.proofs.Common.{ap, ◌∙◌, inl, inr, arith}
use mathlib.Core.List.{List, [], ◌∷◌}
use Rattle.common.specs.First.{NoneOf, earlier}
use Rattle.common.proofs.FirstLaws.{not_on, none_right, ◌also◌}
use Rattle.json_grammar_rules.specs.Reader.{skip, read}
use Rattle.json_grammar_rules.proofs.Unique.{not_derived}
use Rattle.base64url_rules.specs.Base64url.{encode, decode, alphabetic, unused_bits, strict}
use Rattle.base64url_rules.proofs.LengthLaws.{length_encode}
use Rattle.hmac.specs.Hmac.{HMACSHA256}
use Rattle.hmac.specs.HmacLaws.{length_HMACSHA256}
use Rattle.json_rules.specs.Rules.{longest, deepest}
use Rattle.keytable_rules.specs.Table.{Wellformed}
use Rattle.jose_rules.specs.Rules.{terms_of}
use Rattle.jose_rules.specs.Header.{jose_rules}
use Rattle.jose_rules.proofs.HeaderLaws.{header_chooses}
use Rattle.jose_rules.proofs.Promises.{distinct}
use Rattle.jws_rules.specs.Calls.{VerifyCall, verify_of, SignCall}
use Rattle.jws_rules.specs.Segments.{periods, front, back, period}
use Rattle.jws_rules.specs.Token.{token_most, finished_length, header_of, payload_of, signature_of, sent_input, secret_of}
use Rattle.jws_rules.specs.Rules.{verifying, signing}
use Rattle.jws_rules.specs.Tests.{token_choice, verify_answer, sign_answer}
use Rattle.jws_rules.proofs.RuleLaws.{before_5, before_6, before_7}
use Rattle.jws_rules.proofs.Promises.{verify_first, sign_first}

-- VERIFYING
module _ (q : VerifyCall) where
  -- "tokens of 32,768 and 32,769 bytes"
  pub token_passes : length q.token ≤ token_most → verify_answer q ≡ 1 → ⊥
  token_passes k e = let x = ((verify_first q 1 refl).0 e).0 in omega arith

  pub token_refused : token_most < length q.token → verify_answer q ≡ 1
  token_refused k = (verify_first q 1 refl).1 (k, tt)

  -- "headers of 4,096 bytes, which are 5,462 characters, and of 4,097"
  pub header_passes : length (header_of q.token) ≤ longest → verify_answer q ≡ 5 → ⊥
  header_passes k e = let x = ((verify_first q 5 refl).0 e).0 in omega arith

  pub header_refused : NoneOf (earlier (verifying q) 5) → longest < length (header_of q.token) → verify_answer q ≡ 5
  header_refused n k = (verify_first q 5 refl).1 (k, n)

  -- "a buffer can't hold what belongs in it": where both can, `verify_room` of Promises.
  pub header_room_refused : NoneOf (earlier (verifying q) 6) → q.header_room < length (header_of q.token) → verify_answer q ≡ 6
  header_room_refused n k = (verify_first q 6 refl).1 (inl k, n)

  pub payload_room_refused : NoneOf (earlier (verifying q) 6) → q.payload_room < length (payload_of q.token) → verify_answer q ≡ 6
  payload_room_refused n k = (verify_first q 6 refl).1 (inr k, n)

  -- "The signature segment decodes to these 32 bytes and to nothing more or less."
  pub differing_refused : NoneOf (earlier (verifying q) 15) → (signature_of q.token ≡ HMACSHA256 (secret_of q.table (token_choice q)) (sent_input q.token) → ⊥) → verify_answer q ≡ 15
  differing_refused n k =
      let h = header_of q.token in
      let known = none_right (earlier (verifying q) 7) (jose_rules h (terms_of q.table)) n in
      let c = header_chooses h (terms_of q.table) (distinct q.table (not_on (earlier (verifying q) 15) n 2)) known in
      (verify_first q 15 refl).1 ((token_choice q, c, k), n)

  pub signature_refused : NoneOf (earlier (verifying q) 15) → (length (signature_of q.token) ≡ 32 → ⊥) → verify_answer q ≡ 15
  signature_refused n k = differing_refused n (λ e. k (ap length e ∙ length_HMACSHA256 _ _))

pub header_characters : (h : List ℕ) → length h ≡ longest → length (encode h) ≡ 5462
header_characters h e = rw (length_encode h, e)

-- SIGNING
module _ (q : SignCall) where
  pub sign_header_passes : length q.header ≤ longest → sign_answer q ≡ 5 → ⊥
  sign_header_passes k e = let x = ((sign_first q 5 refl).0 e).0 in omega arith

  pub sign_header_refused : Wellformed q.table → longest < length q.header → sign_answer q ≡ 5
  sign_header_refused table k = (sign_first q 5 refl).1 (k, (λ n. n table) also tt)

  -- "1 (of the token that would come out), 6"; where the token fits its buffer: `sign_room` of Promises
  pub sign_length_passes : finished_length q.header q.payload ≤ token_most → sign_answer q ≡ 1 → ⊥
  sign_length_passes k e = let x = ((sign_first q 1 refl).0 e).0 in omega arith

  pub sign_length_refused : NoneOf (earlier (signing q) 1) → token_most < finished_length q.header q.payload → sign_answer q ≡ 1
  sign_length_refused n k = (sign_first q 1 refl).1 (k, n)

  pub sign_room_refused : NoneOf (earlier (signing q) 6) → q.room < finished_length q.header q.payload → sign_answer q ≡ 6
  sign_room_refused n k = (sign_first q 6 refl).1 (k, n)

-- THE SHORTEST TOKENS
module _ (T : List ℕ) (table : Wellformed T) (hr pr : ℕ) where
  -- "no token at all (3) and `..` (7) with a good table"
  pub empty_token : verify_answer (verify_of [] T hr pr) ≡ 3
  unfolding periods
  empty_token = (verify_first (verify_of [] T hr pr) 3 refl).1 ((λ e. omega arith), (λ k. omega arith) also (λ n. n table) also tt)

  pub two_periods : verify_answer (verify_of (period ∷ period ∷ []) T hr pr) ≡ 7
  unfolding periods front back decode strict alphabetic unused_bits read skip
  two_periods =
      let q = verify_of (period ∷ period ∷ []) T hr pr in
      let n = before_6 q (before_5 q (omega arith) table refl refl refl refl) (omega arith) in
      (verify_first q 7 refl).1 (not_derived deepest [] refl, before_7 q n (omega arith) (omega arith))
