-- The promises speak of something: a table, and headers and payloads up to the limits, whose tokens are signed and accepted; one byte more, and they are refused; and so are a header that
-- names no key, and a token by a table that has its secret under another id.
-- No hash is computed.
use Rattle.std.specs.Prelude.{◌≡◌, refl, List, [], ◌∷◌, ◌++◌, ℕ, ◌+◌, ◌*◌, ◌/◌, ◌≤◌, ◌<◌, length, replicate}
use Rattle.std.proofs.Common.{sym, ap, ◌∙◌, arith, length-append}
use Rattle.std.proofs.lemmas.List.{length-replicate}
use Rattle.common.specs.Bytes.{Bytes, none, more}
use Rattle.common.specs.Ranges.{within}
use Rattle.common.specs.Same.{same}
use Rattle.common.specs.First.{NoneOf, condition, earlier, first}
use Rattle.common.proofs.FirstLaws.{first_stands, none_stands, none_append, earlier_next, ◌also◌}
use Rattle.base64url_rules.specs.Alphabet.{character, value}
use Rattle.base64url_rules.specs.Base64url.{encode, decode, alphabetic, unused_bits, strict}
use Rattle.base64url_rules.proofs.LengthLaws.{length_encode, encoded_length_lem}
use Rattle.json_grammar_rules.proofs.Written.{derived_bytes}
use Rattle.json_rules.specs.Rules.{longest}
use Rattle.keytable_rules.specs.Key.{Key, key}
use Rattle.keytable_rules.specs.Table.{Wellformed, keys, bad_table, below, listed}
use Rattle.keytable_rules.proofs.TableLaws.{wellformed}
use Rattle.keytable_rules.proofs.Examples.{head, one, entry, examples}
use Rattle.common.specs.Ascii.{ascii}
use Rattle.jose_rules.specs.Rules.{terms_of}
use Rattle.jose_rules.specs.Header.{jose_rules, NamesNoKey, HeaderChooses}
use Rattle.jose_rules.specs.Deciding.{opening_rules}
use Rattle.jose_rules.specs.HeaderTests.{jose_tests, header_choice}
use Rattle.jose_rules.proofs.HeaderExamples.{naming as header, first_choice as its_choice, single, first_key, nameless, no_key_lem, names_no_key}
use Rattle.jose_rules.proofs.HeaderLaws.{jose_agree, header_chooses, header_bytes, header_rules_lem}
use Rattle.jose_rules.proofs.Promises.{distinct}
use Rattle.jws_rules.specs.Calls.{VerifyCall, verify_of, SignCall, sign_of}
use Rattle.jws_rules.specs.Segments.{period, periods, front, back, ◌dot◌}
use Rattle.jws_rules.specs.Token.{token_most, mac_of, token_of, finished_length, header_of, secret_of}
use Rattle.jws_rules.proofs.TokenLaws.{length_token, mac_bytes, Parts, parts}
use Rattle.jws_rules.specs.Outcomes.{VerifyOutcome, record_of, accepted, signed_as}
use Rattle.jws_rules.specs.Rules.{verifying, signing, Accepted}
use Rattle.jws_rules.specs.Tests.{verified, verify_answer, signed, sign_answer}
use Rattle.jws_rules.proofs.RuleLaws.{before_5, before_6, before_7}
use Rattle.jws_rules.proofs.AcceptedLaws.{made_passes, made_passes_7}
use Rattle.jws_rules.proofs.Promises.{verify_first, sign_first, accepted_gives, accepted_again}
use Rattle.jws_rules.proofs.Sides.{token_refused, header_refused, header_room_refused, payload_room_refused, signature_refused, sign_header_refused, sign_length_refused, sign_room_refused, empty_token, two_periods}

-- the shortest table with one key, which allows HS256 and format 1, and its secret
abbrev pub table : List ℕ
table = one 52 (entry 20 1 20 32 1 0)

abbrev pub secret : List ℕ
secret = replicate 32 65

-- the token of the header `{"alg":"HS256","kid":"A"}`, with n spaces behind it, and a payload
abbrev pub token : ℕ → List ℕ → List ℕ
token n p = token_of secret (header n) p

-- a call that verifies a token with buffers of hr and pr bytes, and one that signs the header and a payload with a buffer of so many
abbrev pub taking : List ℕ → ℕ → ℕ → VerifyCall
taking t hr pr = verify_of t table hr pr

abbrev pub making : ℕ → List ℕ → ℕ → SignCall
making n p room = sign_of (header n) p table room

-- THE TABLE AND THE HEADER ARE IN ORDER

pub table_good : Wellformed table
table_good = wellformed table examples.shortest

pub secret_is : secret_of table its_choice ≡ secret
secret_is = ap (λ (ks : List Key). (key ks 0).secret) examples.its_key

pub length_header : (n : ℕ) → length (header n) ≡ 25 + n
unfolding ascii
length_header n = omega (arith, length-append (ascii "{\"alg\":\"HS256\",\"kid\":\"A\"}") (replicate n 0x20), length-replicate {A = ℕ} n 0x20)

-- with the table's key, no test refuses the header, and it decides that
read_as : (n : ℕ) → (first (jose_tests (header n) (terms_of table)) ≡ 0) × (header_choice (header n) (keys table) ≡ its_choice)
read_as n = (rw examples.its_key (first_key n).0, rw examples.its_key (first_key n).1)

pub chooses : (n : ℕ) → HeaderChooses (header n) (terms_of table) its_choice
chooses n =
    let d = distinct table (λ x. x table_good) in
    let r = read_as n in
    rw (← r.1) (header_chooses (header n) (terms_of table) d ((none_stands (jose_agree (header n) (terms_of table) d) refl).0 r.0))

-- EVERY SUCH TOKEN WITHIN THE LIMITS is accepted, whichever buffers its header and payload fit; ..
module _ (n : ℕ) (p : List ℕ) (bytes : Bytes p) (header_short : 25 + n ≤ longest) (short : finished_length (header n) p ≤ token_most) where
  pub accepts : (hr pr : ℕ) → 25 + n ≤ hr → length p ≤ pr → Accepted (taking (token n p) hr pr) (header n) p (record_of (header n) p its_choice)
  accepts hr pr k l =
      let e = length_header n in
      record {
        short = omega (arith, length_token secret (header n) p);
        table = table_good;
        token = ap (λ (s : List ℕ). token_of s (header n) p) (sym secret_is);
        header_short = omega arith;
        header_fits = omega arith;
        payload_fits = l;
        payload_bytes = bytes;
        header = chooses n;
        header_length_lem = refl;
        payload_length_lem = refl;
      }

  pub verifies : (hr pr : ℕ) → 25 + n ≤ hr → length p ≤ pr → verified (taking (token n p) hr pr) ≡ accepted (header n) p (record_of (header n) p its_choice) (taking (token n p) hr pr)
  verifies hr pr k l = accepted_gives (taking (token n p) hr pr) (header n) p (record_of (header n) p its_choice) (accepts hr pr k l)

  -- .. and signed, where its buffer has room.
  pub signs : (room : ℕ) → finished_length (header n) p ≤ room → signed (making n p room) ≡ signed_as (token n p) room
  signs room k =
      accepted_again (taking (token n p) (25 + n) (length p)) (header n) p (record_of (header n) p its_choice)
      (accepts (25 + n) (length p) (omega arith) (omega arith)) room (omega (arith, length_token secret (header n) p))

-- WHAT IS BEYOND A LIMIT is refused under that limit's number; in signing, ..
module _ (n : ℕ) (p : List ℕ) (room : ℕ) (header_short : 25 + n ≤ longest) where
  signing_passes : NoneOf (earlier (signing (making n p room)) 1)
  signing_passes =
      none_append (opening_rules (header n) table) (jose_rules (header n) (terms_of table))
      ((λ x. x table_good) also (λ x. omega (arith, length_header n)) also tt) (header_rules_lem (chooses n))

  pub long_unsigned : token_most < finished_length (header n) p → sign_answer (making n p room) ≡ 1
  long_unsigned k = sign_length_refused (making n p room) signing_passes k

  pub no_room_unsigned : finished_length (header n) p ≤ token_most → room < finished_length (header n) p → sign_answer (making n p room) ≡ 6
  no_room_unsigned k l =
      sign_room_refused (making n p room) (earlier_next (signing (making n p room)) 1 6 refl signing_passes (λ x. omega arith)) l

-- .. and in verifying.
module _ (n : ℕ) (p : List ℕ) (bytes : Bytes p) (short : finished_length (header n) p ≤ token_most) (hr pr : ℕ) where
  its_parts : Parts (token n p) (header n) p (mac_of secret (header n) p)
  its_parts = parts refl (header_bytes (chooses n)) bytes (mac_bytes secret (header n) p)

  its_header : length (header_of (token n p)) ≡ 25 + n
  its_header = ap length its_parts.header ∙ length_header n

  verifying_passes : NoneOf (earlier (verifying (taking (token n p) hr pr)) 5)
  verifying_passes = made_passes (taking (token n p) hr pr) table_good its_parts (header_bytes (chooses n)) bytes (mac_bytes secret (header n) p) (omega (arith, length_token secret (header n) p))

  pub long_header_refused : longest < 25 + n → verify_answer (taking (token n p) hr pr) ≡ 5
  long_header_refused k = header_refused (taking (token n p) hr pr) verifying_passes (omega (arith, its_header))

  module _ (header_short : 25 + n ≤ longest) where
    verifying_passes_5 : NoneOf (earlier (verifying (taking (token n p) hr pr)) 6)
    verifying_passes_5 = before_6 (taking (token n p) hr pr) verifying_passes (omega (arith, its_header))

    pub no_header_room : hr < 25 + n → verify_answer (taking (token n p) hr pr) ≡ 6
    no_header_room k = header_room_refused (taking (token n p) hr pr) verifying_passes_5 (omega (arith, its_header))

    pub no_payload_room : pr < length p → verify_answer (taking (token n p) hr pr) ≡ 6
    no_payload_room k = payload_room_refused (taking (token n p) hr pr) verifying_passes_5 (omega (arith, ap length its_parts.payload))

-- A SHORT HEADER THAT FINDS NO KEY, and is in order but for that: 12, with a payload that leaves the token short, whichever secret made it; and in signing.
module _ (h T : List ℕ) (short : length h ≤ 40) (good : Wellformed T) (computed : first (jose_tests h (terms_of T)) ≡ 12) where
  stands : condition (jose_rules h (terms_of T)) 12 × NoneOf (earlier (jose_rules h (terms_of T)) 12)
  stands = (first_stands (jose_agree h (terms_of T) (distinct T (λ x. x good))) refl 12 refl).0 computed

  its_bytes : Bytes h
  its_bytes = let w = stands.0 in rw (← w.1) (derived_bytes w.0)

  verify_gets_12 : (s p : List ℕ) → Bytes p → length p ≤ 12000 → (hr pr : ℕ) → length h ≤ hr → length p ≤ pr → verify_answer (verify_of (token_of s h p) T hr pr) ≡ 12
  verify_gets_12 s p pb k hr pr fits fits' =
      let q = verify_of (token_of s h p) T hr pr in
      let mb = mac_bytes s h p in
      let x = parts {t = q.token} refl its_bytes pb mb in
      let long : length q.token ≤ token_most = omega (arith, length_token s h p, length_encode h ∙ encoded_length_lem (length h), length_encode p ∙ encoded_length_lem (length p)) in
      (verify_first q 12 refl).1 (
        rw x.header stands.0,
        none_append (earlier (verifying q) 7) (earlier (jose_rules (header_of q.token) (terms_of T)) 12)
            (made_passes_7 q good x its_bytes pb mb long (omega arith) fits fits')
            (rw x.header stands.1),
      )

  sign_gets_12 : (p : List ℕ) (room : ℕ) → sign_answer (sign_of h p T room) ≡ 12
  sign_gets_12 p room =
      (sign_first (sign_of h p T room) 12 refl).1 (
        stands.0,
        none_append (opening_rules h T) (earlier (jose_rules h (terms_of T)) 12) ((λ x. x good) also (λ x. omega arith) also tt) stands.1,
      )

-- a table of one key with the same secret and another id, `B`
abbrev pub other_table : List ℕ
other_table = head 1 1 53 ++ (entry 20 1 21 32 1 0 ++ (66 ∷ secret))

other_table_good : Wellformed other_table
unfolding bad_table keys below listed same
other_table_good = wellformed other_table refl

other_table_keys : keys other_table ≡ single 66
unfolding keys below listed
other_table_keys = refl

-- ROWS OF ONE CLAIM

-- how long a token is
finished : (n : ℕ) (p : List ℕ) → finished_length (header n) p ≡ (4 * (25 + n) + 2) / 3 + (4 * length p + 2) / 3 + 45
finished n p = omega (arith, length_encode (header n) ∙ encoded_length_lem (length (header n)), length_encode p ∙ encoded_length_lem (length p), length_header n)

pub record Inhabited : Type 0 where
  -- the shortest of these tokens has 79 bytes; its header 25, its payload none
  pub signed_79 : signed (making 0 [] 79) ≡ signed_as (token 0 []) 79
  pub room_78 : sign_answer (making 0 [] 78) ≡ 6
  pub accepted_79 : verify_answer (taking (token 0 []) 25 0) ≡ 0
  pub its_record : (verified (taking (token 0 []) 25 0)).gives.details ≡ record { header_length = 25; payload_length = 0; choice = its_choice }
  pub header_room_24 : verify_answer (taking (token 0 []) 24 0) ≡ 6
  pub payload_room_0 : (x : ℕ) → x < 256 → verify_answer (taking (token 0 (x ∷ [])) 25 0) ≡ 6
  -- with two spaces and a payload of 24,515 bytes the token has 32,768, with one more 32,769
  pub signed_longest : (p : List ℕ) → Bytes p → length p ≡ 24515 → signed (making 2 p 32768) ≡ signed_as (token 2 p) 32768
  pub accepted_longest : (p : List ℕ) → Bytes p → length p ≡ 24515 → verify_answer (taking (token 2 p) 27 24515) ≡ 0
  pub unsigned_longer : (p : List ℕ) → length p ≡ 24516 → (room : ℕ) → sign_answer (making 2 p room) ≡ 1
  pub refused_longer : (p : List ℕ) → length p ≡ 24516 → (hr pr : ℕ) → verify_answer (taking (token 2 p) hr pr) ≡ 1
  -- with 4,071 spaces the header has 4,096 bytes (and the token 5,507), with one more 4,097
  pub signed_longest_header : signed (making 4071 [] 5507) ≡ signed_as (token 4071 []) 5507
  pub accepted_longest_header : verify_answer (taking (token 4071 []) 4096 0) ≡ 0
  pub unsigned_longer_header : (room : ℕ) → sign_answer (making 4072 [] room) ≡ 5
  pub refused_longer_header : (hr pr : ℕ) → verify_answer (taking (token 4072 []) hr pr) ≡ 5
  -- the empty token, two periods alone, and a token of which no byte of the signature was sent
  pub empty : verify_answer (taking [] 25 0) ≡ 3
  pub periods_alone : verify_answer (taking (period ∷ period ∷ []) 25 0) ≡ 7
  pub no_signature : verify_answer (taking (encode (header 0) dot encode [] dot []) 25 0) ≡ 15
  -- the header `{"alg":"HS256"}` names no key: its token is refused, though the table has one key and the signature is by its secret
  pub names_none : NamesNoKey nameless
  pub verify_nameless : (p : List ℕ) → Bytes p → length p ≤ 12000 → verify_answer (taking (token_of secret nameless p) 15 12000) ≡ 12
  pub sign_nameless : (p : List ℕ) (room : ℕ) → sign_answer (sign_of nameless p table room) ≡ 12
  -- a token that the table accepts, by a table of the same secret under another id
  pub verify_other_id : (p : List ℕ) → Bytes p → length p ≤ 12000 → verify_answer (verify_of (token 0 p) other_table 25 12000) ≡ 12

-- its segments and their bytes are computed
without_signature : verify_answer (taking (encode (header 0) dot encode [] dot []) 25 0) ≡ 15
unfolding ascii encode character periods front back decode within value strict alphabetic unused_bits
without_signature =
    let q = taking (encode (header 0) dot encode [] dot []) 25 0 in
    let n = before_6 q (before_5 q (omega arith) table_good refl refl refl refl) (omega arith) in
    signature_refused q
    (none_append (earlier (verifying q) 7) (jose_rules (header_of q.token) (terms_of table)) (before_7 q n (omega arith) (omega arith)) (header_rules_lem (chooses 0)))
    (λ e. omega arith)

pub inhabited : Inhabited
unfolding ascii
inhabited =
    let f0 = finished 0 in
    let f2 = finished 2 in
    let answer : VerifyOutcome → ℕ = λ v. v.gives.answer in
    let v79 = verifies 0 [] none (omega arith) (omega (arith, f0 [])) 25 0 (omega arith) (omega arith) in
    record {
      signed_79 = signs 0 [] none (omega arith) (omega (arith, f0 [])) 79 (omega (arith, f0 []));
      room_78 = no_room_unsigned 0 [] 78 (omega arith) (omega (arith, f0 [])) (omega (arith, f0 []));
      accepted_79 = ap answer v79;
      its_record = ap (λ (v : VerifyOutcome). v.gives.details) v79;
      header_room_24 = no_header_room 0 [] none (omega (arith, f0 [])) 24 0 (omega arith) (omega arith);
      payload_room_0 = λ x k. no_payload_room 0 (x ∷ []) (more k none) (omega (arith, f0 (x ∷ []))) 25 0 (omega arith) (omega arith);
      signed_longest = λ p b e. signs 2 p b (omega arith) (omega (arith, f2 p)) 32768 (omega (arith, f2 p));
      accepted_longest = λ p b e. ap answer (verifies 2 p b (omega arith) (omega (arith, f2 p)) 27 24515 (omega arith) (omega arith));
      unsigned_longer = λ p e room. long_unsigned 2 p room (omega arith) (omega (arith, f2 p));
      refused_longer = λ p e hr pr. token_refused (taking (token 2 p) hr pr) (omega (arith, f2 p, length_token secret (header 2) p));
      signed_longest_header = signs 4071 [] none (omega arith) (omega (arith, finished 4071 [])) 5507 (omega (arith, finished 4071 []));
      accepted_longest_header = ap answer (verifies 4071 [] none (omega arith) (omega (arith, finished 4071 [])) 4096 0 (omega arith) (omega arith));
      unsigned_longer_header = λ room. sign_header_refused (making 4072 [] room) table_good (omega (arith, length_header 4072));
      refused_longer_header = λ hr pr. long_header_refused 4072 [] none (omega (arith, finished 4072 [])) hr pr (omega arith);
      empty = empty_token table table_good 25 0;
      periods_alone = two_periods table table_good 25 0;
      no_signature = without_signature;
      names_none = names_no_key;
      verify_nameless = λ p b k. verify_gets_12 nameless table (omega arith) table_good (rw examples.its_key no_key_lem.0) secret p b k 15 12000 (omega arith) k;
      sign_nameless = sign_gets_12 nameless table (omega arith) table_good (rw examples.its_key no_key_lem.0);
      verify_other_id = λ p b k. verify_gets_12 (header 0) other_table (omega arith) other_table_good (rw other_table_keys no_key_lem.1) secret p b k 25 12000 (omega arith) k;
    }
