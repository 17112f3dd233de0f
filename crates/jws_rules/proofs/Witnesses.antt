-- The promises speak of something more: a token that names the second key of a table and carries a format by `crit` is accepted; with another signature of 32 bytes it is
-- refused. No hash is computed.
use Rattle.std.specs.Prelude.{◌≡◌, ℕ, zero, suc, ◌≤◌, ◌<◌, replicate, get_or}
use Rattle.std.proofs.Math.Path.{refl, ap, ap₂}
use Rattle.std.proofs.Common.{sym, ◌∙◌, arith}
use mathlib.Core.List.{List, [], ◌∷◌, ◌++◌}
use Rattle.std.proofs.Math.ListN.{length}
use Rattle.common.specs.Bytes.{Bytes, none, more}
use Rattle.common.specs.First.{earlier, first}
use Rattle.common.proofs.FirstLaws.{none_stands, none_append}
use Rattle.common.specs.Same.{same}
use Rattle.common.specs.Ascii.{ascii}
use Rattle.base64url_rules.specs.Base64url.{encode, encoded_length}
use Rattle.base64url_rules.proofs.LengthLaws.{length_encode, encoded_length_lem}
use Rattle.hmac.specs.Hmac.{HMACSHA256}
use Rattle.hmac.specs.HmacLaws.{length_HMACSHA256}
use Rattle.keytable_rules.specs.Key.{Key, key}
use Rattle.keytable_rules.specs.Table.{Wellformed, keys, bad_table, below, listed}
use Rattle.keytable_rules.proofs.TableLaws.{wellformed}
use Rattle.keytable_rules.proofs.Examples.{head, entry}
use Rattle.jose_rules.specs.Rules.{terms_of}
use Rattle.jose_rules.specs.Header.{jose_rules, HeaderChooses}
use Rattle.jose_rules.specs.HeaderTests.{jose_tests, header_choice}
use Rattle.jose_rules.proofs.HeaderExamples.{pair, header, its_choice, second_key}
use Rattle.jose_rules.proofs.HeaderLaws.{jose_agree, header_chooses, header_bytes, header_rules_lem}
use Rattle.jose_rules.proofs.Promises.{distinct}
use Rattle.jws_rules.specs.Calls.{verify_of}
use Rattle.jws_rules.specs.Segments.{◌dot◌}
use Rattle.jws_rules.proofs.SegmentLaws.{length_dot}
use Rattle.jws_rules.specs.Token.{token_most, signing_input, mac_of, token_of, finished_length, header_of, secret_of}
use Rattle.jws_rules.proofs.TokenLaws.{length_token, mac_bytes, parts}
use Rattle.jws_rules.specs.Outcomes.{VerifyOutcome, record_of, accepted}
use Rattle.jws_rules.specs.Rules.{verifying, Accepted}
use Rattle.jws_rules.specs.Tests.{token_choice, verified, verify_answer}
use Rattle.jws_rules.proofs.AcceptedLaws.{made_passes_7}
use Rattle.jws_rules.proofs.Promises.{accepted_gives}
use Rattle.jws_rules.proofs.Sides.{differing_refused}

-- two keys, `A` and `B`, each with a secret of its own; both allow HS256 and formats 1 and 3
abbrev pub table : List ℕ
table = head 1 2 98 ++ (entry 32 1 34 32 1 0 ++ (entry 33 1 66 32 1 0 ++ (ascii "AB" ++ (replicate 32 7 ++ replicate 32 8))))

table_good : Wellformed table
unfolding bad_table keys below listed same ascii
table_good = wellformed table refl

-- the keys of the table
its_keys : keys table ≡ pair
unfolding keys below listed ascii
its_keys = refl

secret_is : secret_of table its_choice ≡ replicate 32 8
secret_is = ap (λ (ks : List Key). (key ks 1).secret) its_keys

read_as : (first (jose_tests header (terms_of table)) ≡ 0) × (header_choice header (keys table) ≡ its_choice)
read_as = (rw its_keys second_key.0, rw its_keys second_key.1)

chooses : HeaderChooses header (terms_of table) its_choice
chooses =
    let d = distinct table (λ x. x table_good) in
    rw (← read_as.1) (header_chooses header (terms_of table) d ((none_stands (jose_agree header (terms_of table) d) refl).0 read_as.0))

-- ANOTHER SIGNATURE: its first byte differs, the others are the same

abbrev another : ℕ → ℕ
another zero = 1
another (suc x) = 0

abbrev pub changed : List ℕ → List ℕ
changed [] = []
changed (x ∷ s) = another x ∷ s

changed_bytes : (s : List ℕ) → Bytes s → Bytes (changed s)
changed_bytes [] none = none
changed_bytes (zero ∷ s) (more k b) = more {x = 1} (omega arith) b
changed_bytes (suc x ∷ s) (more k b) = more {x = 0} (omega arith) b

changed_length : (s : List ℕ) → length (changed s) ≡ length s
changed_length [] = refl
changed_length (x ∷ s) = refl

changed_differs : (s : List ℕ) → 0 < length s → changed s ≡ s → ⊥
changed_differs [] k e = omega arith
changed_differs (zero ∷ s) k e = let x : ◌≡◌ {A = ℕ} 1 0 = ap (λ (l : List ℕ). get_or l 0 0) e in omega arith
changed_differs (suc y ∷ s) k e = let x : ◌≡◌ {A = ℕ} 0 (suc y) = ap (λ (l : List ℕ). get_or l 0 0) e in omega arith

module _ (p : List ℕ) (bytes : Bytes p) (short : length p ≤ 12000) (hr pr : ℕ) (fits : 48 ≤ hr) (fits' : length p ≤ pr) where
  abbrev secret : List ℕ
  secret = secret_of table its_choice

  finished : finished_length header p ≤ token_most
  unfolding ascii
  finished = omega (arith, length_encode header, length_encode p ∙ encoded_length_lem (length p))

  -- the token is accepted, with the second key and format 3; ..
  accepts : Accepted (verify_of (token_of secret header p) table hr pr) header p (record_of header p its_choice)
  unfolding ascii
  accepts = record {
    short = omega (arith, length_token secret header p, finished);
    table = table_good;
    token = refl;
    header_short = omega arith;
    header_fits = fits;
    payload_fits = fits';
    payload_bytes = bytes;
    header = chooses;
    header_length_lem = refl;
    payload_length_lem = refl;
  }

  pub second_key_accepted : verified (verify_of (token_of secret header p) table hr pr) ≡ accepted header p (record_of header p its_choice) (verify_of (token_of secret header p) table hr pr)
  second_key_accepted = accepted_gives (verify_of (token_of secret header p) table hr pr) header p (record_of header p its_choice) accepts

  -- .. and with any other signature of 32 bytes it is refused
  pub other_signature_refused : (s : List ℕ) → Bytes s → length s ≡ 32 → (s ≡ mac_of secret header p → ⊥) → verify_answer (verify_of (encode header dot encode p dot encode s) table hr pr) ≡ 15
  unfolding ascii
  other_signature_refused s sb n differs =
      let q = verify_of (encode header dot encode p dot encode s) table hr pr in
      let x = parts {t = q.token} refl (header_bytes chooses) bytes sb in
      let long : length q.token ≤ token_most = omega (arith, length_dot (encode header) (encode p dot encode s), length_dot (encode p) (encode s), length_encode s ∙ ap encoded_length n, finished) in
      let choice : token_choice q ≡ its_choice = ap (λ (y : List ℕ). header_choice y (keys table)) x.header ∙ read_as.1 in
      differing_refused q
      (none_append (earlier (verifying q) 7) (jose_rules (header_of q.token) (terms_of table))
      (made_passes_7 q table_good x (header_bytes chooses) bytes sb long (omega arith) fits fits')
      (rw x.header (header_rules_lem chooses)))
      (λ e. differs (sym x.signature ∙ e ∙ ap₂ HMACSHA256 (ap (secret_of table) choice) (ap₂ ◌dot◌ x.segment1 x.segment2)))

-- ROWS OF ONE CLAIM, of the payload `21.5`
pub record Witnesses : Type 0 where
  pub accepts_second_key : verify_answer (verify_of (token_of (replicate 32 8) header (ascii "21.5")) table 48 4) ≡ 0
  pub its_record : (verified (verify_of (token_of (replicate 32 8) header (ascii "21.5")) table 48 4)).gives.details ≡ record { header_length = 48; payload_length = 4; choice = its_choice }
  pub other_signature : verify_answer (verify_of (encode header dot encode (ascii "21.5") dot encode (changed (mac_of (replicate 32 8) header (ascii "21.5")))) table 48 4) ≡ 15

pub witnesses : Witnesses
unfolding ascii
witnesses =
    let p = ascii "21.5" in
    let b : Bytes p = more {x = 50} (omega arith) (more {x = 49} (omega arith) (more {x = 46} (omega arith) (more {x = 53} (omega arith) none))) in
    let m = mac_of (replicate 32 8) header p in
    let v = rw secret_is at (second_key_accepted p b (omega arith) 48 4 (omega arith) (omega arith)) in
    record {
      accepts_second_key = ap (λ (o : VerifyOutcome). o.gives.answer) v;
      its_record = ap (λ (o : VerifyOutcome). o.gives.details) v;
      other_signature = (rw secret_is at (other_signature_refused p b (omega arith) 48 4 (omega arith) (omega arith))) (changed m) (changed_bytes m (mac_bytes (replicate 32 8) header p))
          (changed_length m ∙ length_HMACSHA256 _ _) (changed_differs m (omega (arith, length_HMACSHA256 (replicate 32 8) (signing_input header p))));
    }
