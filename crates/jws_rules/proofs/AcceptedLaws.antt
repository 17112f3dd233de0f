-- A token is verified exactly when it is accepted; what is signed is accepted.
use Rattle.std.specs.Prelude.{◌≡◌, refl, Bool, true, false, List, ◌++◌, ℕ, ◌≤◌, ◌<◌, length}
use Rattle.std.proofs.Common.{sym, ap, ◌∙◌, subst, inl, inr, arith}
use Rattle.common.specs.Bytes.{Bytes}
use Rattle.common.specs.First.{Rule, NoneOf, earlier}
use Rattle.common.proofs.FirstLaws.{not_on, ◌also◌, none_append, none_left, none_right, decides_bool, decides_eq, stable}
use Rattle.common.proofs.Decided.{test_false}
use Rattle.common.proofs.SameLaws.{decides_same}
use Rattle.base64url_rules.specs.Base64url.{encode, strict}
use Rattle.base64url_rules.proofs.RoundTrip.{strict_encode, decode_bytes}
use Rattle.json_rules.specs.Rules.{longest}
use Rattle.keytable_rules.specs.Table.{Wellformed, keys}
use Rattle.keytable_rules.proofs.TableLaws.{decides_good}
use Rattle.jose_rules.specs.Rules.{terms_of}
use Rattle.jose_rules.specs.Header.{jose_rules, HeaderChooses}
use Rattle.jose_rules.specs.Deciding.{opening_rules, deciding}
use Rattle.jose_rules.specs.HeaderTests.{header_choice}
use Rattle.jose_rules.proofs.HeaderLaws.{header_chooses, header_chooses_one, header_rules_lem, header_bytes}
use Rattle.jose_rules.proofs.Promises.{distinct}
use Rattle.jws_rules.specs.declared.Record.{Record}
use Rattle.jws_rules.specs.Calls.{VerifyCall, verify_of, SignCall, sign_of}
use Rattle.jws_rules.specs.Segments.{periods, front, back}
use Rattle.jws_rules.specs.Token.{token_most, finished_length, header_of, payload_of, signature_of, secret_of}
use Rattle.jws_rules.proofs.TokenLaws.{mac_bytes, length_token, Parts, parts, whole}
use Rattle.jws_rules.specs.Outcomes.{record_of, accepted}
use Rattle.jws_rules.specs.Rules.{token_rules, segment_rules, signature_rules, verifying, length_rules, signing, Accepted}
use Rattle.jws_rules.specs.Tests.{token_choice, token_record, verified, verify_answer, sign_choice, made, sign_answer}
use Rattle.jws_rules.proofs.RuleLaws.{before_5, before_6, before_7, verify_good, verify_clear, sign_clear}

-- VERIFYING

-- an encoded segment is strict
encoded : {x s : List ℕ} → x ≡ encode s → Bytes s → strict x ≡ true
encoded e b = ap strict e ∙ strict_encode b

-- a token that is made of bytes, and isn't too long, passes the rules before 5, ..
pub made_passes : (q : VerifyCall) {h p m : List ℕ} → Wellformed q.table → Parts q.token h p m → Bytes h → Bytes p → Bytes m → length q.token ≤ token_most
    → NoneOf (earlier (verifying q) 5)
made_passes q table x hb pb mb short =
    before_5 q short table x.two (encoded x.segment1 hb) (encoded x.segment2 pb) (encoded x.segment3 mb)

-- .. those before 7 too where its header is short and both fit, ..
pub made_passes_7 : (q : VerifyCall) {h p m : List ℕ} → Wellformed q.table → Parts q.token h p m → Bytes h → Bytes p → Bytes m → length q.token ≤ token_most
    → length h ≤ longest → length h ≤ q.header_room → length p ≤ q.payload_room → NoneOf (earlier (verifying q) 7)
made_passes_7 q table x hb pb mb short header_short header_fits payload_fits =
    let e = ap length x.header in
    before_7 q (before_6 q (made_passes q table x hb pb mb short) (omega arith)) (omega arith) (omega (arith, ap length x.payload))

-- the header's rules among those of verifying
abbrev header_rules_of : VerifyCall → List Rule
header_rules_of q = jose_rules (header_of q.token) (terms_of q.table)

-- .. and one that is accepted is verified, with its record and its header and payload in the buffers
pub accepted_if : (q : VerifyCall) (h p : List ℕ) (r : Record) → Accepted q h p r → verified q ≡ accepted h p r q
accepted_if q h p r a =
    let hb = header_bytes a.header in
    let pb = a.payload_bytes in
    let mb = mac_bytes (secret_of q.table r.choice) h p in
    let x = parts a.token hb pb mb in
    let d = distinct q.table (λ n. n a.table) in
    let one : header_choice h (keys q.table) ≡ r.choice = sym (header_chooses_one h (terms_of q.table) d r.choice a.header) in
    let chosen : token_choice q ≡ r.choice = ap (λ (y : List ℕ). header_choice y (keys q.table)) x.header ∙ one in
    let details : record_of h p r.choice ≡ r = rw (← a.header_length_lem, ← a.payload_length_lem) in
    verify_good q
    (none_append (earlier (verifying q) 7) (header_rules_of q ++ signature_rules q)
    (made_passes_7 q a.table x hb pb mb a.short a.header_short a.header_fits a.payload_fits)
    (none_append (header_rules_of q) (signature_rules q)
    (subst (λ (y : List ℕ). NoneOf (jose_rules y (terms_of q.table))) (sym x.header) (header_rules_lem a.header))
    ((λ k. let c = header_chooses_one (header_of q.token) (terms_of q.table) d k.0 k.1 in k.2 (x.signature ∙ cc)) also tt)))
    ∙ rw (x.header, x.payload, one) (ap (λ (y : Record). accepted h p y q) details)

-- what isn't false is true
is_true : (b : Bool) → (b ≡ false → ⊥) → b ≡ true
is_true b h = stable (decides_bool b) (λ n. h (test_false (decides_bool b) n))

-- where no rule of verifying holds, none of the header's does
pub header_clear : (q : VerifyCall) → NoneOf (verifying q) → NoneOf (header_rules_of q)
header_clear q n =
    none_left (header_rules_of q) (signature_rules q)
    (none_right (segment_rules q) (header_rules_of q ++ signature_rules q) (none_right (token_rules q) (segment_rules q ++ (header_rules_of q ++ signature_rules q)) n))

-- and a token that is verified is accepted
pub accepted_only : (q : VerifyCall) → verify_answer q ≡ 0
    → Accepted q (header_of q.token) (payload_of q.token) (token_record q)
accepted_only q e =
    let t = q.token in
    let n = verify_clear q e in
    let no = not_on (verifying q) n in
    let two = stable (decides_eq (periods t) 2) (no 3) in
    let s1 = is_true (strict (front t)) (λ x. no 4 (inl x)) in
    let s2 = is_true (strict (front (back t))) (λ x. no 4 (inr (inl x))) in
    let s3 = is_true (strict (back (back t))) (λ x. no 4 (inr (inr x))) in
    let c = header_chooses (header_of t) (terms_of q.table) (distinct q.table (no 2)) (header_clear q n) in
    let signature = stable (decides_same (signature_of t) _) (λ x. no 15 (token_choice q, c, x)) in
    let long : token_most < length t → ⊥ = no 1 in
    let header_long : longest < length (header_of t) → ⊥ = no 5 in
    let header_room_lem : q.header_room < length (header_of t) → ⊥ = λ x. no 6 (inl x) in
    let payload_room_lem : q.payload_room < length (payload_of t) → ⊥ = λ x. no 6 (inr x) in
    record {
      short = omega arith;
      table = stable (decides_good q.table) (no 2);
      token = whole t (secret_of q.table (token_choice q)) two s1 s2 s3 signature;
      header_short = omega arith;
      header_fits = omega arith;
      payload_fits = omega arith;
      payload_bytes = decode_bytes (front (back t)) s2;
      header = c;
      header_length_lem = refl;
      payload_length_lem = refl;
    }

-- SIGNING, THEN VERIFYING

module _ (q : SignCall) where
  -- a header that is signed is in order
  pub sign_header : sign_answer q ≡ 0 → (length q.header ≤ longest) × HeaderChooses q.header (terms_of q.table) (sign_choice q)
  sign_header e =
      let n = sign_clear q e in
      let no = not_on (signing q) n in
      let long : longest < length q.header → ⊥ = no 5 in
      let jose = jose_rules q.header (terms_of q.table) in (
        omega arith,
        header_chooses q.header (terms_of q.table) (distinct q.table (no 2))
            (none_right (opening_rules q.header q.table) jose (none_left (deciding q.header q.table) (length_rules q) n)),
      )

  -- what is signed is accepted, whichever buffers it fits
  pub signed_accepted : sign_answer q ≡ 0 → Bytes q.payload → (hr pr : ℕ) → length q.header ≤ hr → length q.payload ≤ pr
      → Accepted (verify_of (made q) q.table hr pr) q.header q.payload (record_of q.header q.payload (sign_choice q))
  signed_accepted e pb hr pr k l =
      let no = not_on (signing q) (sign_clear q e) in
      let long : token_most < finished_length q.header q.payload → ⊥ = no 1 in
      let header = sign_header e in
      record {
        short = omega (arith, length_token (secret_of q.table (sign_choice q)) q.header q.payload);
        table = stable (decides_good q.table) (no 2);
        token = refl;
        header_short = header.0;
        header_fits = k;
        payload_fits = l;
        payload_bytes = pb;
        header = header.1;
        header_length_lem = refl;
        payload_length_lem = refl;
      }

-- VERIFYING, THEN SIGNING

-- what is accepted is signed again
pub accepted_signed : (q : VerifyCall) (h p : List ℕ) (r : Record) (room : ℕ) → Accepted q h p r → length q.token ≤ room → NoneOf (signing (sign_of h p q.table room))
accepted_signed q h p r room a k =
    let l = ap length a.token ∙ length_token (secret_of q.table r.choice) h p in
    none_append (deciding h q.table) (length_rules (sign_of h p q.table room))
    (none_append (opening_rules h q.table) (jose_rules h (terms_of q.table)) ((λ x. x a.table) also (λ x. omega (arith, a.header_short)) also tt) (header_rules_lem a.header))
    ((λ x. omega (arith, a.short)) also (λ x. omega arith) also tt)
