-- The rules and their tests agree; what the calls give, by the first test that is true.
use Rattle.std.specs.Prelude.{◌≡◌, Bool, true, false, not, ℕ, ◌≤◌, length}
use Rattle.std.proofs.Math.Path.{refl, ap}
use Rattle.std.proofs.Common.{sym, ◌∙◌, ⊎_elim, arith}
use Rattle.common.specs.First.{NoneOf, earlier, first, Decides, Agree, done, ◌by◌}
use Rattle.common.proofs.FirstLaws.{settle_good, settle_bad, settle_answer, not_on, earlier_next, ◌also◌, none_stands, agree_append, decides_bool, decides_lt, decides_eq, decides_not, decides_or, decides_iff}
use Rattle.common.proofs.Decided.{when_false, decides_false}
use Rattle.common.specs.Same.{same}
use Rattle.common.proofs.SameLaws.{decides_same}
use Rattle.base64url_rules.specs.Base64url.{strict}
use Rattle.hmac.specs.Hmac.{HMACSHA256}
use Rattle.json_rules.specs.Rules.{longest}
use Rattle.keytable_rules.specs.Key.{Distinct}
use Rattle.keytable_rules.specs.Table.{Wellformed, keys}
use Rattle.keytable_rules.proofs.TableLaws.{decides_bad}
use Rattle.jose_rules.specs.Rules.{terms_of}
use Rattle.jose_rules.specs.Header.{jose_rules}
use Rattle.jose_rules.proofs.HeaderLaws.{jose_agree, header_chooses, header_chooses_one}
use Rattle.jose_rules.proofs.Promises.{distinct, deciding_agree}
use Rattle.jws_rules.specs.Calls.{VerifyCall, SignCall}
use Rattle.jws_rules.specs.Segments.{periods, front, back}
use Rattle.jws_rules.specs.Token.{token_most, finished_length, header_of, payload_of, signature_of, sent_input, secret_of}
use Rattle.jws_rules.specs.Outcomes.{VerifyOutcome, SignOutcome, refused, accepted, unsigned, signed_as}
use Rattle.jws_rules.specs.Rules.{token_rules, segment_rules, Differs, verifying, length_rules, signing}
use Rattle.jws_rules.specs.Tests.{token_choice, token_record, token_tests, segment_tests, verify_tests, verified, verify_answer, length_tests, sign_tests, made, signed, sign_answer}

-- a test isn't both
not_both : {b : Bool} → b ≡ true → b ≡ false → ⊥
not_both e k = when_false (decides_bool _) k e

-- VERIFYING
module _ (q : VerifyCall) where
  decides_differs : Distinct (keys q.table) → NoneOf (jose_rules (header_of q.token) (terms_of q.table))
      → Decides (Differs q) (not (same (signature_of q.token) (HMACSHA256 (secret_of q.table (token_choice q)) (sent_input q.token))))
  decides_differs d n =
      let h = header_of q.token in
      decides_iff (λ x. (token_choice q, header_chooses h (terms_of q.table) d n, x))
      (λ x e. x.2 (e ∙ ap (λ c. HMACSHA256 (secret_of q.table c) (sent_input q.token)) (sym (header_chooses_one h (terms_of q.table) d x.0 x.1))))
      (decides_not (decides_same _ _))

  -- phase by phase
  token_agree : Agree (token_rules q) (token_tests q)
  token_agree =
      decides_lt _ _
      by λ _. decides_bad q.table
      by λ _. decides_not (decides_eq _ _)
      by λ _. done

  segment_agree : Agree (segment_rules q) (segment_tests (front q.token) (front (back q.token)) (back (back q.token)) q.header_room q.payload_room)
  segment_agree =
      decides_or (decides_false _) (decides_or (decides_false _) (decides_false _))
      by λ _. decides_lt _ _
      by λ _. decides_or (decides_lt _ _) (decides_lt _ _)
      by λ _. done

  pub verify_agree : Agree (verifying q) (verify_tests q)
  verify_agree =
      agree_append token_agree (λ opened.
      let d = distinct q.table (not_on (token_rules q) opened 2) in
      agree_append segment_agree (λ _.
      agree_append (jose_agree (header_of q.token) (terms_of q.table) d) (λ n.
      decides_differs d n by λ _. done)))

  -- which rules a token passes: those before 5 by its length, the table, its periods and its segments; 5 by its header's length; 6 by the buffers'
  pub before_5 : length q.token ≤ token_most → Wellformed q.table → periods q.token ≡ 2
      → strict (front q.token) ≡ true → strict (front (back q.token)) ≡ true → strict (back (back q.token)) ≡ true → NoneOf (earlier (verifying q) 5)
  before_5 short table two s1 s2 s3 =
      (λ k. omega arith) also (λ k. k table) also (λ k. k two) also ⊎_elim (not_both s1) (⊎_elim (not_both s2) (not_both s3)) also tt

  pub before_6 : NoneOf (earlier (verifying q) 5) → length (header_of q.token) ≤ longest → NoneOf (earlier (verifying q) 6)
  before_6 n short = earlier_next (verifying q) 5 6 refl n (λ k. omega arith)

  pub before_7 : NoneOf (earlier (verifying q) 6) → length (header_of q.token) ≤ q.header_room → length (payload_of q.token) ≤ q.payload_room
      → NoneOf (earlier (verifying q) 7)
  before_7 n fits fits' = earlier_next (verifying q) 6 7 refl n (⊎_elim (λ k. omega arith) (λ k. omega arith))

  pub verify_number : verify_answer q ≡ first (verify_tests q)
  unfolding verified
  verify_number = settle_answer (λ (v : VerifyOutcome). v.gives.answer) (first (verify_tests q)) _ _ refl (λ m. refl)

  pub verify_good : NoneOf (verifying q)
      → verified q ≡ accepted (header_of q.token) (payload_of q.token) (token_record q) q
  unfolding verified
  verify_good h = settle_good _ _ _ ((none_stands verify_agree refl).1 h)

  -- on 0 no condition holds, and what is given is read off the token
  pub verify_clear : verify_answer q ≡ 0 → NoneOf (verifying q)
  verify_clear e = (none_stands verify_agree refl).0 (sym verify_number ∙ e)

  pub verify_is : verify_answer q ≡ 0
      → verified q ≡ accepted (header_of q.token) (payload_of q.token) (token_record q) q
  verify_is e = verify_good (verify_clear e)

  pub verify_bad : (verify_answer q ≡ 0 → ⊥) → verified q ≡ refused (verify_answer q) q
  unfolding verified
  verify_bad h =
      settle_bad (first (verify_tests q)) _ (λ n. refused n q) (λ e. h (verify_number ∙ e))
      ∙ ap (λ (n : ℕ). refused n q) (sym verify_number)

-- SIGNING
module _ (q : SignCall) where
  length_agree : Agree (length_rules q) (length_tests (finished_length q.header q.payload) q.room)
  length_agree = decides_lt _ _ by λ _. decides_lt _ _ by λ _. done

  pub sign_agree : Agree (signing q) (sign_tests q)
  sign_agree = agree_append (deciding_agree q.header q.table) (λ _. length_agree)

  pub sign_number : sign_answer q ≡ first (sign_tests q)
  unfolding signed
  sign_number = settle_answer (λ (s : SignOutcome). s.gives.answer) (first (sign_tests q)) _ _ refl (λ m. refl)

  pub sign_good : NoneOf (signing q) → signed q ≡ signed_as (made q) q.room
  unfolding signed
  sign_good k = settle_good _ _ _ ((none_stands sign_agree refl).1 k)

  pub sign_clear : sign_answer q ≡ 0 → NoneOf (signing q)
  sign_clear e = (none_stands sign_agree refl).0 (sym sign_number ∙ e)

  pub sign_is : sign_answer q ≡ 0 → signed q ≡ signed_as (made q) q.room
  sign_is e = sign_good (sign_clear e)

  pub sign_bad : (sign_answer q ≡ 0 → ⊥) → signed q ≡ unsigned (sign_answer q) q.room
  unfolding signed
  sign_bad k =
      settle_bad (first (sign_tests q)) _ (λ n. unsigned n q.room) (λ e. k (sign_number ∙ e))
      ∙ ap (λ (n : ℕ). unsigned n q.room) (sym sign_number)
