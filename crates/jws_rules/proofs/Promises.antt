-- The promises of verifying, signing and the payload call, for all inputs, as theorems on `verified`, `signed` and `payload`. The functions stand in crates `jws`,
-- `jws_payload` and `jws_signing`; their contracts say that they give exactly these. q: what a call is lent (Calls).
use Rattle.std.specs.Prelude.{◌≡◌, refl, ◌⊎◌, ◌↔◌, Bool, true, false, cond, List, [], ◌∷◌, ℕ, ◌-◌, ◌≤◌, ◌<◌, length, take, replicate, leb}
use Rattle.std.proofs.Common.{sym, ap, ◌∙◌, ⊎_elim, arith, length-append, le-leb, leb-true, le-ltb}
use Rattle.std.proofs.Math.Seq.{take-append_seam}
use Rattle.std.proofs.lemmas.Bool.{lt-leb}
use Rattle.common.specs.Bytes.{Bytes}
use Rattle.common.specs.Buffer.{filled}
use Rattle.common.specs.First.{NoneOf, condition, earlier, numbers, among}
use Rattle.common.proofs.FirstLaws.{first_stands, none_stands, in_range_lem, not_on, earlier_next, ◌also◌}
use Rattle.json_rules.specs.Rules.{longest, header_rules}
use Rattle.json_rules.specs.Tests.{member_number, Read}
use Rattle.json_rules.proofs.Promises.{member_first}
use Rattle.json_rules.proofs.Demand3.{read_exactly}
use Rattle.keytable_rules.specs.Table.{Wellformed}
use Rattle.jose_rules.specs.declared.Choice.{Choice}
use Rattle.jose_rules.specs.Rules.{Terms, terms_of}
use Rattle.jose_rules.specs.Header.{HeaderChooses}
use Rattle.jose_rules.proofs.HeaderLaws.{header_chooses_one}
use Rattle.jose_rules.proofs.Promises.{distinct}
use Rattle.jws_rules.specs.declared.Record.{Record}
use Rattle.jws_rules.specs.Calls.{VerifyCall, verify_of, SignCall, sign_of}
use Rattle.jws_rules.specs.Token.{token_of, finished_length, header_of, payload_of, secret_of}
use Rattle.jws_rules.specs.Outcomes.{VerifyOutcome, SignOutcome, record_of, zero_record, accepted, part_length, payload, signed_as, header_in, payload_in, token_in}
use Rattle.jws_rules.specs.Rules.{verifying, signing, Accepted}
use Rattle.jws_rules.specs.Tests.{token_choice, token_record, verified, verify_answer, sign_choice, made_by, made, signed, sign_answer}
use Rattle.jws_rules.proofs.RuleLaws.{verify_agree, verify_number, verify_is, verify_bad, sign_agree, sign_number, sign_good, sign_is, sign_bad}
use Rattle.jws_rules.proofs.AcceptedLaws.{accepted_if, accepted_only, sign_header, signed_accepted, accepted_signed}

-- The payload call hands back a part of the buffer, as long as the record says; "for a record that asks for more than the buffer has, the part is empty".
pub part_within : (n room : ℕ) → part_length n room ≤ room
unfolding part_length
part_within n room = go (leb n room) refl
  where
    go : (b : Bool) → leb n room ≡ b → cond b n 0 ≤ room
    go true e = leb-true n room e
    go false e = omega arith

pub payload_part : (r : Record) (b : List ℕ) → r.payload_length ≤ length b → payload r b ≡ take r.payload_length b
unfolding part_length
payload_part r b k = rw (le-leb r.payload_length (length b) k)

pub payload_short : (r : Record) (b : List ℕ) → length b < r.payload_length → payload r b ≡ []
unfolding part_length
payload_short r b k = rw (lt-leb r.payload_length (length b) k)

-- DEMAND 1

-- `verified` answers one of 0 to 15, ..
pub verify_answers : (q : VerifyCall) → among (verify_answer q) (0 ∷ 1 ∷ 2 ∷ 3 ∷ 4 ∷ 5 ∷ 6 ∷ 7 ∷ 8 ∷ 9 ∷ 10 ∷ 11 ∷ 12 ∷ 13 ∷ 14 ∷ 15 ∷ []) ≡ true
verify_answers q = rw verify_number (in_range_lem (verify_agree q))

-- .. `signed` one of 0, 1, 2, 5 to 14.
pub sign_answers : (q : SignCall) → among (sign_answer q) (0 ∷ 2 ∷ 5 ∷ 7 ∷ 8 ∷ 9 ∷ 10 ∷ 11 ∷ 12 ∷ 13 ∷ 14 ∷ 1 ∷ 6 ∷ []) ≡ true
sign_answers q = rw sign_number (in_range_lem (sign_agree q))

-- The record of a refusal has a 0 in each place.
pub zero_record_lem :
    (zero_record.header_length ≡ 0) × (zero_record.payload_length ≡ 0) × (zero_record.choice.key_index ≡ 0) × (zero_record.choice.kid_present ≡ false)
    × (zero_record.choice.format ≡ 0) × (zero_record.choice.typ.start ≡ 0) × (zero_record.choice.typ.length ≡ 0)
    × (zero_record.choice.cty.start ≡ 0) × (zero_record.choice.cty.length ≡ 0)
zero_record_lem = (refl, refl, refl, refl, refl, refl, refl, refl, refl)

-- Where the answer isn't 0: the record is all zeros, and each lent buffer is zeros end to end; ..
pub verify_zeros : (q : VerifyCall) → (verify_answer q ≡ 0 → ⊥)
    → ((verified q).gives.details ≡ zero_record) × ((verified q).header ≡ replicate q.header_room 0) × ((verified q).payload ≡ replicate q.payload_room 0)
verify_zeros q n =
    let e = verify_bad q n in
    (ap (λ (v : VerifyOutcome). v.gives.details) e, ap (λ (v : VerifyOutcome). v.header) e, ap (λ (v : VerifyOutcome). v.payload) e)

pub sign_zeros : (q : SignCall) → (sign_answer q ≡ 0 → ⊥) → ((signed q).gives.length ≡ 0) × ((signed q).token ≡ replicate q.room 0)
sign_zeros q n =
    let e = sign_bad q n in
    (ap (λ (s : SignOutcome). s.gives.length) e, ap (λ (s : SignOutcome). s.token) e)

-- .. and the payload that is handed back is empty, whichever buffer is given.
pub payload_refused : (q : VerifyCall) → (verify_answer q ≡ 0 → ⊥) → (b : List ℕ) → payload (verified q).gives.details b ≡ []
payload_refused q n b = ap (λ (r : Record). payload r b) (verify_zeros q n).0 ∙ payload_part zero_record b (omega arith)

-- On 0 the header buffer is the header and then zeros, the payload buffer the payload and then zeros, ..
pub verify_fills : (q : VerifyCall) → verify_answer q ≡ 0
    → ((verified q).header ≡ filled q.header_room (header_of q.token)) × ((verified q).payload ≡ filled q.payload_room (payload_of q.token))
verify_fills q e =
    let f = verify_is q e in
    (ap (λ (v : VerifyOutcome). v.header) f, ap (λ (v : VerifyOutcome). v.payload) f)

-- .. and after signing "the buffer begins with the token, the rest is zero, and the token's length is told".
pub sign_fills : (q : SignCall) → sign_answer q ≡ 0 → signed q ≡ signed_as (made q) q.room
sign_fills = sign_is

-- DEMAND 2

-- FIRST REFUSAL: the answer is n exactly when the condition of n holds and no earlier one does; 0 exactly when none holds.
pub verify_first : (q : VerifyCall) (n : ℕ) → among n (numbers (verifying q)) ≡ true
    → (verify_answer q ≡ n) ↔ (condition (verifying q) n × NoneOf (earlier (verifying q) n))
verify_first q n e = rw verify_number (first_stands (verify_agree q) refl n e)

pub verify_none : (q : VerifyCall) → (verify_answer q ≡ 0) ↔ NoneOf (verifying q)
verify_none q = rw verify_number (none_stands (verify_agree q) refl)

pub sign_first : (q : SignCall) (n : ℕ) → among n (numbers (signing q)) ≡ true
    → (sign_answer q ≡ n) ↔ (condition (signing q) n × NoneOf (earlier (signing q) n))
sign_first q n e = rw sign_number (first_stands (sign_agree q) refl n e)

pub sign_none : (q : SignCall) → (sign_answer q ≡ 0) ↔ NoneOf (signing q)
sign_none q = rw sign_number (none_stands (sign_agree q) refl)

-- ACCEPTED EXACTLY WHEN a header, a payload and a record make the token, by a statement with no decoder and no parser; ..
pub accepted_exactly : (q : VerifyCall) → (verify_answer q ≡ 0) ↔ ((h : List ℕ) × (p : List ℕ) × (r : Record) × Accepted q h p r)
accepted_exactly q = (
  (λ e. (header_of q.token, payload_of q.token, token_record q, accepted_only q e)),
  (λ a. ap (λ (v : VerifyOutcome). v.gives.answer) (accepted_if q a.0 a.1 a.2 a.3)),
)

-- .. and then the record and the buffers are exactly theirs.
pub accepted_gives : (q : VerifyCall) (h p : List ℕ) (r : Record) → Accepted q h p r → verified q ≡ accepted h p r q
accepted_gives = accepted_if

-- WHAT IS SIGNED is the token under the secret of the key that the header chooses. No reader is mentioned.
pub made_token : (q : SignCall) → Wellformed q.table → (c : Choice) → HeaderChooses q.header (terms_of q.table) c
    → made q ≡ token_of (secret_of q.table c) q.header q.payload
made_token q table c w = ap (made_by q) (sym (header_chooses_one q.header (terms_of q.table) (distinct q.table (λ n. n table)) c w))

pub sign_gives_lem : (q : SignCall) → sign_answer q ≡ 0 → (c : Choice) × HeaderChooses q.header (terms_of q.table) c × (signed q ≡ signed_as (token_of (secret_of q.table c) q.header q.payload) q.room)
sign_gives_lem q e = (sign_choice q, (sign_header q e).1, sign_is q e)

-- THE PAYLOAD CALL, given a payload's length and the buffer that it fills, hands the payload back.
pub payload_back : (p : List ℕ) (pr : ℕ) (r : Record) → r.payload_length ≡ length p → payload r (filled pr p) ≡ p
payload_back p pr r e =
    payload_part r (filled pr p) (omega (arith, length-append p (replicate (pr - length p) 0)))
    ∙ rw e (take-append_seam p _)

-- So what verifying gives holds the accepted header, the payload call on it hands the accepted payload back, ..
module _ (q : VerifyCall) (h p : List ℕ) (r : Record) (a : Accepted q h p r) where
  pub accepted_header : header_in (verified q) ≡ h
  accepted_header = ap header_in (accepted_if q h p r a) ∙ rw a.header_length_lem (take-append_seam h _)

  pub accepted_payload : payload_in (verified q) ≡ p
  accepted_payload = ap payload_in (accepted_if q h p r a) ∙ payload_back p q.payload_room r a.payload_length_lem

  -- .. and signing these makes the token again.
  pub accepted_again : (room : ℕ) → length q.token ≤ room → signed (sign_of h p q.table room) ≡ signed_as q.token room
  accepted_again room k =
      sign_good (sign_of h p q.table room) (accepted_signed q h p r room a k)
      ∙ ap (λ (x : List ℕ). signed_as x room) (made_token (sign_of h p q.table room) a.table r.choice a.header ∙ sym a.token)

-- SIGN, THEN VERIFY: the token is accepted, with the header and the payload that went in and what the header decides
pub sign_verify : (q : SignCall) → sign_answer q ≡ 0 → Bytes q.payload → (hr pr : ℕ) → length q.header ≤ hr → length q.payload ≤ pr
    → let v = verify_of (token_in (signed q)) q.table hr pr in
    (c : Choice) × HeaderChooses q.header (terms_of q.table) c × (verified v ≡ accepted q.header q.payload (record_of q.header q.payload c) v)
sign_verify q e pb hr pr k l =
    let v : List ℕ → VerifyCall = λ t. verify_of t q.table hr pr in (
      sign_choice q,
      (sign_header q e).1,
      ap (λ (s : SignOutcome). verified (v (token_in s))) (sign_is q e)
          ∙ ap (λ (t : List ℕ). verified (v t)) (take-append_seam (made q) _)
          ∙ accepted_if (v (made q)) q.header q.payload (record_of q.header q.payload (sign_choice q)) (signed_accepted q e pb hr pr k l),
    )

-- VERIFY, THEN SIGN
pub verify_sign : (q : VerifyCall) → verify_answer q ≡ 0 → (room : ℕ) → length q.token ≤ room
    → signed (sign_of (header_in (verified q)) (payload_in (verified q)) q.table room) ≡ signed_as q.token room
verify_sign q e room k =
    let a = accepted_only q e in
    let h = header_of q.token in
    let p = payload_of q.token in
    let r = record_of h p (token_choice q) in
    ap (λ (x : List ℕ). signed (sign_of x (payload_in (verified q)) q.table room)) (accepted_header q h p r a)
    ∙ ap (λ (x : List ℕ). signed (sign_of h x q.table room)) (accepted_payload q h p r a)
    ∙ accepted_again q h p r a room k

-- ANSWER 6: "a buffer can't hold what belongs in it". "No buffer is refused for being too long."
module _ (q : VerifyCall) (fits : length (header_of q.token) ≤ q.header_room) (fits' : length (payload_of q.token) ≤ q.payload_room) where
  pub verify_room : verify_answer q ≡ 6 → ⊥
  verify_room e = ⊎_elim (λ x. omega arith) (λ x. omega arith) ((verify_first q 6 refl).0 e).0

-- beyond what it must hold, a buffer's length changes no answer
module _ (t T : List ℕ) (hr pr : ℕ) where
  pub header_longer : length (header_of t) ≤ hr → (hr' : ℕ) → length (header_of t) ≤ hr' → verify_answer (verify_of t T hr' pr) ≡ verify_answer (verify_of t T hr pr)
  header_longer k hr' l = rw (verify_number (verify_of t T hr pr), verify_number (verify_of t T hr' pr), le-ltb hr _ k, le-ltb hr' _ l)

  pub payload_longer : length (payload_of t) ≤ pr → (pr' : ℕ) → length (payload_of t) ≤ pr' → verify_answer (verify_of t T hr pr') ≡ verify_answer (verify_of t T hr pr)
  payload_longer k pr' l = rw (verify_number (verify_of t T hr pr), verify_number (verify_of t T hr pr'), le-ltb pr _ k, le-ltb pr' _ l)

module _ (h p T : List ℕ) (room : ℕ) (fits : finished_length h p ≤ room) where
  pub sign_room : sign_answer (sign_of h p T room) ≡ 6 → ⊥
  sign_room e = let x = ((sign_first (sign_of h p T room) 6 refl).0 e).0 in omega arith

  pub sign_longer : (room' : ℕ) → finished_length h p ≤ room' → sign_answer (sign_of h p T room') ≡ sign_answer (sign_of h p T room)
  sign_longer room' k = rw (sign_number (sign_of h p T room), sign_number (sign_of h p T room'), le-ltb room _ fits, le-ltb room' _ k)

-- DEMAND 3

in_order_read : {h : List ℕ} {q : Terms} {c : Choice} → length h ≤ longest → HeaderChooses h q c → Read h
in_order_read {h} l w = (read_exactly h).1 (l, (w.derivation, w.derives, w.shallow, w.once))

-- "To a header that isn't read it gives one refusal of 5, 7 and 8, the same for every k; verifying and signing give that one too unless a rule before it refuses, and 0 only for a header that is read": ..
pub verify_reads : (q : VerifyCall) → verify_answer q ≡ 0 → Read (header_of q.token)
verify_reads q e = let a = accepted_only q e in in_order_read a.header_short a.header

pub sign_reads : (q : SignCall) → sign_answer q ≡ 0 → Read q.header
sign_reads q e = let x = sign_header q e in in_order_read x.0 x.1

-- .. and 5, 7 and 8 are those of the member call, whichever member k it is asked for.
module _ (q : VerifyCall) (k : ℕ) where
  pub verify_5_as_member : NoneOf (earlier (verifying q) 5) → (verify_answer q ≡ 5) ↔ (member_number (header_of q.token) k ≡ 5)
  verify_5_as_member n =
      let v = verify_first q 5 refl in
      let m = member_first (header_of q.token) k 5 refl in
      ((λ e. m.1 ((v.0 e).0, tt)), (λ e. v.1 ((m.0 e).0, n)))

  module _ (n : NoneOf (earlier (verifying q) 7)) where
    no : (m : ℕ) → condition (earlier (verifying q) 7) m → ⊥
    no = not_on (earlier (verifying q) 7) n

    pub verify_7_as_member : (verify_answer q ≡ 7) ↔ (member_number (header_of q.token) k ≡ 7)
    verify_7_as_member =
        let v = verify_first q 7 refl in
        let m = member_first (header_of q.token) k 7 refl in
        ((λ e. m.1 ((v.0 e).0, no 5 also tt)), (λ e. v.1 ((m.0 e).0, n)))

    pub verify_8_as_member : (verify_answer q ≡ 8) ↔ (member_number (header_of q.token) k ≡ 8)
    verify_8_as_member =
        let v = verify_first q 8 refl in
        let m = member_first (header_of q.token) k 8 refl in (
          (λ e. let w = v.0 e in m.1 (w.0, no 5 also not_on (earlier (verifying q) 8) w.1 7 also tt)),
          (λ e. let w = m.0 e in v.1 (w.0, earlier_next (verifying q) 7 8 refl n (not_on (earlier (header_rules (header_of q.token)) 8) w.1 7))),
        )

-- in signing, only 2 stands before 5
module _ (q : SignCall) (k : ℕ) (table : Wellformed q.table) where
  past_2 : NoneOf (earlier (signing q) 5)
  past_2 = earlier_next (signing q) 2 5 refl tt (λ n. n table)

  past_5 : (longest < length q.header → ⊥) → NoneOf (earlier (signing q) 7)
  past_5 short = earlier_next (signing q) 5 7 refl past_2 short

  pub sign_5_as_member : (sign_answer q ≡ 5) ↔ (member_number q.header k ≡ 5)
  sign_5_as_member =
      let s = sign_first q 5 refl in
      let m = member_first q.header k 5 refl in
      ((λ e. m.1 ((s.0 e).0, tt)), (λ e. s.1 ((m.0 e).0, past_2)))

  pub sign_7_as_member : (sign_answer q ≡ 7) ↔ (member_number q.header k ≡ 7)
  sign_7_as_member =
      let s = sign_first q 7 refl in
      let m = member_first q.header k 7 refl in (
        (λ e. let w = s.0 e in m.1 (w.0, not_on (earlier (signing q) 7) w.1 5 also tt)),
        (λ e. let w = m.0 e in s.1 (w.0, past_5 (not_on (earlier (header_rules q.header) 7) w.1 5))),
      )

  pub sign_8_as_member : (sign_answer q ≡ 8) ↔ (member_number q.header k ≡ 8)
  sign_8_as_member =
      let s = sign_first q 8 refl in
      let m = member_first q.header k 8 refl in (
        (λ e. let w = s.0 e in let no = not_on (earlier (signing q) 8) w.1 in m.1 (w.0, no 5 also no 7 also tt)),
        (λ e. let w = m.0 e in let no = not_on (earlier (header_rules q.header) 8) w.1 in s.1 (w.0, earlier_next (signing q) 7 8 refl (past_5 (no 5)) (no 7))),
      )
