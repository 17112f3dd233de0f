-- What the exported functions promise of the words that they write: all are 0 after a refusal; word 3 of a record is 1 after acceptance; and the payload's length is that of the payload call.
use Rattle.std.specs.Prelude.{◌≡◌, refl, List, ℕ, length, replicate, get_or}
use Rattle.std.proofs.Common.{sym, arith, length-take-le, le-leb}
use Rattle.json_rules.specs.Answers.{Member, String, Number, True, False, Null, Array, Object, Refused, number_of, values_of}
use Rattle.jws_rules.specs.declared.Record.{Record}
use Rattle.jws_rules.specs.Calls.{VerifyCall, SignCall}
use Rattle.jws_rules.specs.Outcomes.{payload, part_length}
use Rattle.jws_rules.specs.Tests.{verified, signed}
use Rattle.jws_rules.proofs.Promises.{verify_zeros, sign_zeros, part_within}
use Rattle.jws_rules.proofs.Naming.{accepted_names}
use Rattle.jws_words.specs.Words.{record_words, verify_gives, verify_words, sign_gives, sign_words, found_words, member_words, payload_word}

-- jws_verify: the nine words and both buffers
pub verify_words_zero : (q : VerifyCall) → ((verify_words (verified q)).number ≡ 0 → ⊥)
    → verify_words (verified q) ≡ verify_gives (verify_words (verified q)).number (replicate 9 0) (replicate q.header_room 0) (replicate q.payload_room 0)
verify_words_zero q n = let z = verify_zeros q n in rw (z.0, z.1, z.2)

-- .. and word 3 is 1 after every acceptance: the header has `kid`
pub verify_word_kid : (q : VerifyCall) → (verify_words (verified q)).number ≡ 0 → get_or (verify_words (verified q)).words 3 0 ≡ 1
verify_word_kid q e = rw (accepted_names q e).1

-- jws_sign: the length and the buffer
pub sign_words_zero : (q : SignCall) → ((sign_words (signed q)).number ≡ 0 → ⊥)
    → sign_words (signed q) ≡ sign_gives (sign_words (signed q)).number 0 (replicate q.room 0)
sign_words_zero q n = let z = sign_zeros q n in rw (z.0, z.1)

-- jws_member: the five words
pub member_words_zero : (m : Member) → (number_of m ≡ 0 → ⊥) → member_words m ≡ replicate 5 0
unfolding number_of member_words found_words values_of
member_words_zero (String a b) n = absurd (n refl)
member_words_zero (Number a b) n = absurd (n refl)
member_words_zero (True a b) n = absurd (n refl)
member_words_zero (False a b) n = absurd (n refl)
member_words_zero (Null a b) n = absurd (n refl)
member_words_zero (Array a b) n = absurd (n refl)
member_words_zero (Object a b) n = absurd (n refl)
member_words_zero (Refused x) n = refl

-- jws_payload: of a record's words, the length of the part that the payload call lends of any buffer; 0 of the words of a refusal
pub payload_word_lem : (r : Record) (b : List ℕ) → payload_word (record_words r) (length b) ≡ length (payload r b)
payload_word_lem r b = sym (length-take-le (part_length r.payload_length (length b)) b (part_within r.payload_length (length b)))

pub payload_word_zero : (room : ℕ) → payload_word (replicate 9 0) room ≡ 0
unfolding part_length
payload_word_zero room = rw (le-leb 0 room (omega arith))
