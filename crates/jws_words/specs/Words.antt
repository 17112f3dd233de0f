-- The answers as words: a member's five, a record's nine, a token's length and a payload's; and the boundary's number.
use Rattle.std.specs.Prelude.{cond, List, [], ◌∷◌, ℕ, get_or}
use Rattle.std.proofs.Math.Option.{Option, none, some}
use Rattle.json_grammar_rules.specs.Places.{MemberPlaces}
use Rattle.json_rules.specs.Answers.{Member, values_of, kind_number}
use Rattle.jws_rules.specs.declared.Record.{Record}
use Rattle.jws_rules.specs.Outcomes.{VerifyOutcome, SignOutcome, part_length}

-- the kind's number, the name's start and end, the value's start and end; zeros where no member is shown
unfoldable pub found_words : Option MemberPlaces → List ℕ
found_words none = 0 ∷ 0 ∷ 0 ∷ 0 ∷ 0 ∷ []
found_words (some m) = kind_number m.kind ∷ m.name_start ∷ m.name_end ∷ m.value_start ∷ m.value_end ∷ []

unfoldable pub member_words : Member → List ℕ
member_words m = found_words (values_of m)

-- the lengths of header and payload, the key's index, 1 if `kid` was there and 0 if not, the format, and start and length of `typ` and of `cty`
abbrev pub record_words : Record → List ℕ
record_words r =
    r.header_length
    ∷ r.payload_length
    ∷ r.choice.key_index
    ∷ cond r.choice.kid_present 1 0
    ∷ r.choice.format
    ∷ r.choice.typ.start
    ∷ r.choice.typ.length
    ∷ r.choice.cty.start
    ∷ r.choice.cty.length
    ∷ []

-- VERIFYING: the number, the record's words, and the two lent buffers
pub record VerifyWords : Type 0 where
  pub number : ℕ
  pub words : List ℕ
  pub header : List ℕ
  pub payload : List ℕ

abbrev pub verify_gives : ℕ → List ℕ → List ℕ → List ℕ → VerifyWords
verify_gives n words header payload = record { number = n; words = words; header = header; payload = payload }

abbrev pub verify_words : VerifyOutcome → VerifyWords
verify_words v = verify_gives v.gives.answer (record_words v.gives.details) v.header v.payload

-- SIGNING: the number, the token's length, and the lent buffer
pub record SignWords : Type 0 where
  pub number : ℕ
  pub size : ℕ
  pub token : List ℕ

abbrev pub sign_gives : ℕ → ℕ → List ℕ → SignWords
sign_gives n size token = record { number = n; size = size; token = token }

abbrev pub sign_words : SignOutcome → SignWords
sign_words s = sign_gives s.gives.answer s.gives.length s.token

-- THE PAYLOAD: the length of its part of a buffer of so many bytes, by the record's words
abbrev pub payload_word : List ℕ → ℕ → ℕ
payload_word words room = part_length (get_or words 1 0) room

-- THE BOUNDARY: its number, JWS_BOUNDARY of include/jws.h; it goes up when a function takes other arguments or a record has other words
abbrev pub boundary : ℕ
boundary = 1
