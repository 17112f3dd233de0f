-- The specification's starred rows on headers, as rows of one theorem; and both sides of the length.
use Rattle.std.specs.Prelude.{◌≡◌, refl, List, [], ◌∷◌, ℕ, suc, ◌≤◌, ◌<◌, length}
use Rattle.std.proofs.Common.{sym, ◌∙◌, arith}
use Prim.Native.String.{String}
use Rattle.common.specs.Same.{same}
use Rattle.common.specs.Ascii.{ascii}
use Rattle.json_grammar_rules.specs.Bytes.{within, is_ws, is_digit, is_digit19, is_e, is_sign, is_hex, hex_val, all_hex, hex4, is_tail, code2, code3, code4, is_high, is_low, is_surrogate, pair_code}
use Rattle.json_grammar_rules.specs.Value.{among, repeated, names, twice, plain, plain_members, string_v, mcons, mnil}
use Rattle.json_grammar_rules.specs.Grammar.{Derivation, bytes, reading_of}
use Rattle.json_grammar_rules.specs.Places.{kind_of, pos, margin, placed, member}
use Rattle.json_grammar_rules.specs.Reader.{read, read_value, read_chars, read_char, char_lead, escape_lead_of, is_unescaped1, past_number, word, value_lead, skip}
use Rattle.json_grammar_rules.proofs.Unique.{one_reading, reads_as}
use Rattle.json_rules.specs.Rules.{longest, deepest}
use Rattle.json_rules.specs.Answers.{Member, Refused, Array, String as Text, place, answer_for}
use Rattle.json_rules.specs.Tests.{header_tests, checked, unless_refused, member_of}
use Rattle.json_rules.proofs.Promises.{header_first}

-- what member k of a header answers
unfoldable pub answers : String → ℕ → Member
unfolding read read_value read_chars read_char char_lead escape_lead_of is_unescaped1 past_number word value_lead skip
    within is_ws is_digit is_digit19 is_e is_sign is_hex hex_val all_hex hex4 is_tail code2 code3 code4 is_high is_low is_surrogate pair_code
    same among repeated names twice plain plain_members kind_of pos margin placed member header_tests checked answer_for unless_refused member_of ascii
answers h k = member_of (ascii h) k

pub rows :
    -- read, one member
    (answers "{\"alg\":\"HS256\"}" 0 ≡ Text (place 2 5) (place 8 13)) × ((k : ℕ) → answers "{\"alg\":\"HS256\"}" (suc k) ≡ Refused 16)
    -- the same name after escapes are resolved
    × ((k : ℕ) → answers "{\"alg\":\"HS256\",\"al\\u0067\":\"HS256\"}" k ≡ Refused 8)
    -- a comma before the closing brace, a low surrogate alone
    × ((k : ℕ) → answers "{\"alg\":\"HS256\",}" k ≡ Refused 7)
    × ((k : ℕ) → answers "{\"alg\":\"HS256\",\"x\":\"\\uDD1E\"}" k ≡ Refused 7)
    -- white space between brackets: read, and one reading
    × (answers "{\"alg\":\"HS256\",\"x\":[ ]}" 0 ≡ Text (place 2 5) (place 8 13)) × (answers "{\"alg\":\"HS256\",\"x\":[ ]}" 1 ≡ Array (place 16 17) (place 19 22))
    × ((k : ℕ) → answers "{\"alg\":\"HS256\",\"x\":[ ]}" (suc (suc k)) ≡ Refused 16)
    × ((t u : Derivation) → bytes t ≡ ascii "{\"alg\":\"HS256\",\"x\":[ ]}" → bytes u ≡ ascii "{\"alg\":\"HS256\",\"x\":[ ]}" → reading_of t ≡ reading_of u)
    -- fifteen arrays nested as a member's value: read; sixteen: 7
    × (answers "{\"x\":[[[[[[[[[[[[[[[]]]]]]]]]]]]]]]}" 0 ≡ Array (place 2 3) (place 5 35))
    × ((k : ℕ) → answers "{\"x\":[[[[[[[[[[[[[[[[]]]]]]]]]]]]]]]]}" k ≡ Refused 7)
unfolding answers
rows = (refl, λ k. refl, λ k. refl, λ k. refl, λ k. refl, refl, refl, λ k. refl, λ t u p q. one_reading t u (p ∙ sym q), refl, λ k. refl)

-- the digits of escapes are small or capital: a name spelled both ways stands twice; U+00E9 and a pair are read
pub spellings :
    ((k : ℕ) → answers "{\"alg\":\"HS256\",\"\\u00e9\":1,\"\\u00E9\":1}" k ≡ Refused 8)
    × (answers "{\"alg\":\"HS256\",\"x\":\"\\u00e9\\uD834\\udd1e\"}" 1 ≡ Text (place 16 17) (place 20 38))
    × ((t : Derivation) → bytes t ≡ ascii "{\"alg\":\"HS256\",\"x\":\"\\u00e9\\uD834\\udd1e\"}"
    → reading_of t ≡ mcons (ascii "alg") (string_v (ascii "HS256")) (mcons (ascii "x") (string_v (0xE9 ∷ 0x1D11E ∷ [])) mnil))
unfolding answers
spellings = (λ k. refl, refl, reads_as deepest _ _ _ refl)

-- BOTH SIDES OF THE LENGTH
module _ (h : List ℕ) where
  pub length_passes : length h ≤ longest → checked h ≡ 5 → ⊥
  length_passes l e = let k = ((header_first h 5 refl).0 e).0 in omega arith

  pub length_refused : longest < length h → checked h ≡ 5
  length_refused l = (header_first h 5 refl).1 (l, tt)

  -- "headers of 4,096 bytes, [..] and of 4,097"
  pub longest_passes : length h ≡ 4096 → checked h ≡ 5 → ⊥
  longest_passes e = length_passes (omega arith)

  pub longer_refused : length h ≡ 4097 → checked h ≡ 5
  longer_refused e = length_refused (omega arith)
