-- The definitions, run on examples.
use Rattle.std.specs.Prelude.{◌≡◌, refl, Bool, true, false, List, [], ◌∷◌, ◌++◌, ℕ, zero, suc}
use Rattle.std.proofs.Common.{sym, ◌∙◌}
use Rattle.std.proofs.Math.Option.{Option, some}
use Prim.Native.String.{String}
use Rattle.common.specs.Same.{same}
use Rattle.common.specs.Ascii.{ascii}
use Rattle.json_grammar_rules.specs.Bytes.{within, is_ws, is_digit, is_digit19, is_e, is_sign, is_unescaped, is_hex, hex_val, all_hex, hex4, is_tail, code2, code3, code4}
use Rattle.json_grammar_rules.specs.Bytes.{is_high, is_low, is_surrogate, pair_code}
use Rattle.json_grammar_rules.specs.Value.{Value, Members, string_v, number_v, true_v, false_v, null_v, array_v, object_v, vnil, vcons, mnil, mcons, depth}
use Rattle.json_grammar_rules.specs.Value.{among, repeated, names, twice, LMembers, plain, plain_members}
use Rattle.json_grammar_rules.specs.Grammar.{Many, none, more, Token, Derivation, object_of, pair, mend, array_t, array0, Chars, ccons, cnil, unescaped, utf8_1}
use Rattle.json_grammar_rules.specs.Grammar.{yield_many, yield_token, yield_from, yield_utf8, yield_char, yield_chars, yield_string, yield_value, bytes}
use Rattle.json_grammar_rules.specs.Grammar.{code_utf8, code_of, Derived}
use Rattle.json_grammar_rules.specs.Grammar.{codes_of, reading_value, reading_of, depth_of, from_array, past_array, located_value, members_of}
use Rattle.json_grammar_rules.specs.declared.Kind.{Kind}
use Rattle.json_grammar_rules.specs.Places.{kind_of, MemberPlaces, pos, margin}
use Rattle.json_grammar_rules.specs.Places.{placed, member}
use Rattle.json_grammar_rules.specs.Reader.{Got, bad, got, over, skip, is_unescaped1, char_lead, escape_lead_of, read_char, read_chars, past_number, word, value_lead}
use Rattle.json_grammar_rules.specs.Reader.{read_value, read}
use Rattle.json_grammar_rules.proofs.Unique.{not_derived, unique, one_reading}

-- what a text reads as, at most 8 deep: a depth for these examples, and not the limit of a header
unfoldable reading : List ℕ → Got Members
unfolding read read_value read_chars read_char char_lead escape_lead_of past_number word value_lead skip is_unescaped1 plain ascii
    within is_ws is_digit is_digit19 is_e is_sign is_hex hex_val all_hex hex4 is_tail code2 code3 code4 is_high is_low is_surrogate pair_code
reading s = over plain_members (read 8 s)

-- {"x":v}
unfoldable header : List ℕ → List ℕ
header v = ascii "{\"x\":" ++ v ++ ascii "}"

-- {"x":v} reads as v'; {"x":v} isn't read
abbrev Reads : List ℕ → Value → Type 0
Reads v v' = reading (header v) ≡ got (mcons (ascii "x") v' mnil) []

abbrev Bad : List ℕ → Type 0
Bad v = reading (header v) ≡ bad

-- member k of a header: its kind and places
unfoldable shown_in : List ℕ → ℕ → Got LMembers → Option MemberPlaces
unfolding member placed pos margin kind_of plain
shown_in s k bad = Option.none
shown_in s k (got ms r) = member s k ms

unfoldable shown : List ℕ → ℕ → Option MemberPlaces
unfolding reading shown_in
shown s k = shown_in s k (read 8 s)

-- a name stands twice in one object
abbrev twice_in_lem : Got Members → Bool
twice_in_lem bad = false
twice_in_lem (got ms r) = twice (object_v ms)

unfoldable doubled : List ℕ → Bool
unfolding reading twice names repeated among same
doubled s = twice_in_lem (reading s)

-- STARRED ROWS OF THE SPECIFICATION

alg : List ℕ
alg = ascii "alg"

hs256 : List ℕ
hs256 = ascii "HS256"

only_alg : List ℕ
only_alg = ascii "{\"alg\":\"HS256\"}"

by_escape : List ℕ
by_escape = ascii "{\"alg\":\"HS256\",\"al\\u0067\":\"HS256\"}"

empty_array : List ℕ
empty_array = ascii "{\"alg\":\"HS256\",\"x\":[ ]}"

-- read, one member
one_member : (reading only_alg ≡ got (mcons alg (string_v hs256) mnil) [])
    × (shown only_alg 0 ≡ some (record { kind = Kind.String; name_start = 2; name_end = 5; value_start = 8; value_end = 13 }))
    × (shown only_alg 1 ≡ Option.none)
unfolding reading shown only_alg alg hs256
one_member = (refl, refl, refl)

-- the same name twice after the escape is resolved
name_by_escape : (reading by_escape ≡ got (mcons alg (string_v hs256) (mcons alg (string_v hs256) mnil)) []) × (doubled by_escape ≡ true)
    × (doubled only_alg ≡ false)
unfolding reading doubled by_escape only_alg alg hs256
name_by_escape = (refl, refl, refl)

-- not derived within the depth
trailing_comma : Derived 8 (ascii "{\"alg\":\"HS256\",}") → ⊥
unfolding reading
trailing_comma = not_derived 8 _ refl

low_surrogate_alone : Derived 8 (ascii "{\"alg\":\"HS256\",\"x\":\"\\uDD1E\"}") → ⊥
unfolding reading
low_surrogate_alone = not_derived 8 _ refl

-- read, and it has one reading
white_space_in_array : reading empty_array ≡ got (mcons alg (string_v hs256) (mcons (ascii "x") (array_v vnil) mnil)) []
unfolding reading empty_array alg hs256
white_space_in_array = refl

one_empty_array : (t u : Derivation) → bytes t ≡ empty_array → bytes u ≡ empty_array → (reading_of t ≡ reading_of u) × (members_of t ≡ members_of u)
one_empty_array t u p q = (one_reading t u (p ∙ sym q), unique t u (p ∙ sym q))

-- VALUES

words : Reads (ascii "true") true_v × Reads (ascii " false\n") false_v × Reads (ascii "\tnull\r") null_v × Bad (ascii "tru") × Bad (ascii "True")
    × Bad (ascii "nulll")
unfolding reading header
words = (refl, refl, refl, refl, refl, refl)

Number : String → Type 0
Number x = Reads (ascii x) (number_v (ascii x))

numbers : Number "0" × Number "-0" × Number "10" × Number "0.50" × Number "1e0" × Number "-12.5E+02" × Number "0e-1"
unfolding reading header Number
numbers = (refl, refl, refl, refl, refl, refl, refl)

no_numbers : Bad (ascii "01") × Bad (ascii "+1") × Bad (ascii ".5") × Bad (ascii "1.") × Bad (ascii "1.e1") × Bad (ascii "1e") × Bad (ascii "1e+")
    × Bad (ascii "-") × Bad (ascii "--1") × Bad (ascii "0x1") × Bad (ascii "NaN")
unfolding reading header
no_numbers = (refl, refl, refl, refl, refl, refl, refl, refl, refl, refl, refl)

arrays : Reads (ascii "[1 , [ ],{ }]") (array_v (vcons (number_v (ascii "1")) (vcons (array_v vnil) (vcons (object_v mnil) vnil)))) × Bad (ascii "[1,]")
    × Bad (ascii "[,1]") × Bad (ascii "[1 2]") × Bad (ascii "[1") × Bad (ascii "]")
unfolding reading header
arrays = (refl, refl, refl, refl, refl, refl)

objects : (reading (ascii " { } ") ≡ got mnil []) × Reads (ascii "{\"\" : 1}") (object_v (mcons [] (number_v (ascii "1")) mnil)) × Bad (ascii "{\"y\"}")
    × Bad (ascii "{\"y\":}") × Bad (ascii "{y:1}") × Bad (ascii "{,}")
unfolding reading header
objects = (refl, refl, refl, refl, refl, refl)

-- a text is one object and nothing else; a vertical tab is no white space
texts : (reading [] ≡ bad) × (reading (ascii "[]") ≡ bad) × (reading (ascii "{}{}") ≡ bad) × (reading (ascii "{") ≡ bad)
    × (reading (0x0B ∷ ascii "{}") ≡ bad)
unfolding reading
texts = (refl, refl, refl, refl, refl)

-- at most 8 deep, seven arrays nested as a member's value are read, eight are not
unfoldable nested : ℕ → List ℕ → List ℕ
nested zero s = s
nested (suc n) s = 0x5B ∷ nested n (0x5D ∷ s)

unfoldable arrays_v : ℕ → Value
arrays_v zero = array_v vnil
arrays_v (suc n) = array_v (vcons (arrays_v n) vnil)

deep : Reads (nested 7 []) (arrays_v 6) × (depth (object_v (mcons (ascii "x") (arrays_v 6) mnil)) ≡ 8) × Bad (nested 8 [])
unfolding reading header nested arrays_v depth
deep = (refl, refl, refl)

-- STRINGS

-- {"x":"s"}
abbrev ReadsString : List ℕ → List ℕ → Type 0
ReadsString s cs = Reads (0x22 ∷ s ++ ascii "\"") (string_v cs)

abbrev BadString : List ℕ → Type 0
BadString s = Bad (0x22 ∷ s ++ ascii "\"")

short_escapes : ReadsString (ascii "\\\"\\\\\\/\\b\\f\\n\\r\\t") (0x22 ∷ 0x5C ∷ 0x2F ∷ 0x08 ∷ 0x0C ∷ 0x0A ∷ 0x0D ∷ 0x09 ∷ [])
    × BadString (ascii "\\a") × BadString (ascii "\\")
unfolding reading header
short_escapes = (refl, refl, refl)

-- the digits of an escape: each of them, capital and small, also side by side; and four of them
hex_digits : ReadsString (ascii "\\u0123\\u4567\\u89AB\\uCDEF") (0x123 ∷ 0x4567 ∷ 0x89AB ∷ 0xCDEF ∷ [])
    × ReadsString (ascii "\\u89ab\\ucdef\\uaBcD\\u00e9") (0x89AB ∷ 0xCDEF ∷ 0xABCD ∷ 0xE9 ∷ [])
    × BadString (ascii "\\u00E") × BadString (ascii "\\u00e") × BadString (ascii "\\U00E9")
unfolding reading header
hex_digits = (refl, refl, refl, refl, refl)

-- the bytes on both sides of 0-9, A-F and a-f are no digits
no_hex_digits : BadString (ascii "\\u000/") × BadString (ascii "\\u000:") × BadString (ascii "\\u000@") × BadString (ascii "\\u000G")
    × BadString (ascii "\\u000`") × BadString (ascii "\\u000g")
unfolding reading header
no_hex_digits = (refl, refl, refl, refl, refl, refl)

-- a high surrogate is followed directly by a low one, whichever letters spell them
unicode_escapes : ReadsString (ascii "\\u0000") (0 ∷ []) × ReadsString (ascii "\\uD834\\uDD1E") (0x1D11E ∷ [])
    × ReadsString (ascii "\\uD834\\udd1e") (0x1D11E ∷ []) × ReadsString (ascii "\\ud834\\uDd1E") (0x1D11E ∷ [])
    × BadString (ascii "\\uD834") × BadString (ascii "\\uD834x\\uDD1E") × BadString (ascii "\\uD834\\UDD1E")
    × BadString (ascii "\\uD834\\ud834") × BadString (ascii "\\udd1e\\uD834") × BadString (ascii "\\udd1e")
unfolding reading header
unicode_escapes = (refl, refl, refl, refl, refl, refl, refl, refl, refl, refl)

-- both ends of a first half, D800 to DBFF, and of a second, DC00 to DFFF; D7FF and E000 are no halves
surrogate_pairs : ReadsString (ascii "\\uD7FF") (0xD7FF ∷ []) × ReadsString (ascii "\\uE000") (0xE000 ∷ [])
    × ReadsString (ascii "\\uD800\\uDC00") (0x10000 ∷ []) × ReadsString (ascii "\\uD800\\uDFFF") (0x103FF ∷ [])
    × ReadsString (ascii "\\uDBFF\\uDC00") (0x10FC00 ∷ []) × ReadsString (ascii "\\uDBFF\\uDFFF") (0x10FFFF ∷ [])
unfolding reading header
surrogate_pairs = (refl, refl, refl, refl, refl, refl)

-- a half alone; a first half with no second behind it; two second halves
no_surrogate_pairs : BadString (ascii "\\uD800") × BadString (ascii "\\uDBFF") × BadString (ascii "\\uDC00") × BadString (ascii "\\uDFFF")
    × BadString (ascii "\\uD800\\uDBFF") × BadString (ascii "\\uD800\\uE000") × BadString (ascii "\\uDC00\\uDC00")
unfolding reading header
no_surrogate_pairs = (refl, refl, refl, refl, refl, refl, refl)

-- the first and the last of each form: U+0080, U+07FF, U+0800, U+D7FF, U+E000, U+FFFF, U+10000, U+10FFFF
utf8 : ReadsString (0xC2 ∷ 0x80 ∷ 0xDF ∷ 0xBF ∷ []) (0x80 ∷ 0x7FF ∷ [])
    × ReadsString (0xE0 ∷ 0xA0 ∷ 0x80 ∷ 0xED ∷ 0x9F ∷ 0xBF ∷ []) (0x800 ∷ 0xD7FF ∷ [])
    × ReadsString (0xEE ∷ 0x80 ∷ 0x80 ∷ 0xEF ∷ 0xBF ∷ 0xBF ∷ []) (0xE000 ∷ 0xFFFF ∷ [])
    × ReadsString (0xF0 ∷ 0x90 ∷ 0x80 ∷ 0x80 ∷ 0xF4 ∷ 0x8F ∷ 0xBF ∷ 0xBF ∷ []) (0x10000 ∷ 0x10FFFF ∷ [])
    × ReadsString (0x20 ∷ 0x7F ∷ []) (0x20 ∷ 0x7F ∷ [])
unfolding reading header
utf8 = (refl, refl, refl, refl, refl)

-- overlong forms, a surrogate, above U+10FFFF, a tail alone, a form cut short, a control character
no_utf8 : BadString (0xC1 ∷ 0xBF ∷ []) × BadString (0xE0 ∷ 0x9F ∷ 0xBF ∷ []) × BadString (0xF0 ∷ 0x8F ∷ 0xBF ∷ 0xBF ∷ [])
    × BadString (0xED ∷ 0xA0 ∷ 0x80 ∷ []) × BadString (0xF4 ∷ 0x90 ∷ 0x80 ∷ 0x80 ∷ []) × BadString (0x80 ∷ []) × BadString (0xE1 ∷ 0x80 ∷ [])
    × BadString (0x1F ∷ [])
unfolding reading header
no_utf8 = (refl, refl, refl, refl, refl, refl, refl, refl)

-- a byte order mark before the text is bad; U+FEFF in a string is an ordinary character
byte_order_mark : (reading (0xEF ∷ 0xBB ∷ 0xBF ∷ ascii "{}") ≡ bad) × (reading (0x20 ∷ 0xEF ∷ 0xBB ∷ 0xBF ∷ ascii "{}") ≡ bad)
    × ReadsString (0xEF ∷ 0xBB ∷ 0xBF ∷ []) (0xFEFF ∷ [])
unfolding reading header
byte_order_mark = (refl, refl, refl)

-- NAMES TWICE, PLACES

names_twice : (doubled (header (ascii "[{\"a\":1,\"b\":2,\"a\":1}]")) ≡ true) × (doubled (ascii "{\"a\":{\"b\":1},\"c\":{\"b\":1}}") ≡ false)
    × (doubled (ascii "{\"a\":{\"a\":1},\"A\":1}") ≡ false)
unfolding doubled header
names_twice = (refl, refl, refl)

-- one name by small and by capital digits, and by an escape and its UTF-8; but a letter's own case is another letter
spelled_twice : (doubled (header (ascii "{\"\\u00e9\":1,\"\\u00E9\":1}")) ≡ true) × (doubled (ascii "{\"\\ud834\\uDD1E\":1,\"\\uD834\\udd1e\":1}") ≡ true)
    × (doubled (ascii "{\"\\u00e9\":1,\"" ++ 0xC3 ∷ 0xA9 ∷ ascii "\":1}") ≡ true) × (doubled (ascii "{\"\\u006a\":1,\"\\u004a\":1}") ≡ false)
unfolding doubled header
spelled_twice = (refl, refl, refl, refl)

kinds : List ℕ
kinds = ascii " {\"a\" : \"\" , \"b\":-1, \"c\":true,\"d\": false ,\"e\":null,\"f\": [ 1 , 2 ] ,\"g\": { } } "

at : Kind → ℕ → ℕ → ℕ → Option MemberPlaces
at k n b e = some (record { kind = k; name_start = n; name_end = suc n; value_start = b; value_end = e })

each_kind : (shown kinds 0 ≡ at Kind.String 3 9 9) × (shown kinds 1 ≡ at Kind.Number 14 17 19) × (shown kinds 2 ≡ at Kind.True 22 25 29)
    × (shown kinds 3 ≡ at Kind.False 31 35 40)
    × (shown kinds 4 ≡ at Kind.Null 43 46 50) × (shown kinds 5 ≡ at Kind.Array 52 56 65) × (shown kinds 6 ≡ at Kind.Object 68 72 75) × (shown kinds 7 ≡ Option.none)
unfolding shown kinds at
each_kind = (refl, refl, refl, refl, refl, refl, refl, refl)

-- TWO DERIVATIONS of {"x":[ ]}: the space belongs to either bracket

abbrev token : Many is_ws → Many is_ws → Token
token w w' = record { before = w; after = w' }

space : Many is_ws
unfolding is_ws
space = more 0x20 refl none

x : Chars
unfolding is_unescaped within code_utf8
x = ccons (unescaped (utf8_1 0x78 refl) refl) cnil

derived : Token → Token → Derivation
derived b e = record { before = none; top = object_of (token none none) (pair x (token none none) (array_t (array0 b e))) mend (token none none); after = none }

first : Derivation
first = derived (token none space) (token none none)

second : Derivation
second = derived (token none none) (token space none)

same_bytes : (bytes first ≡ header (ascii "[ ]")) × (bytes second ≡ header (ascii "[ ]"))
unfolding first second derived space x header ascii bytes yield_value yield_string yield_chars yield_char yield_utf8 yield_token yield_many
same_bytes = (refl, refl)

same_reading : (reading_of first ≡ mcons (ascii "x") (array_v vnil) mnil) × (reading_of second ≡ reading_of first) × (depth_of first ≡ 2)
    × (members_of second ≡ members_of first) × (read 8 (bytes first) ≡ got (members_of first) [])
unfolding same_bytes reading reading_of reading_value codes_of code_of code_utf8 depth_of depth members_of located_value from_array past_array yield_from
same_reading = (refl, refl, refl, refl, refl)
