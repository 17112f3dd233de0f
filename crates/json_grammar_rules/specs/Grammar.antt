-- The grammar: derivation trees, production by production; the bytes that a tree yields, what it reads as, where it puts its names and values.
use Rattle.std.specs.Prelude.{◌≡◌, Bool, true, false, List, [], ◌∷◌, ℕ, ◌≤◌}
use Rattle.json_grammar_rules.specs.Bytes.{within, is_ws, is_digit, is_digit19, is_e, is_sign, is_unescaped, is_tail, all_hex, hex4, code2, code3, code4, is_high, is_low, is_surrogate, pair_code}
use Rattle.json_grammar_rules.specs.Value.{Value, Values, Members, string_v, number_v, true_v, false_v, null_v, array_v, object_v, vnil, vcons, mnil, mcons, depth}
use Rattle.json_grammar_rules.specs.Value.{LItem, LItems, LMember, LMembers, string_l, number_l, true_l, false_l, null_l, array_l, object_l, item, inil, icons, named, lnil, lcons}

-- TREES

-- *p: any number of bytes that pass the test p
pub data Many (p : ℕ → Bool) : Type 0 where
  none : Many p
  more : (b : ℕ) → p b ≡ true → Many p → Many p

-- RFC 8259 section 2: ws = *( %x20 / %x09 / %x0A / %x0D )
abbrev pub Ws : Type 0
Ws = Many is_ws

-- RFC 8259 section 2: begin-array = ws %x5B ws, and so each of the six structural characters
pub record Token : Type 0 where
  pub before : Ws
  pub after : Ws

-- RFC 3629 section 4
pub data Utf8 : Type 0 where
  -- UTF8-1 = %x00-7F
  utf8_1 : (b : ℕ) → within 0x00 0x7F b ≡ true → Utf8
  -- UTF8-2 = %xC2-DF UTF8-tail
  utf8_2 : (b c : ℕ) → within 0xC2 0xDF b ≡ true → is_tail c ≡ true → Utf8
  -- UTF8-3 = %xE0 %xA0-BF UTF8-tail / %xE1-EC 2( UTF8-tail ) / %xED %x80-9F UTF8-tail / %xEE-EF 2( UTF8-tail )
  utf8_E0 : (c d : ℕ) → within 0xA0 0xBF c ≡ true → is_tail d ≡ true → Utf8
  utf8_E1 : (b c d : ℕ) → within 0xE1 0xEC b ≡ true → is_tail c ≡ true → is_tail d ≡ true → Utf8
  utf8_ED : (c d : ℕ) → within 0x80 0x9F c ≡ true → is_tail d ≡ true → Utf8
  utf8_EE : (b c d : ℕ) → within 0xEE 0xEF b ≡ true → is_tail c ≡ true → is_tail d ≡ true → Utf8
  -- UTF8-4 = %xF0 %x90-BF 2( UTF8-tail ) / %xF1-F3 3( UTF8-tail ) / %xF4 %x80-8F 2( UTF8-tail )
  utf8_F0 : (c d e : ℕ) → within 0x90 0xBF c ≡ true → is_tail d ≡ true → is_tail e ≡ true → Utf8
  utf8_F1 : (b c d e : ℕ) → within 0xF1 0xF3 b ≡ true → is_tail c ≡ true → is_tail d ≡ true → is_tail e ≡ true → Utf8
  utf8_F4 : (c d e : ℕ) → within 0x80 0x8F c ≡ true → is_tail d ≡ true → is_tail e ≡ true → Utf8

-- its code point
unfoldable pub code_utf8 : Utf8 → ℕ
code_utf8 (utf8_1 b h) = b
code_utf8 (utf8_2 b c h k) = code2 b c
code_utf8 (utf8_E0 c d h k) = code3 0xE0 c d
code_utf8 (utf8_E1 b c d h k l) = code3 b c d
code_utf8 (utf8_ED c d h k) = code3 0xED c d
code_utf8 (utf8_EE b c d h k l) = code3 b c d
code_utf8 (utf8_F0 c d e h k l) = code4 0xF0 c d e
code_utf8 (utf8_F1 b c d e h k l m) = code4 b c d e
code_utf8 (utf8_F4 c d e h k l) = code4 0xF4 c d e

-- RFC 8259 section 7: what may stand after `\`: %x22 / %x5C / %x2F / %x62 / %x66 / %x6E / %x72 / %x74
pub data Short : Type 0 where
  quote reverse_solidus solidus backspace form_feed line_feed carriage_return tab : Short

-- RFC 8259 section 7: char = unescaped / escape ( .. / %x75 4HEXDIG )
pub data Char : Type 0 where
  unescaped : (u : Utf8) → is_unescaped (code_utf8 u) ≡ true → Char
  short : Short → Char
  -- \uXXXX. House rule: a low surrogate never stands alone, and a high one is followed directly by a low one
  unicode : (a b c d : ℕ) → all_hex a b c d ≡ true → is_surrogate (hex4 a b c d) ≡ false → Char
  surrogates : (a b c d : ℕ) → all_hex a b c d ≡ true → is_high (hex4 a b c d) ≡ true → (e f g h : ℕ) → all_hex e f g h ≡ true → is_low (hex4 e f g h) ≡ true → Char

-- RFC 8259 section 7: string = quotation-mark *char quotation-mark
pub data Chars : Type 0 where
  cnil : Chars
  ccons : Char → Chars → Chars

-- RFC 8259 section 6: number = [ minus ] int [ frac ] [ exp ]
-- *DIGIT and 1*DIGIT
abbrev pub Digits : Type 0
Digits = Many is_digit

pub data Digits1 : Type 0 where
  digits1 : (b : ℕ) → is_digit b ≡ true → Digits → Digits1

-- [ minus ]
pub data Minus : Type 0 where
  no_minus minus : Minus

-- int = zero / ( digit1-9 *DIGIT )
pub data Int : Type 0 where
  int_zero : Int
  int_digits : (b : ℕ) → is_digit19 b ≡ true → Digits → Int

-- [ frac ], frac = decimal-point 1*DIGIT
pub data Frac : Type 0 where
  no_frac : Frac
  fraction : Digits1 → Frac

-- [ minus / plus ]
pub data Sign : Type 0 where
  no_sign : Sign
  sign : (b : ℕ) → is_sign b ≡ true → Sign

-- [ exp ], exp = e [ minus / plus ] 1*DIGIT
pub data Exp : Type 0 where
  no_exp : Exp
  exponent : (e : ℕ) → is_e e ≡ true → Sign → Digits1 → Exp

pub data Number : Type 0 where
  number_of : Minus → Int → Frac → Exp → Number

-- RFC 8259 sections 3 to 5
mutual
  -- value = false / null / true / object / array / number / string
  pub data ValueTree : Type 0 where
    false_t : ValueTree
    null_t : ValueTree
    true_t : ValueTree
    object_t : ObjectTree → ValueTree
    array_t : ArrayTree → ValueTree
    number_t : Number → ValueTree
    string_t : Chars → ValueTree

  -- object = begin-object [ member *( value-separator member ) ] end-object
  pub data ObjectTree : Type 0 where
    object0 : Token → Token → ObjectTree
    object_of : Token → MemberTree → MembersTail → Token → ObjectTree

  -- member = string name-separator value
  pub data MemberTree : Type 0 where
    pair : Chars → Token → ValueTree → MemberTree

  -- *( value-separator member )
  pub data MembersTail : Type 0 where
    mend : MembersTail
    mmore : Token → MemberTree → MembersTail → MembersTail

  -- array = begin-array [ value *( value-separator value ) ] end-array
  pub data ArrayTree : Type 0 where
    array0 : Token → Token → ArrayTree
    array_of : Token → ValueTree → ElementsTail → Token → ArrayTree

  -- *( value-separator value )
  pub data ElementsTail : Type 0 where
    eend : ElementsTail
    emore : Token → ValueTree → ElementsTail → ElementsTail

-- RFC 8259 section 2, JSON-text = ws value ws. House rule: the value is an object, and no byte order mark stands before the text
pub record Derivation : Type 0 where
  pub before : Ws
  pub top : ObjectTree
  pub after : Ws

-- YIELDS: the bytes of a tree, followed by r

unfoldable pub yield_many : {p : ℕ → Bool} → Many p → List ℕ → List ℕ
yield_many none r = r
yield_many (more b h m) r = b ∷ yield_many m r

-- the structural character b with its white space, and from b on
unfoldable pub yield_token : ℕ → Token → List ℕ → List ℕ
yield_token b t r = yield_many t.before (b ∷ yield_many t.after r)

unfoldable pub yield_from : ℕ → Token → List ℕ → List ℕ
yield_from b t r = b ∷ yield_many t.after r

unfoldable pub yield_utf8 : Utf8 → List ℕ → List ℕ
yield_utf8 (utf8_1 b h) r = b ∷ r
yield_utf8 (utf8_2 b c h k) r = b ∷ c ∷ r
yield_utf8 (utf8_E0 c d h k) r = 0xE0 ∷ c ∷ d ∷ r
yield_utf8 (utf8_E1 b c d h k l) r = b ∷ c ∷ d ∷ r
yield_utf8 (utf8_ED c d h k) r = 0xED ∷ c ∷ d ∷ r
yield_utf8 (utf8_EE b c d h k l) r = b ∷ c ∷ d ∷ r
yield_utf8 (utf8_F0 c d e h k l) r = 0xF0 ∷ c ∷ d ∷ e ∷ r
yield_utf8 (utf8_F1 b c d e h k l m) r = b ∷ c ∷ d ∷ e ∷ r
yield_utf8 (utf8_F4 c d e h k l) r = 0xF4 ∷ c ∷ d ∷ e ∷ r

-- the byte after `\`
unfoldable pub short_byte : Short → ℕ
short_byte quote = 0x22
short_byte reverse_solidus = 0x5C
short_byte solidus = 0x2F
short_byte backspace = 0x62
short_byte form_feed = 0x66
short_byte line_feed = 0x6E
short_byte carriage_return = 0x72
short_byte tab = 0x74

unfoldable pub yield_char : Char → List ℕ → List ℕ
yield_char (unescaped u h) r = yield_utf8 u r
yield_char (short x) r = 0x5C ∷ short_byte x ∷ r
yield_char (unicode a b c d h k) r = 0x5C ∷ 0x75 ∷ a ∷ b ∷ c ∷ d ∷ r
yield_char (surrogates a b c d i j e f g h k l) r = 0x5C ∷ 0x75 ∷ a ∷ b ∷ c ∷ d ∷ 0x5C ∷ 0x75 ∷ e ∷ f ∷ g ∷ h ∷ r

unfoldable pub yield_chars : Chars → List ℕ → List ℕ
yield_chars cnil r = r
yield_chars (ccons c cs) r = yield_char c (yield_chars cs r)

unfoldable pub yield_string : Chars → List ℕ → List ℕ
yield_string cs r = 0x22 ∷ yield_chars cs (0x22 ∷ r)

unfoldable pub yield_digits1 : Digits1 → List ℕ → List ℕ
yield_digits1 (digits1 b h ds) r = b ∷ yield_many ds r

unfoldable pub yield_minus : Minus → List ℕ → List ℕ
yield_minus no_minus r = r
yield_minus minus r = 0x2D ∷ r

unfoldable pub yield_int : Int → List ℕ → List ℕ
yield_int int_zero r = 0x30 ∷ r
yield_int (int_digits b h ds) r = b ∷ yield_many ds r

unfoldable pub yield_frac : Frac → List ℕ → List ℕ
yield_frac no_frac r = r
yield_frac (fraction ds) r = 0x2E ∷ yield_digits1 ds r

unfoldable pub yield_sign : Sign → List ℕ → List ℕ
yield_sign no_sign r = r
yield_sign (sign b h) r = b ∷ r

unfoldable pub yield_exp : Exp → List ℕ → List ℕ
yield_exp no_exp r = r
yield_exp (exponent e h s ds) r = e ∷ yield_sign s (yield_digits1 ds r)

unfoldable pub yield_number : Number → List ℕ → List ℕ
yield_number (number_of m i f e) r = yield_minus m (yield_int i (yield_frac f (yield_exp e r)))

unfoldable mutual
  pub yield_value : ValueTree → List ℕ → List ℕ
  yield_value false_t r = 0x66 ∷ 0x61 ∷ 0x6C ∷ 0x73 ∷ 0x65 ∷ r
  yield_value null_t r = 0x6E ∷ 0x75 ∷ 0x6C ∷ 0x6C ∷ r
  yield_value true_t r = 0x74 ∷ 0x72 ∷ 0x75 ∷ 0x65 ∷ r
  yield_value (object_t o) r = yield_object o r
  yield_value (array_t a) r = yield_array a r
  yield_value (number_t n) r = yield_number n r
  yield_value (string_t cs) r = yield_string cs r

  pub yield_object : ObjectTree → List ℕ → List ℕ
  yield_object (object0 b e) r = yield_token 0x7B b (yield_token 0x7D e r)
  yield_object (object_of b m ms e) r = yield_token 0x7B b (yield_member m (yield_members ms (yield_token 0x7D e r)))

  pub yield_member : MemberTree → List ℕ → List ℕ
  yield_member (pair cs c v) r = yield_string cs (yield_token 0x3A c (yield_value v r))

  pub yield_members : MembersTail → List ℕ → List ℕ
  yield_members mend r = r
  yield_members (mmore c m ms) r = yield_token 0x2C c (yield_member m (yield_members ms r))

  pub yield_array : ArrayTree → List ℕ → List ℕ
  yield_array (array0 b e) r = yield_token 0x5B b (yield_token 0x5D e r)
  yield_array (array_of b v vs e) r = yield_token 0x5B b (yield_value v (yield_elements vs (yield_token 0x5D e r)))

  pub yield_elements : ElementsTail → List ℕ → List ℕ
  yield_elements eend r = r
  yield_elements (emore c v vs) r = yield_token 0x2C c (yield_value v (yield_elements vs r))

-- the bytes that are derived
unfoldable pub bytes : Derivation → List ℕ
bytes t = yield_many t.before (yield_object t.top (yield_many t.after []))

-- READINGS

-- RFC 8259 section 7: the characters that the short escapes stand for
unfoldable pub short_code : Short → ℕ
short_code quote = 0x22
short_code reverse_solidus = 0x5C
short_code solidus = 0x2F
short_code backspace = 0x08
short_code form_feed = 0x0C
short_code line_feed = 0x0A
short_code carriage_return = 0x0D
short_code tab = 0x09

unfoldable pub code_of : Char → ℕ
code_of (unescaped u h) = code_utf8 u
code_of (short x) = short_code x
code_of (unicode a b c d h k) = hex4 a b c d
code_of (surrogates a b c d i j e f g h k l) = pair_code (hex4 a b c d) (hex4 e f g h)

unfoldable pub codes_of : Chars → List ℕ
codes_of cnil = []
codes_of (ccons c cs) = code_of c ∷ codes_of cs

unfoldable mutual
  pub reading_value : ValueTree → Value
  reading_value false_t = false_v
  reading_value null_t = null_v
  reading_value true_t = true_v
  reading_value (object_t o) = object_v (reading_object o)
  reading_value (array_t a) = array_v (reading_array a)
  reading_value (number_t n) = number_v (yield_number n [])
  reading_value (string_t cs) = string_v (codes_of cs)

  pub reading_object : ObjectTree → Members
  reading_object (object0 b e) = mnil
  reading_object (object_of b m ms e) = reading_member m (reading_members ms)

  -- a member, before the members ms
  pub reading_member : MemberTree → Members → Members
  reading_member (pair cs c v) ms = mcons (codes_of cs) (reading_value v) ms

  pub reading_members : MembersTail → Members
  reading_members mend = mnil
  reading_members (mmore c m ms) = reading_member m (reading_members ms)

  pub reading_array : ArrayTree → Values
  reading_array (array0 b e) = vnil
  reading_array (array_of b v vs e) = vcons (reading_value v) (reading_elements vs)

  pub reading_elements : ElementsTail → Values
  reading_elements eend = vnil
  reading_elements (emore c v vs) = vcons (reading_value v) (reading_elements vs)

-- the members of the top object, and the depth, in which the top object is 1
unfoldable pub reading_of : Derivation → Members
reading_of t = reading_object t.top

unfoldable pub depth_of : Derivation → ℕ
depth_of t = depth (object_v (reading_of t))

-- s is derived, at most d deep
abbrev pub Derived : ℕ → List ℕ → Type 0
Derived d s = (t : Derivation) × (bytes t ≡ s) × (depth_of t ≤ d)

-- PLACES: the located reading of a tree that is followed by r

-- a value is taken without the white space around it: an object from its first brace to past its last, an array so by its brackets
unfoldable pub from_object : ObjectTree → List ℕ → List ℕ
from_object (object0 b e) r = yield_from 0x7B b (yield_token 0x7D e r)
from_object (object_of b m ms e) r = yield_from 0x7B b (yield_member m (yield_members ms (yield_token 0x7D e r)))

unfoldable pub past_object : ObjectTree → List ℕ → List ℕ
past_object (object0 b e) r = yield_many e.after r
past_object (object_of b m ms e) r = yield_many e.after r

unfoldable pub from_array : ArrayTree → List ℕ → List ℕ
from_array (array0 b e) r = yield_from 0x5B b (yield_token 0x5D e r)
from_array (array_of b v vs e) r = yield_from 0x5B b (yield_value v (yield_elements vs (yield_token 0x5D e r)))

unfoldable pub past_array : ArrayTree → List ℕ → List ℕ
past_array (array0 b e) r = yield_many e.after r
past_array (array_of b v vs e) r = yield_many e.after r

unfoldable mutual
  pub located_value : ValueTree → List ℕ → LItem
  located_value false_t r = item (yield_value false_t r) r false_l
  located_value null_t r = item (yield_value null_t r) r null_l
  located_value true_t r = item (yield_value true_t r) r true_l
  located_value (object_t o) r = item (from_object o r) (past_object o r) (object_l (located_object o r))
  located_value (array_t a) r = item (from_array a r) (past_array a r) (array_l (located_array a r))
  located_value (number_t n) r = item (yield_number n r) r (number_l (yield_number n []))
  located_value (string_t cs) r = item (yield_string cs r) r (string_l (codes_of cs))

  pub located_object : ObjectTree → List ℕ → LMembers
  located_object (object0 b e) r = lnil
  located_object (object_of b m ms e) r = lcons (located_member m (yield_members ms (yield_token 0x7D e r))) (located_members ms (yield_token 0x7D e r))

  pub located_member : MemberTree → List ℕ → LMember
  located_member (pair cs c v) r = named (yield_chars cs (0x22 ∷ yield_token 0x3A c (yield_value v r))) (0x22 ∷ yield_token 0x3A c (yield_value v r)) (codes_of cs) (located_value v r)

  pub located_members : MembersTail → List ℕ → LMembers
  located_members mend r = lnil
  located_members (mmore c m ms) r = lcons (located_member m (yield_members ms r)) (located_members ms r)

  pub located_array : ArrayTree → List ℕ → LItems
  located_array (array0 b e) r = inil
  located_array (array_of b v vs e) r = icons (located_value v (yield_elements vs (yield_token 0x5D e r))) (located_elements vs (yield_token 0x5D e r))

  pub located_elements : ElementsTail → List ℕ → LItems
  located_elements eend r = inil
  located_elements (emore c v vs) r = icons (located_value v (yield_elements vs r)) (located_elements vs r)

-- the members of the top object, with their places
unfoldable pub members_of : Derivation → LMembers
members_of t = located_object t.top (yield_many t.after [])
