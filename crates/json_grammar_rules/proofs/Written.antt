-- What a tree yields is bytes of its own and then what follows: hence lengths, places and that all are bytes.
use Rattle.std.specs.Prelude.{◌≡◌, refl, Bool, true, List, [], ◌∷◌, ◌++◌, ℕ, ◌≤◌, ◌<◌, ◌+◌, ◌-◌, max, length, take}
use Rattle.std.proofs.Common.{sym, ap, ◌∙◌, append_assoc, append-nil, arith, length-append, take_at}
use Rattle.common.specs.Bytes.{Bytes}
use Rattle.common.specs.BytesLaws.{bytes_append}
use Rattle.json_grammar_rules.specs.Bytes.{within, is_digit, is_digit19, is_hex, is_tail, all_hex}
use Rattle.json_grammar_rules.specs.Grammar.{Many, none, more, Ws, Token, Utf8, utf8_1, utf8_2, utf8_E0, utf8_E1, utf8_ED, utf8_EE, utf8_F0, utf8_F1, utf8_F4}
use Rattle.json_grammar_rules.specs.Grammar.{Short, quote, reverse_solidus, solidus, backspace, form_feed, line_feed, carriage_return, tab}
use Rattle.json_grammar_rules.specs.Grammar.{Char, unescaped, short, unicode, surrogates, Chars, cnil, ccons, Digits, Digits1, digits1, Minus}
use Rattle.json_grammar_rules.specs.Grammar.{no_minus, minus, Int, int_zero, int_digits}
use Rattle.json_grammar_rules.specs.Grammar.{Frac, no_frac, fraction, Sign, no_sign, sign, Exp, no_exp, exponent, Number, number_of}
use Rattle.json_grammar_rules.specs.Grammar.{ValueTree, false_t, null_t, true_t, object_t, array_t, number_t, string_t, ObjectTree, object0, object_of}
use Rattle.json_grammar_rules.specs.Grammar.{MemberTree, pair, MembersTail, mend, mmore}
use Rattle.json_grammar_rules.specs.Grammar.{ArrayTree, array0, array_of, ElementsTail, eend, emore, Derivation}
use Rattle.json_grammar_rules.specs.Grammar.{yield_many, yield_token, yield_utf8, short_byte, yield_char, yield_chars, yield_string, yield_digits1}
use Rattle.json_grammar_rules.specs.Grammar.{yield_minus, yield_int, yield_frac, yield_sign, yield_exp, yield_number}
use Rattle.json_grammar_rules.specs.Grammar.{yield_value, yield_object, yield_member, yield_members, yield_array, yield_elements, bytes}
use Rattle.json_grammar_rules.specs.Reader.{up_to}
use Rattle.common.specs.Truth.{both}
use Rattle.json_grammar_rules.proofs.ByteLaws.{within_true, white_cases, e_cases, sign_cases, hex_cases}

-- f puts bytes before what follows, k of them or more
pub record Writes (k : ℕ) (f : List ℕ → List ℕ) : Type 0 where
  pub written : List ℕ
  pub least : k ≤ length written
  pub small : Bytes written
  pub is : (r : List ℕ) → f r ≡ written ++ r

pub longer : {k : ℕ} {f : List ℕ → List ℕ} → Writes k f → (r : List ℕ) → k + length r ≤ length (f r)
longer {f = f} w r = let e : length (f r) ≡ length w.written + length r = ap length (w.is r) ∙ length-append w.written r in omega (arith, w.least)

-- what it puts there
pub alone : {k : ℕ} {f : List ℕ → List ℕ} (w : Writes k f) → f [] ≡ w.written
alone w = w.is [] ∙ append-nil w.written

pub followed : {k : ℕ} {f : List ℕ → List ℕ} (w : Writes k f) (r : List ℕ) → f r ≡ f [] ++ r
followed w r = w.is r ∙ ap (λ (l : List ℕ). l ++ r) (sym (alone w))

-- the bytes of f r before r
pub up_to_lem : {k : ℕ} {f : List ℕ → List ℕ} (w : Writes k f) (r : List ℕ) → up_to (f r) r ≡ f []
up_to_lem {f = f} w r =
    let e : length (f r) ≡ length w.written + length r = ap length (w.is r) ∙ length-append w.written r in
    ap (take (length (f r) - length r)) (w.is r) ∙ take_at w.written r (length (f r) - length r) (omega arith) ∙ sym (alone w)

-- PARTS

nothing : Writes 0 (λ r. r)
nothing = record { written = []; least = omega arith; small = Bytes.none; is = λ r. refl }

byte : (b : ℕ) → b < 256 → Writes 1 (λ r. b ∷ r)
byte b h = record { written = b ∷ []; least = omega arith; small = Bytes.more h Bytes.none; is = λ r. refl }

◌then◌ : {j k : ℕ} {f g : List ℕ → List ℕ} → Writes j f → Writes k g → Writes (max j k) (λ r. f (g r))
◌then◌ {f = f} {g = g} v w =
    record {
      written = v.written ++ w.written;
      least = omega (arith, length-append v.written w.written, v.least, w.least);
      small = bytes_append v.small w.small;
      is = λ r. v.is (g r) ∙ ap (λ (l : List ℕ). v.written ++ l) (w.is r) ∙ sym (append_assoc v.written w.written r);
    }

infixr 40 ◌then◌
-- any number of bytes
any : {k : ℕ} {f : List ℕ → List ℕ} → Writes k f → Writes 0 f
any w = record { written = w.written; least = omega arith; small = w.small; is = w.is }

in_range_lem : (lo hi b : ℕ) → hi < 256 → within lo hi b ≡ true → b < 256
in_range_lem lo hi b h e = omega (arith, within_true lo hi b e)

range : (lo hi b : ℕ) → within lo hi b ≡ true → hi < 256 → Writes 1 (λ r. b ∷ r)
range lo hi b e h = byte b (in_range_lem lo hi b h e)

many : {p : ℕ → Bool} → ((b : ℕ) → p b ≡ true → b < 256) → (m : Many p) → Writes 0 (yield_many m)
unfolding yield_many
many s none = nothing
many s (more b h m) = any (byte b (s b h) then many s m)

pub white : (w : Ws) → Writes 0 (yield_many w)
white w = many (white_cases (λ b. b < 256) (omega arith) (omega arith) (omega arith) (omega arith)) w

pub token : (b : ℕ) → b < 256 → (t : Token) → Writes 1 (yield_token b t)
unfolding yield_token
token b h t = white t.before then byte b h then white t.after

-- CHARACTERS

tail : (b : ℕ) → is_tail b ≡ true → Writes 1 (λ r. b ∷ r)
unfolding is_tail
tail b h = range _ _ b h (omega arith)

utf8 : (u : Utf8) → Writes 1 (yield_utf8 u)
unfolding yield_utf8
utf8 (utf8_1 b h) = range _ _ b h (omega arith)
utf8 (utf8_2 b c h k) = range _ _ b h (omega arith) then tail c k
utf8 (utf8_E0 c d h k) = byte 0xE0 (omega arith) then range _ _ c h (omega arith) then tail d k
utf8 (utf8_E1 b c d h k l) = range _ _ b h (omega arith) then tail c k then tail d l
utf8 (utf8_ED c d h k) = byte 0xED (omega arith) then range _ _ c h (omega arith) then tail d k
utf8 (utf8_EE b c d h k l) = range _ _ b h (omega arith) then tail c k then tail d l
utf8 (utf8_F0 c d e h k l) = byte 0xF0 (omega arith) then range _ _ c h (omega arith) then tail d k then tail e l
utf8 (utf8_F1 b c d e h k l m) = range _ _ b h (omega arith) then tail c k then tail d l then tail e m
utf8 (utf8_F4 c d e h k l) = byte 0xF4 (omega arith) then range _ _ c h (omega arith) then tail d k then tail e l

short_small : (x : Short) → short_byte x < 256
unfolding short_byte
short_small quote = omega arith
short_small reverse_solidus = omega arith
short_small solidus = omega arith
short_small backspace = omega arith
short_small form_feed = omega arith
short_small line_feed = omega arith
short_small carriage_return = omega arith
short_small tab = omega arith

hex : (b : ℕ) → is_hex b ≡ true → Writes 1 (λ r. b ∷ r)
hex b h = byte b (hex_cases b h (λ l u v. omega arith) (λ l u v. omega arith) (λ l u v. omega arith))

-- \uXXXX
unicode_escape : (a b c d : ℕ) → all_hex a b c d ≡ true → Writes 1 (λ r. 0x5C ∷ 0x75 ∷ a ∷ b ∷ c ∷ d ∷ r)
unfolding all_hex
unicode_escape a b c d h =
    let i = both _ _ h in
    let j = both _ _ i.1 in
    let k = both _ _ j.1 in
    byte 0x5C (omega arith) then byte 0x75 (omega arith) then hex a i.0 then hex b j.0 then hex c k.0 then hex d k.1

pub char : (c : Char) → Writes 1 (yield_char c)
unfolding yield_char
char (unescaped u h) = utf8 u
char (short x) = byte 0x5C (omega arith) then byte (short_byte x) (short_small x)
char (unicode a b c d h k) = unicode_escape a b c d h
char (surrogates a b c d i j e f g h k l) = unicode_escape a b c d i then unicode_escape e f g h k

pub chars : (cs : Chars) → Writes 0 (yield_chars cs)
unfolding yield_chars
chars cnil = nothing
chars (ccons c cs) = any (char c then chars cs)

pub string : (cs : Chars) → Writes 1 (yield_string cs)
unfolding yield_string
string cs = byte 0x22 (omega arith) then chars cs then byte 0x22 (omega arith)

-- NUMBERS

digits : (ds : Digits) → Writes 0 (yield_many ds)
unfolding is_digit
digits ds = many (λ b. in_range_lem 0x30 0x39 b (omega arith)) ds

some_digits : (ds : Digits1) → Writes 1 (yield_digits1 ds)
unfolding yield_digits1 is_digit
some_digits (digits1 b h ds) = range _ _ b h (omega arith) then digits ds

minus_sign : (m : Minus) → Writes 0 (yield_minus m)
unfolding yield_minus
minus_sign no_minus = nothing
minus_sign minus = any (byte 0x2D (omega arith))

int : (i : Int) → Writes 1 (yield_int i)
unfolding yield_int is_digit19
int int_zero = byte 0x30 (omega arith)
int (int_digits b h ds) = range _ _ b h (omega arith) then digits ds

frac : (f : Frac) → Writes 0 (yield_frac f)
unfolding yield_frac
frac no_frac = nothing
frac (fraction ds) = any (byte 0x2E (omega arith) then some_digits ds)

signed : (s : Sign) → Writes 0 (yield_sign s)
unfolding yield_sign
signed no_sign = nothing
signed (sign b h) = any (byte b (sign_cases (λ c. c < 256) (omega arith) (omega arith) b h))

exp : (e : Exp) → Writes 0 (yield_exp e)
unfolding yield_exp
exp no_exp = nothing
exp (exponent e h s ds) = any (byte e (e_cases (λ c. c < 256) (omega arith) (omega arith) e h) then signed s then some_digits ds)

pub number : (n : Number) → Writes 1 (yield_number n)
unfolding yield_number
number (number_of m i f e) = minus_sign m then int i then frac f then exp e

-- VALUES

mutual
  unfolding yield_value

  pub value : (v : ValueTree) → Writes 1 (yield_value v)
  value false_t = byte 0x66 (omega arith) then byte 0x61 (omega arith) then byte 0x6C (omega arith) then byte 0x73 (omega arith) then byte 0x65 (omega arith)
  value null_t = byte 0x6E (omega arith) then byte 0x75 (omega arith) then byte 0x6C (omega arith) then byte 0x6C (omega arith)
  value true_t = byte 0x74 (omega arith) then byte 0x72 (omega arith) then byte 0x75 (omega arith) then byte 0x65 (omega arith)
  value (object_t o) = object o
  value (array_t a) = array a
  value (number_t n) = number n
  value (string_t cs) = string cs

  pub object : (o : ObjectTree) → Writes 1 (yield_object o)
  object (object0 b e) = token 0x7B (omega arith) b then token 0x7D (omega arith) e
  object (object_of b m ms e) = token 0x7B (omega arith) b then member m then members ms then token 0x7D (omega arith) e

  pub member : (m : MemberTree) → Writes 1 (yield_member m)
  member (pair cs c v) = string cs then token 0x3A (omega arith) c then value v

  pub members : (ms : MembersTail) → Writes 0 (yield_members ms)
  members mend = nothing
  members (mmore c m ms) = any (token 0x2C (omega arith) c then member m then members ms)

  pub array : (a : ArrayTree) → Writes 1 (yield_array a)
  array (array0 b e) = token 0x5B (omega arith) b then token 0x5D (omega arith) e
  array (array_of b v vs e) = token 0x5B (omega arith) b then value v then elements vs then token 0x5D (omega arith) e

  pub elements : (vs : ElementsTail) → Writes 0 (yield_elements vs)
  elements eend = nothing
  elements (emore c v vs) = any (token 0x2C (omega arith) c then value v then elements vs)

-- what is derived are bytes
pub derived_bytes : (t : Derivation) → Bytes (bytes t)
unfolding bytes
derived_bytes t = let w = white t.before then object t.top then white t.after in rw (alone w) w.small
