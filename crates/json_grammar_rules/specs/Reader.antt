-- A reader on lists: what it reads, with places, and the bytes left. Fuel n is enough where it is at least the number of bytes.
use Rattle.std.specs.Prelude.{Bool, true, false, cond, ◌||◌, List, [], ◌∷◌, ℕ, zero, suc, ◌-◌, eqb, length, take}
use Rattle.json_grammar_rules.specs.Bytes.{within, is_ws, is_digit, is_digit19, is_e, is_sign, is_tail, all_hex, hex4, code2, code3, code4, is_high, is_low, pair_code}
use Rattle.json_grammar_rules.specs.Value.{LValue, LItem, LItems, LMember, LMembers, string_l, number_l, true_l, false_l, null_l, array_l, object_l, item, inil, icons, named, lnil, lcons}

pub data Got (A : Type 0) : Type 0 where
  bad : Got A
  got : A → List ℕ → Got A

-- STEPS

abbrev pub then : {A B : Type 0} → Got A → (A → List ℕ → Got B) → Got B
then bad k = bad
then (got a r) k = k a r

abbrev pub over : {A B : Type 0} → (A → B) → Got A → Got B
over f bad = bad
over f (got a r) = got (f a) r

-- a part of which only the bytes left matter
abbrev pub Past : Type 0
Past = Got (Unit {0})

abbrev pub past : List ℕ → Past
past r = got tt r

-- a byte b that passes the test, then k
abbrev pub one_by : {A : Type 0} → Bool → ℕ → List ℕ → (ℕ → List ℕ → Got A) → Got A
one_by true b s k = k b s
one_by false b s k = bad

abbrev pub one : {A : Type 0} → (ℕ → Bool) → List ℕ → (ℕ → List ℕ → Got A) → Got A
one p [] k = bad
one p (b ∷ s) k = one_by (p b) b s k

-- the byte x, then k
abbrev pub expect : {A : Type 0} → ℕ → List ℕ → (List ℕ → Got A) → Got A
expect x s k = one (λ b. eqb b x) s (λ _ r. k r)

-- past all bytes that pass the test p
unfoldable pub skip : (ℕ → Bool) → List ℕ → List ℕ
skip p [] = []
skip p (b ∷ s) = elim (p b) [ true ↦ skip p s | false ↦ b ∷ s ]

abbrev pub ws : List ℕ → List ℕ
ws s = skip is_ws s

-- CHARACTERS

-- what the first byte of a character says: one, two, three or four bytes, with the bounds of the second; or an escape
pub data CharLead : Type 0 where
  lead1 lead2 : CharLead
  lead3 lead4 : ℕ → ℕ → CharLead
  escape_lead no_char : CharLead

-- unescaped, of one byte
unfoldable pub is_unescaped1 : ℕ → Bool
is_unescaped1 b = within 0x20 0x21 b || within 0x23 0x5B b || within 0x5D 0x7F b

unfoldable pub char_lead : ℕ → CharLead
char_lead b =
    cond (is_unescaped1 b) lead1 (cond (eqb b 0x5C) escape_lead (cond (within 0xC2 0xDF b) lead2
    (cond (eqb b 0xE0) (lead3 0xA0 0xBF) (cond (eqb b 0xED) (lead3 0x80 0x9F) (cond (within 0xE1 0xEF b) (lead3 0x80 0xBF)
    (cond (eqb b 0xF0) (lead4 0x90 0xBF) (cond (eqb b 0xF4) (lead4 0x80 0x8F) (cond (within 0xF1 0xF3 b) (lead4 0x80 0xBF) no_char))))))))

abbrev pub read_two : ℕ → List ℕ → Got ℕ
read_two b s = one is_tail s (λ c r. got (code2 b c) r)

abbrev pub read_three : ℕ → ℕ → ℕ → List ℕ → Got ℕ
read_three lo hi b s = one (within lo hi) s (λ c s₁. one is_tail s₁ (λ d r. got (code3 b c d) r))

abbrev pub read_four : ℕ → ℕ → ℕ → List ℕ → Got ℕ
read_four lo hi b s = one (within lo hi) s (λ c s₁. one is_tail s₁ (λ d s₂. one is_tail s₂ (λ e r. got (code4 b c d e) r)))

-- four hexadecimal digits
abbrev pub hex_by : Bool → ℕ → List ℕ → Got ℕ
hex_by true x s = got x s
hex_by false x s = bad

abbrev pub read_hex : List ℕ → Got ℕ
read_hex [] = bad
read_hex (a ∷ []) = bad
read_hex (a ∷ b ∷ []) = bad
read_hex (a ∷ b ∷ c ∷ []) = bad
read_hex (a ∷ b ∷ c ∷ d ∷ s) = hex_by (all_hex a b c d) (hex4 a b c d) s

-- the low surrogate that must follow the high one h
abbrev pub low_by : Bool → ℕ → ℕ → List ℕ → Got ℕ
low_by true h x s = got (pair_code h x) s
low_by false h x s = bad

abbrev pub read_low : ℕ → List ℕ → Got ℕ
read_low h s = expect 0x5C s (λ s₁. expect 0x75 s₁ (λ s₂. then (read_hex s₂) (λ x r. low_by (is_low x) h x r)))

-- after `\uXXXX` of value x: is it a high surrogate, is it a low one
abbrev pub unicode_by : Bool → Bool → ℕ → List ℕ → Got ℕ
unicode_by true l x s = read_low x s
unicode_by false true x s = bad
unicode_by false false x s = got x s

abbrev pub read_unicode : List ℕ → Got ℕ
read_unicode s = then (read_hex s) (λ x r. unicode_by (is_high x) (is_low x) x r)

-- what follows `\`: a short escape with its code point, or `u`
pub data EscapeLead : Type 0 where
  short_lead : ℕ → EscapeLead
  unicode_lead no_escape : EscapeLead

unfoldable pub escape_lead_of : ℕ → EscapeLead
escape_lead_of b =
    cond (eqb b 0x22) (short_lead 0x22) (cond (eqb b 0x5C) (short_lead 0x5C) (cond (eqb b 0x2F) (short_lead 0x2F) (cond (eqb b 0x62) (short_lead 0x08)
    (cond (eqb b 0x66) (short_lead 0x0C) (cond (eqb b 0x6E) (short_lead 0x0A) (cond (eqb b 0x72) (short_lead 0x0D) (cond (eqb b 0x74) (short_lead 0x09)
    (cond (eqb b 0x75) unicode_lead no_escape))))))))

abbrev pub escape_by : EscapeLead → List ℕ → Got ℕ
escape_by (short_lead x) s = got x s
escape_by unicode_lead s = read_unicode s
escape_by no_escape s = bad

abbrev pub read_escape : List ℕ → Got ℕ
read_escape [] = bad
read_escape (b ∷ s) = escape_by (escape_lead_of b) s

abbrev pub char_by : CharLead → ℕ → List ℕ → Got ℕ
char_by lead1 b s = got b s
char_by lead2 b s = read_two b s
char_by (lead3 lo hi) b s = read_three lo hi b s
char_by (lead4 lo hi) b s = read_four lo hi b s
char_by escape_lead b s = read_escape s
char_by no_char b s = bad

-- a character: its code point
unfoldable pub read_char : List ℕ → Got ℕ
read_char [] = bad
read_char (b ∷ s) = char_by (char_lead b) b s

-- characters up to a quotation mark, and past it
abbrev pub chars_by : (List ℕ → Got (List ℕ)) → Bool → ℕ → List ℕ → Got (List ℕ)
chars_by below true b s = got [] s
chars_by below false b s = then (read_char (b ∷ s)) (λ c r. over (λ cs. c ∷ cs) (below r))

abbrev pub chars : (List ℕ → Got (List ℕ)) → List ℕ → Got (List ℕ)
chars below [] = bad
chars below (b ∷ s) = chars_by below (eqb b 0x22) b s

unfoldable pub read_chars : ℕ → List ℕ → Got (List ℕ)
read_chars zero s = bad
read_chars (suc n) s = chars (λ r. read_chars n r) s

-- NUMBERS: [ minus ] int [ frac ] [ exp ]

-- 1*DIGIT
abbrev pub past_digits : List ℕ → Past
past_digits s = one is_digit s (λ _ r. past (skip is_digit r))

abbrev pub int_by : Bool → Bool → List ℕ → Past
int_by true c s = past s
int_by false true s = past (skip is_digit s)
int_by false false s = bad

abbrev pub past_int : List ℕ → Past
past_int [] = bad
past_int (b ∷ s) = int_by (eqb b 0x30) (is_digit19 b) s

abbrev pub frac_by : Bool → ℕ → List ℕ → Past
frac_by true b s = past_digits s
frac_by false b s = past (b ∷ s)

abbrev pub past_frac : List ℕ → Past
past_frac [] = past []
past_frac (b ∷ s) = frac_by (eqb b 0x2E) b s

abbrev pub optional_by : Bool → ℕ → List ℕ → List ℕ
optional_by true b s = s
optional_by false b s = b ∷ s

-- past a byte that passes the test, if it is there
abbrev pub optional : (ℕ → Bool) → List ℕ → List ℕ
optional p [] = []
optional p (b ∷ s) = optional_by (p b) b s

abbrev pub exp_by : Bool → ℕ → List ℕ → Past
exp_by true b s = past_digits (optional is_sign s)
exp_by false b s = past (b ∷ s)

abbrev pub past_exp : List ℕ → Past
past_exp [] = past []
past_exp (b ∷ s) = exp_by (is_e b) b s

abbrev pub past_unsigned : List ℕ → Past
past_unsigned s = then (past_int s) (λ _ r. then (past_frac r) (λ _ r₁. past_exp r₁))

unfoldable pub past_number : List ℕ → Past
past_number s = past_unsigned (optional (λ b. eqb b 0x2D) s)

-- the bytes of s before r, the last bytes of s
abbrev pub up_to : List ℕ → List ℕ → List ℕ
up_to s r = take (length s - length r) s

-- a number: its written characters
abbrev pub read_number : List ℕ → Got (List ℕ)
read_number s = then (past_number s) (λ _ r. got (up_to s r) r)

-- VALUES

-- true, false, null: the bytes of the word must come next
unfoldable pub word : List ℕ → List ℕ → Past
word [] s = past s
word (x ∷ xs) [] = bad
word (x ∷ xs) (b ∷ s) = elim (eqb b x) [ true ↦ word xs s | false ↦ bad ]

-- what the first byte of a value says
pub data ValueLead : Type 0 where
  quote_lead bracket_lead brace_lead true_lead false_lead null_lead number_lead : ValueLead

unfoldable pub value_lead : ℕ → ValueLead
value_lead b =
    cond (eqb b 0x22) quote_lead (cond (eqb b 0x5B) bracket_lead (cond (eqb b 0x7B) brace_lead
    (cond (eqb b 0x74) true_lead (cond (eqb b 0x66) false_lead (cond (eqb b 0x6E) null_lead number_lead)))))

-- one level deeper, where the depth left allows it
abbrev pub deeper : {A : Type 0} → ℕ → (ℕ → Got A) → Got A
deeper zero k = bad
deeper (suc d) k = k d

-- a value that was read from f on, with its place, and past white space
abbrev pub placed_item : List ℕ → Got LValue → Got LItem
placed_item f bad = bad
placed_item f (got v r) = got (item f r v) (ws r)

-- One level, over the readers below it: d is the depth left.
module _ (n : ℕ) (valueBelow : ℕ → List ℕ → Got LItem) (elementsBelow : ℕ → List ℕ → Got LItems) (membersBelow : ℕ → List ℕ → Got LMembers) where
  -- value *( value-separator value ) end-array
  abbrev pub elements : ℕ → List ℕ → Got LItems
  elements d s = then (valueBelow d s) (λ v r. over (icons v) (elementsBelow d r))

  -- what follows an element: `]`, or `,` and an element
  abbrev pub elements_by : ℕ → List ℕ → Bool → Bool → Got LItems
  elements_by d s true c = got inil s
  elements_by d s false true = elements d s
  elements_by d s false false = bad

  abbrev pub more_elements : ℕ → List ℕ → Got LItems
  more_elements d [] = bad
  more_elements d (b ∷ s) = elements_by d s (eqb b 0x5D) (eqb b 0x2C)

  -- past `[`: white space, then `]` or elements
  abbrev pub array_by : ℕ → List ℕ → Bool → ℕ → Got LItems
  array_by d s true b = got inil s
  array_by d s false b = elements d (b ∷ s)

  abbrev pub in_array : ℕ → List ℕ → Got LItems
  in_array d [] = bad
  in_array d (b ∷ s) = array_by d s (eqb b 0x5D) b

  abbrev pub array : ℕ → List ℕ → Got LItems
  array d s = deeper d (λ e. in_array e (ws s))

  -- member = string name-separator value
  abbrev pub member : ℕ → List ℕ → Got LMember
  member d s = expect 0x22 s (λ f. then (read_chars n f) (λ cs r. expect 0x3A (ws r) (λ s₁. over (named f (0x22 ∷ r) cs) (valueBelow d s₁))))

  -- member *( value-separator member ) end-object
  abbrev pub members : ℕ → List ℕ → Got LMembers
  members d s = then (member d s) (λ m r. over (lcons m) (membersBelow d r))

  -- what follows a member: `}`, or `,` and a member
  abbrev pub members_by : ℕ → List ℕ → Bool → Bool → Got LMembers
  members_by d s true c = got lnil s
  members_by d s false true = members d (ws s)
  members_by d s false false = bad

  abbrev pub more_members : ℕ → List ℕ → Got LMembers
  more_members d [] = bad
  more_members d (b ∷ s) = members_by d s (eqb b 0x7D) (eqb b 0x2C)

  -- past `{`: white space, then `}` or members
  abbrev pub object_by : ℕ → List ℕ → Bool → ℕ → Got LMembers
  object_by d s true b = got lnil s
  object_by d s false b = members d (b ∷ s)

  abbrev pub in_object : ℕ → List ℕ → Got LMembers
  in_object d [] = bad
  in_object d (b ∷ s) = object_by d s (eqb b 0x7D) b

  abbrev pub object : ℕ → List ℕ → Got LMembers
  object d s = deeper d (λ e. in_object e (ws s))

  -- a value from its first byte on
  abbrev pub value_by_lem : ℕ → ValueLead → ℕ → List ℕ → Got LValue
  value_by_lem d quote_lead b s = over string_l (read_chars n s)
  value_by_lem d bracket_lead b s = over array_l (array d s)
  value_by_lem d brace_lead b s = over object_l (object d s)
  value_by_lem d true_lead b s = over (λ _. true_l) (word (0x72 ∷ 0x75 ∷ 0x65 ∷ []) s)
  value_by_lem d false_lead b s = over (λ _. false_l) (word (0x61 ∷ 0x6C ∷ 0x73 ∷ 0x65 ∷ []) s)
  value_by_lem d null_lead b s = over (λ _. null_l) (word (0x75 ∷ 0x6C ∷ 0x6C ∷ []) s)
  value_by_lem d number_lead b s = over number_l (read_number (b ∷ s))

  abbrev pub value : ℕ → List ℕ → Got LValue
  value d [] = bad
  value d (b ∷ s) = value_by_lem d (value_lead b) b s

-- The levels tied: fuel n, depth left d.
unfoldable mutual
  -- white space, a value, white space
  pub read_value : ℕ → ℕ → List ℕ → Got LItem
  read_value zero d s = bad
  read_value (suc n) d s = placed_item (ws s) (value n (λ e r. read_value n e r) (λ e r. read_more_elements n e r) (λ e r. read_more_members n e r) d (ws s))

  pub read_more_elements : ℕ → ℕ → List ℕ → Got LItems
  read_more_elements zero d s = bad
  read_more_elements (suc n) d s = more_elements n (λ e r. read_value n e r) (λ e r. read_more_elements n e r) (λ e r. read_more_members n e r) d s

  pub read_more_members : ℕ → ℕ → List ℕ → Got LMembers
  read_more_members zero d s = bad
  read_more_members (suc n) d s = more_members n (λ e r. read_value n e r) (λ e r. read_more_elements n e r) (λ e r. read_more_members n e r) d s

-- an object, past its first brace
abbrev pub read_object : ℕ → ℕ → List ℕ → Got LMembers
read_object n d s = object n (λ e r. read_value n e r) (λ e r. read_more_elements n e r) (λ e r. read_more_members n e r) d s

-- nothing may be left
abbrev pub ends_by : {A : Type 0} → A → List ℕ → Got A
ends_by a [] = got a []
ends_by a (b ∷ r) = bad

-- a text: white space, an object, white space. d is the greatest depth
unfoldable pub read : ℕ → List ℕ → Got LMembers
read d s = expect 0x7B (ws s) (λ s₁. then (read_object (length s) d s₁) (λ ms r. ends_by ms (ws r)))
