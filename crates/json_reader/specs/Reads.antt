-- What the contracts say: where the readers of `json_grammar_rules`'s Reader, started at a place of a slice, end.
use Rattle.std.specs.Prelude.{◌≡◌, Bool, List, ℕ, zero, suc, ◌≤◌, ◌<◌, ◌+◌, length, drop, get_or, Option, Some, None}
use Rattle.json_grammar_rules.specs.Value.{LValue, LItem, LItems, item, plain}
use Rattle.json_grammar_rules.specs.declared.Kind.{Kind}
use Rattle.json_grammar_rules.specs.Places.{kind_of, pos}
use Rattle.json_grammar_rules.specs.Reader.{Got, bad, got, expect, ws}
use Rattle.json_grammar_rules.specs.Reader.{ValueLead, quote_lead, bracket_lead, brace_lead, true_lead, false_lead, null_lead, number_lead, value_lead}
use Rattle.json_grammar_rules.specs.Reader.{deeper, read_value, read_object, read}
use Rattle.json_grammar_rules.specs.Levels.{read_bare, read_in_array}
pub use Rattle.json_grammar_rules.specs.Levels.{read_elements, read_member, read_members}
use Rattle.json_grammar_rules.proofs.Unique.{is_got}
use Rattle.json_string.specs.Ends.{End, end_of}
use Rattle.json_tokens.specs.Tokens.{EndsBy}

-- VALUES, with the depth left d

-- a value from its first byte on, as `read_value` reads it between white space: its fuel is one more than that of `read_bare`
unfoldable pub read_trimmed : ℕ → ℕ → List ℕ → Got LValue
read_trimmed zero d s = bad
read_trimmed (suc n) d s = read_bare n d s

-- an array, past its bracket
abbrev pub read_array : ℕ → ℕ → List ℕ → Got LItems
read_array n d s = deeper d (λ e. read_in_array n e (ws s))

-- what follows a name: a colon and a value
abbrev pub read_after_name : ℕ → ℕ → List ℕ → Got LItem
read_after_name n d s = expect 0x3A (ws s) (λ r. read_value n d r)

abbrev pub ValueEnds : List ℕ → ℕ → ℕ → End → Type 0
ValueEnds s from d r = EndsBy (λ n x. read_value n d x) s from from r

abbrev pub BareEnds : List ℕ → ℕ → ℕ → End → Type 0
BareEnds s at d r = EndsBy (λ n x. read_trimmed n d x) s at (at + 1) r

-- that end; the bytes left are fuel enough
unfoldable pub bare_end : List ℕ → ℕ → ℕ → End
bare_end s at d = end_of s (read_trimmed (length (drop at s)) d (drop at s))

abbrev pub ArrayEnds : List ℕ → ℕ → ℕ → End → Type 0
ArrayEnds s from d r = EndsBy (λ n x. read_array n d x) s from from r

abbrev pub ElementsEnd : List ℕ → ℕ → ℕ → End → Type 0
ElementsEnd s from d r = EndsBy (λ n x. read_elements n d x) s from from r

abbrev pub ObjectEnds : List ℕ → ℕ → ℕ → End → Type 0
ObjectEnds s from d r = EndsBy (λ n x. read_object n d x) s from from r

abbrev pub MembersEnd : List ℕ → ℕ → ℕ → End → Type 0
MembersEnd s from d r = EndsBy (λ n x. read_members n d x) s from from r

abbrev pub MemberEnds : List ℕ → ℕ → ℕ → End → Type 0
MemberEnds s from d r = EndsBy (λ n x. read_member n d x) s from from r

abbrev pub AfterName : List ℕ → ℕ → ℕ → End → Type 0
AfterName s from d r = EndsBy (λ n x. read_after_name n d x) s from from r

-- THE VALUE OF A MEMBER

-- the kind of a value, by its first byte
unfoldable pub kind_by : ValueLead → Kind
kind_by quote_lead = Kind.String
kind_by bracket_lead = Kind.Array
kind_by brace_lead = Kind.Object
kind_by true_lead = Kind.True
kind_by false_lead = Kind.False
kind_by null_lead = Kind.Null
kind_by number_lead = Kind.Number

-- the place of the value that a reader gives, from its first byte to the place after its last
abbrev pub span_of : List ℕ → Got LItem → Option (ℕ × ℕ)
span_of s (got (item a b v) y) = Some (pos s a, pos s b)
span_of s bad = None

-- of the value after a name whose closing quotation mark is before q
unfoldable pub value_span : List ℕ → ℕ → ℕ → Option (ℕ × ℕ)
value_span s q d = span_of s (read_after_name (length (drop q s)) d (drop q s))

-- what is read there, with fuel n, of a value that stands from f to e: its first byte tells its kind
pub record Spanned (s : List ℕ) (q f e d n : ℕ) : Type 0 where
  pub value : LValue
  pub reads : read_after_name n d (drop q s) ≡ got (item (drop f s) (drop e s) value) (ws (drop e s))
  pub some : f < e
  pub within : e ≤ length s
  pub kind : kind_of (plain value) ≡ kind_by (value_lead (get_or s f 0))

-- THE WHOLE TEXT

-- whether s is white space, an object of depth d at most, and white space
unfoldable pub is_text : ℕ → List ℕ → Bool
is_text d s = is_got (read d s)
