-- Members and elements that stand at places of a text, and what a step over one of them gives.
use Rattle.std.specs.Prelude.{◌≡◌, List, ℕ, ◌+◌, ◌-◌, ◌≤◌, ◌<◌, length, take, drop, Some, None}
use Rattle.json_grammar_rules.specs.Value.{LValue, LItems, LMembers, string_l, number_l, true_l, false_l, null_l, array_l, object_l, item, inil, icons, named, lnil, lcons, plain}
use Rattle.json_grammar_rules.specs.declared.Kind.{Kind}
use Rattle.json_grammar_rules.specs.Places.{kind_of, margin, pos}
use Rattle.json_grammar_rules.specs.Reader.{Got, got, read, read_object}
use Rattle.json_string.specs.Ends.{End}
use Rattle.json_string.specs.Strings.{NameAt}
use Rattle.json_reader.specs.Reads.{read_members, read_elements, read_array}
use Rattle.json_rules.specs.declared.Place.{Place}
use Rattle.json_members.specs.declared.steps.Item.{Item}
use Rattle.json_members.specs.declared.steps.Entry.{Entry}

-- WHAT STANDS AT A PLACE

-- a reader that starts at p gives a, with some fuel that is enough
pub record ReadsAt {A : Type 0} (reader : ℕ → List ℕ → Got A) (s : List ℕ) (p : ℕ) (a : A) : Type 0 where
  pub fuel : ℕ
  pub enough : length (drop p s) ≤ fuel
  pub left : List ℕ
  pub reads : reader fuel (drop p s) ≡ got a left

-- the same from a place on, or nothing
abbrev pub ReadsFrom : {A : Type 0} → (ℕ → List ℕ → Got A) → A → List ℕ → End → A → Type 0
ReadsFrom reader nothing s (Some p) a = ReadsAt reader s p a
ReadsFrom reader nothing s None a = a ≡ nothing

-- members and a closing brace, elements and a closing bracket; d is the depth left for their values
abbrev pub MembersAt : List ℕ → ℕ → ℕ → LMembers → Type 0
MembersAt s p d ms = ReadsAt (λ n x. read_members n d x) s p ms

abbrev pub ElementsAt : List ℕ → ℕ → ℕ → LItems → Type 0
ElementsAt s p d vs = ReadsAt (λ n x. read_elements n d x) s p vs

abbrev pub MembersFrom : List ℕ → ℕ → End → LMembers → Type 0
MembersFrom s d r ms = ReadsFrom (λ n x. read_members n d x) lnil s r ms

abbrev pub ElementsFrom : List ℕ → ℕ → End → LItems → Type 0
ElementsFrom s d r vs = ReadsFrom (λ n x. read_elements n d x) inil s r vs

-- what follows an opening brace, and what follows an opening bracket, d deep
abbrev pub ObjectAt : List ℕ → ℕ → ℕ → LMembers → Type 0
ObjectAt s p d ms = ReadsAt (λ n x. read_object n d x) s p ms

abbrev pub ArrayAt : List ℕ → ℕ → ℕ → LItems → Type 0
ArrayAt s p d vs = ReadsAt (λ n x. read_array n d x) s p vs

-- THE FIRST ONE

pub record FirstMember (s : List ℕ) (brace : ℕ) (r : End) : Type 0 where
  pub within : (p : ℕ) → r ≡ Some p → p < length s
  pub is : (d : ℕ) (ms : LMembers) → ObjectAt s (brace + 1) d ms → MembersFrom s (d - 1) r ms

pub record FirstElement (s : List ℕ) (bracket : ℕ) (r : End) : Type 0 where
  pub within : (p : ℕ) → r ≡ Some p → p < length s
  pub is : (d : ℕ) (vs : LItems) → ArrayAt s (bracket + 1) d vs → ElementsFrom s (d - 1) r vs

-- of the top object of a text that is read within the depth d
pub record TopMembers (s : List ℕ) (r : End) : Type 0 where
  pub within : (p : ℕ) → r ≡ Some p → p < length s
  pub is : (d : ℕ) (ms : LMembers) (x : List ℕ) → read d s ≡ got ms x → MembersFrom s (d - 1) r ms

-- ONE STEP

-- the bytes of a part
abbrev pub part : List ℕ → Place → List ℕ
part s x = take (x.end - x.start) (drop x.start s)

-- what stands at the place x of a value v, by its kind
abbrev pub Holds : List ℕ → ℕ → Place → Kind → LValue → Type 0
Holds s d x Kind.String v = (cs : List ℕ) × (v ≡ string_l cs) × NameAt s x.start cs
Holds s d x Kind.Number v = (cs : List ℕ) × (v ≡ number_l cs) × (part s x ≡ cs)
Holds s d x Kind.True v = v ≡ true_l
Holds s d x Kind.False v = v ≡ false_l
Holds s d x Kind.Null v = v ≡ null_l
Holds s d x Kind.Array v = (vs : LItems) × (v ≡ array_l vs) × (x.start < length s) × ArrayAt s (x.start + 1) d vs
Holds s d x Kind.Object v = (ms : LMembers) × (v ≡ object_l ms) × (x.start < length s) × ObjectAt s (x.start + 1) d ms

-- k and x are the kind and the place of the value v, which a and b are the bytes from, and past: a string is taken between its quotation marks
pub record ValueIs (s : List ℕ) (d : ℕ) (k : Kind) (x : Place) (a b : List ℕ) (v : LValue) : Type 0 where
  pub kind : k ≡ kind_of (plain v)
  pub start : x.start ≡ pos s a + margin (kind_of (plain v))
  pub end : x.end ≡ pos s b - margin (kind_of (plain v))
  pub holds : Holds s d x k v

-- x is the place of the name n, which f and t are the bytes from, and past
pub record NameIs (s : List ℕ) (x : Place) (f t n : List ℕ) : Type 0 where
  pub start : x.start ≡ pos s f
  pub end : x.end ≡ pos s t
  pub holds : NameAt s x.start n

-- r is the element at p: of whatever elements stand there, the first; and the others stand where r says
pub record ItemAt (s : List ℕ) (p d : ℕ) (r : Item) : Type 0 where
  pub later : (q : ℕ) → r.next ≡ Some q → (p < q) × (q < length s)
  pub is : (a b : List ℕ) (v : LValue) (vs : LItems) → ElementsAt s p d (icons (item a b v) vs)
      → ValueIs s d r.value.kind r.value.place a b v × ElementsFrom s d r.next vs

-- r is the member at p, likewise
pub record EntryAt (s : List ℕ) (p d : ℕ) (r : Entry) : Type 0 where
  pub later : (q : ℕ) → r.next ≡ Some q → (p < q) × (q < length s)
  pub is : (f t n a b : List ℕ) (v : LValue) (ms : LMembers) → MembersAt s p d (lcons (named f t n (item a b v)) ms)
      → NameIs s r.name f t n × ValueIs s d r.value.kind r.value.place a b v × MembersFrom s d r.next ms
