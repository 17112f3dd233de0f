-- Steps over members and elements, computed by the reader on lists: where the first one begins, what stands at a place, and where the next one begins.
use Rattle.std.specs.Prelude.{cond, List, [], ◌∷◌, ℕ, ◌+◌, ◌-◌, eqb, length, drop, Option, Some, None}
use Rattle.json_grammar_rules.specs.Value.{LItem, LMember, item, named, plain}
use Rattle.json_grammar_rules.specs.declared.Kind.{Kind}
use Rattle.json_grammar_rules.specs.Places.{kind_of, margin, pos}
use Rattle.json_grammar_rules.specs.Reader.{Got, bad, got, ws, read_value}
use Rattle.json_grammar_rules.specs.Levels.{read_member}
use Rattle.json_string.specs.Ends.{End}
use Rattle.json_rules.specs.declared.Place.{Place}
use Rattle.json_members.specs.declared.steps.Item.{Item}
use Rattle.json_members.specs.declared.steps.Entry.{Entry}
use Rattle.json_rules.specs.Answers.{place}

-- THE FIRST ONE

-- where it begins: at the first of the bytes past white space, unless that is the closing byte
unfoldable pub first_in : ℕ → List ℕ → List ℕ → End
first_in close s [] = None
first_in close s (b ∷ x) = cond (eqb b close) None (Some (pos s (b ∷ x)))

unfoldable pub first_member : List ℕ → ℕ → End
first_member s brace = first_in 0x7D s (ws (drop (brace + 1) s))

unfoldable pub first_element : List ℕ → ℕ → End
first_element s bracket = first_in 0x5D s (ws (drop (bracket + 1) s))

-- of the top object, whose brace is the first of the bytes past white space
unfoldable pub top_in : List ℕ → List ℕ → End
top_in h [] = None
top_in h (b ∷ x) = first_in 0x7D h (ws x)

unfoldable pub top_members : List ℕ → End
top_members h = top_in h (ws h)

-- THE NEXT ONE

-- where bytes begin, if there are any
unfoldable pub start_in : List ℕ → List ℕ → End
start_in s [] = None
start_in s (b ∷ x) = Some (pos s (b ∷ x))

-- past a comma and white space, if a byte is left
unfoldable pub next_in : List ℕ → List ℕ → End
next_in s [] = None
next_in s (b ∷ x) = cond (eqb b 0x2C) (start_in s (ws x)) None

-- WHAT STANDS AT A PLACE

-- a value of kind k from f to e, and y, the bytes past it and white space: a string is taken between its quotation marks
unfoldable pub item_by : List ℕ → Kind → ℕ → ℕ → List ℕ → Item
item_by s k f e y = record { value = record { kind = k; place = place (f + margin k) (e - margin k) }; next = next_in s y }

unfoldable pub item_in : List ℕ → Got LItem → Option Item
item_in s bad = None
item_in s (got (item a b v) y) = Some (item_by s (kind_of (plain v)) (pos s a) (pos s b) y)

-- the element that is read at p, with d the depth left, or none; the text's length is fuel enough
unfoldable pub item_at : List ℕ → ℕ → ℕ → Option Item
item_at s p d = item_in s (read_value (length s) d (drop p s))

-- a name, and an item as its value
unfoldable pub entry_by : Place → Item → Entry
entry_by n i = record { name = n; value = i.value; next = i.next }

unfoldable pub entry_in : List ℕ → Got LMember → Option Entry
entry_in s bad = None
entry_in s (got (named f t n (item a b v)) y) = Some (entry_by (place (pos s f) (pos s t)) (item_by s (kind_of (plain v)) (pos s a) (pos s b) y))

-- the member that is read at p, likewise
unfoldable pub entry_at : List ℕ → ℕ → ℕ → Option Entry
entry_at s p d = entry_in s (read_member (length s) d (drop p s))
