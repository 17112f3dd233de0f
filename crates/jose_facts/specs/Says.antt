-- What one slot says: a fact of whatever member it shows.
use Rattle.std.specs.Prelude.{◌≡◌, Bool, false, not, ◌||◌, List, ℕ, Option as Perhaps, ⊤}
use Rattle.std.proofs.Math.Option.{Option}
use Rattle.json_grammar_rules.specs.Value.{Value, LItem, LItems, plain_items}
use Rattle.json_characters.specs.Utf8.{utf8}
use Rattle.json_string.specs.Strings.{NameAt}
use Rattle.json_members.specs.Members.{ElementsAt}
use Rattle.json_members.specs.Slots.{Slot, plain_of, Shows}
use Rattle.keytable_rules.specs.Key.{Key, find}
use Rattle.jose_rules.specs.declared.Said.{Said}
use Rattle.jose_rules.specs.declared.Listed.{Listed}
use Rattle.jose_rules.specs.Members.{strings_in}
use Rattle.jose_rules.specs.Facts.{pick, names_from, text_fact, crit_fact}

-- the slot shows something
pub record ShownAt (h : List ℕ) (d : ℕ) (s : Slot) : Type 0 where
  pub item : Option LItem
  pub shows : Shows h d s item

pub record ShownSomewhere (h : List ℕ) (s : Slot) : Type 0 where
  pub depth : ℕ
  pub at : ShownAt h depth s

-- r is f of what it shows
pub record FactIs {F : Type 0} (h : List ℕ) (s : Slot) (f : Option Value → F) (r : F) : Type 0 where
  pub is : (d : ℕ) (o : Option LItem) → Shows h d s o → r ≡ f (plain_of o)

-- .. whatever the text
pub record TextFactIs (s : Slot) (r : Said ⊤) : Type 0 where
  pub is : (h : List ℕ) (d : ℕ) (o : Option LItem) → Shows h d s o → r ≡ text_fact (plain_of o)

-- .. with the depth d
pub record CritFactIs (h : List ℕ) (d : ℕ) (s : Slot) (r : Said Listed) : Type 0 where
  pub is : (o : Option LItem) → Shows h d s o → r ≡ crit_fact (plain_of o)

-- the names of `crit` after one more: whether it is `fmt`
abbrev pub listed_after : Listed → Bool → Listed
listed_after c is_fmt = record { bad = c.bad || c.fmt || not is_fmt; fmt = c.fmt || is_fmt }

-- what the names in these elements say after others
abbrev pub names_after : Listed → LItems → Said Listed
names_after c vs = pick Said.Wrong Said.Wrong (λ ns. Said.Is (names_from c.fmt c.bad ns)) (strings_in (plain_items vs))

pub record NamesGo (h : List ℕ) (p d : ℕ) (c : Listed) (r : Said Listed) : Type 0 where
  pub is : (vs : LItems) → ElementsAt h p d vs → r ≡ names_after c vs

abbrev pub NamesAt : List ℕ → ℕ → ℕ → Said Listed → Type 0
NamesAt h p d r = NamesGo h p d (record { bad = false; fmt = false }) r

-- a string stands at p
abbrev pub StringAt : List ℕ → ℕ → Type 0
StringAt h p = (cs : List ℕ) × NameAt h p cs

-- r is the key that the string at p names
pub record KeyNamed (h : List ℕ) (p : ℕ) (ks : List Key) (r : Perhaps ℕ) : Type 0 where
  pub is : (cs : List ℕ) → NameAt h p cs → r ≡ find (utf8 cs) ks
