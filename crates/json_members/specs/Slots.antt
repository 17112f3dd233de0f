-- Slots: of the first member with a name, the kind and the place of its value, or that it is absent; and a walk over an object's members that
-- fills a slot for each of some names.
use Rattle.std.specs.Prelude.{◌≡◌, Bool, true, false, cond, List, ℕ, ◌+◌, ◌<◌, length, Some, None}
use Rattle.std.specs.Prelude.{Option as Perhaps}
use Rattle.std.proofs.Math.Option.{Option, none, some}
use Rattle.common.specs.Same.{same}
use Rattle.json_grammar_rules.specs.Value.{Value, LItem, LMembers, item, named, lnil, lcons, plain_item}
use Rattle.json_string.specs.Ends.{End}
use Rattle.json_string.specs.Strings.{NameAt, text_is}
use Rattle.json_members.specs.declared.places.Value.{Value as Placed}
use Rattle.json_members.specs.declared.steps.Entry.{Entry}
use Rattle.json_members.specs.Members.{MembersAt, MembersFrom, ValueIs}

-- WHAT A SLOT SHOWS

-- the value of the first member with the name n, with its places
unfoldable pub item_of : List ℕ → LMembers → Option LItem
item_of n lnil = none
item_of n (lcons (named f t m v) ms) = cond (same m n) (some v) (item_of n ms)

-- .. and without them
abbrev pub plain_of : Option LItem → Option Value
plain_of none = none
plain_of (some i) = some (plain_item i)

-- of a member that is looked for: the kind and the place of its value, or none
abbrev pub Slot : Type 0
Slot = Perhaps Placed

-- the slot has the kind and the place of the value in the text h; d is the depth left for it
abbrev pub ShowsAs : List ℕ → ℕ → Slot → Option LItem → Type 0
ShowsAs h d None none = Unit {0}
ShowsAs h d None (some i) = ⊥
ShowsAs h d (Some x) none = ⊥
ShowsAs h d (Some x) (some (item a b v)) = ValueIs h d x.kind x.place a b v

pub record Shows (h : List ℕ) (d : ℕ) (s : Slot) (o : Option LItem) : Type 0 where
  pub has : ShowsAs h d s o

-- ONE STEP

-- a slot after the member m, which has its name or not
abbrev pub taken_by : Bool → Entry → Slot → Slot
taken_by b m (Some x) = Some x
taken_by true m None = Some m.value
taken_by false m None = None

-- .. which stands at p, where the slot is that of the word w
abbrev pub taken_at : List ℕ → ℕ → Entry → List ℕ → Slot → Slot
taken_at h p m w s = taken_by (text_is h (p + 1) w) m s

-- a place in the text, or none
pub record Within (h : List ℕ) (r : End) : Type 0 where
  pub at : (p : ℕ) → r ≡ Some p → p < length h

-- THE WALK OVER THE MEMBERS, with a slot for each w of W in a record of type S

module _ {W S : Type 0} (name : W → List ℕ) (slot : W → S → Slot) where
  -- each slot shows the first member with its name
  abbrev pub ShowsAll : List ℕ → ℕ → S → LMembers → Type 0
  ShowsAll h d m ms = (w : W) → Shows h d (slot w m) (item_of (name w) ms)

  -- the slots after the member m, whose name stands past p
  pub record Noted (h : List ℕ) (p : ℕ) (m : Entry) (old new : S) : Type 0 where
    pub is : (cs : List ℕ) → NameAt h (p + 1) cs → (w : W) → slot w new ≡ taken_by (same cs (name w)) m (slot w old)

  -- each slot shows its member among the members at p
  pub record Walked (h : List ℕ) (p d : ℕ) (m : S) : Type 0 where
    pub is : (ms : LMembers) → MembersAt h p d ms → ShowsAll h d m ms

  -- .. among those at r, where there may be none
  pub record KnownFrom (h : List ℕ) (r : End) (d : ℕ) (m : S) : Type 0 where
    pub is : (ms : LMembers) → MembersFrom h d r ms → ShowsAll h d m ms

-- no slot shows a member
abbrev pub NoneKnown : {W S : Type 0} → (W → S → Slot) → S → Type 0
NoneKnown {W} slot m = (w : W) → slot w m ≡ None
