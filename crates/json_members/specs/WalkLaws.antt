-- The walk over an object's members, for any names: each slot shows the first member with its name.
use Rattle.std.specs.Prelude.{◌≡◌, refl, Bool, cond, List, ℕ, ◌+◌, Some, None}
use Rattle.std.proofs.Common.{sym, ◌∙◌}
use Rattle.std.proofs.Math.Path.{ap, subst}
use Rattle.std.proofs.Math.Bool.{true, false}
use Rattle.std.proofs.Math.Option.{Option, none, some}
use Rattle.common.specs.Same.{same}
use Rattle.json_grammar_rules.specs.Value.{LValue, LItem, LMembers, item, named, lnil, lcons}
use Rattle.json_string.specs.Ends.{End}
use Rattle.json_string.specs.WordLaws.{is_ascii, text_word}
use Rattle.json_members.specs.declared.steps.Entry.{Entry}
use Rattle.json_members.specs.Members.{MembersAt, MembersFrom, EntryAt, ValueIs}
use Rattle.json_members.specs.MemberLaws.{no_members}
use Rattle.json_members.specs.Steps.{entry_at}
use Rattle.json_members.specs.StepLaws.{first_name, no_entry}
use Rattle.json_members.specs.Slots.{Slot, item_of, Shows, ShowsAll, NoneKnown, taken_by, taken_at, Noted, Walked, KnownFrom}

-- ONE NAME

abbrev pub first_of : Option LItem → Option LItem → Option LItem
first_of (some i) o = some i
first_of none o = o

first_none : (o : Option LItem) → first_of o none ≡ o
first_none none = refl
first_none (some i) = refl

-- of the members ms, those before rest are passed, and the slot shows the first with the name n among them
pub record Passed (h : List ℕ) (d : ℕ) (n : List ℕ) (s : Slot) (rest ms : LMembers) : Type 0 where
  pub shown : Option LItem
  pub shows : Shows h d s shown
  pub is : item_of n ms ≡ first_of shown (item_of n rest)

module _ {h : List ℕ} {d : ℕ} (m : Entry) {a b : List ℕ} {v : LValue} (value : ValueIs h d m.value.kind m.value.place a b v) {n f t c : List ℕ} {rest ms : LMembers} where
  pass : (s : Slot) → Passed h d n s (lcons (named f t c (item a b v)) rest) ms → Passed h d n (taken_by (same c n) m s) rest ms
  unfolding item_of
  pass s p = go s p.shown p.shows (same c n) p.is
    where
      go : (s : Slot) (o : Option LItem) → Shows h d s o → (q : Bool) → item_of n ms ≡ first_of o (cond q (some (item a b v)) (item_of n rest))
          → Passed h d n (taken_by q m s) rest ms
      go (Some x) (some i) w q e = record { shown = some i; shows = w; is = e }
      go (Some x) none w q e = absurd w.has
      go None (some i) w q e = absurd w.has
      go None none w true e = record { shown = some (item a b v); shows = record { has = value }; is = e }
      go None none w false e = record { shown = none; shows = record { has = tt }; is = e }

-- ALL NAMES

-- of the members at `from`, those before p are passed
pub record Walking {W S : Type 0} (name : W → List ℕ) (slot : W → S → Slot) (h : List ℕ) (from p d : ℕ) (m : S) : Type 0 where
  pub is : (ms : LMembers) → MembersAt h from d ms
      → (rest : LMembers) × MembersAt h p d rest × ((w : W) → Passed h d (name w) (slot w m) rest ms)

module _ {W S : Type 0} {name : W → List ℕ} {slot : W → S → Slot} {h : List ℕ} where
  -- each slot is taken by the word of its name
  pub noted : {p : ℕ} {m : Entry} {old new : S} → ((w : W) → is_ascii (name w) ≡ true) → ((w : W) → slot w new ≡ taken_at h p m (name w) (slot w old))
      → Noted name slot h p m old new
  noted {p} {m} {old} a t = record { is = λ cs n w. t w ∙ ap (λ (q : Bool). taken_by q m (slot w old)) (text_word (name w) (a w) h (p + 1) cs n) }

  pub walk_start : {from d : ℕ} {m : S} → NoneKnown slot m → Walking name slot h from from d m
  walk_start {d = d} e = record {
    is = λ ms at. (ms, at, λ w. subst (λ (s : Slot). Passed h d (name w) s ms ms) (sym (e w)) (record { shown = none; shows = record { has = tt }; is = refl }));
  }

  -- where nothing is read, no members stand
  pub walk_nothing : {from p d : ℕ} {m : S} → Walking name slot h from p d m → None ≡ entry_at h p d → Walked name slot h from d m
  walk_nothing {p = p} {d = d} g e = record { is = λ ms at. let r = g.is ms at in no_entry h p d e r.0 r.1 }

  module _ {from p d : ℕ} {m : Entry} {old new : S} (g : Walking name slot h from p d old) (en : EntryAt h p d m) (nt : Noted name slot h p m old new) where
    step : (ms : LMembers) → MembersAt h from d ms
        → (rest : LMembers) × MembersFrom h d m.next rest × ((w : W) → Passed h d (name w) (slot w new) rest ms)
    step ms at = let r = g.is ms at in go r.0 r.1 r.2
      where
        go : (rest : LMembers) → MembersAt h p d rest → ((w : W) → Passed h d (name w) (slot w old) rest ms)
            → (rest : LMembers) × MembersFrom h d m.next rest × ((w : W) → Passed h d (name w) (slot w new) rest ms)
        go lnil here before = no_members d here
        go (lcons (named f t c (item a b v)) rest) here before =
            let e = en.is f t c a b v rest here in
            let n = nt.is c (first_name d f t c (item a b v) rest here) in
            (rest, e.2, λ w. subst (λ (s : Slot). Passed h d (name w) s rest ms) (sym (n w)) (pass m e.1 (slot w old) (before w)))

    pub walk_next : {q : ℕ} → m.next ≡ Some q → Walking name slot h from q d new
    walk_next e = record {
      is = λ ms at. let s = step ms at in (s.0, subst (λ (r : End). MembersFrom h d r s.0) e s.1, s.2);
    }

    pub walk_end : m.next ≡ None → Walked name slot h from d new
    unfolding item_of
    walk_end e = record { is = ended }
      where
        ended : (ms : LMembers) → MembersAt h from d ms → (w : W) → Shows h d (slot w new) (item_of (name w) ms)
        ended ms at w =
            let s = step ms at in
            let last : s.0 ≡ lnil = subst (λ (r : End). MembersFrom h d r s.0) e s.1 in
            let p = s.2 w in
            subst (λ (o : Option LItem). Shows h d (slot w new) o)
            (sym (p.is ∙ ap (λ (r : LMembers). first_of p.shown (item_of (name w) r)) last ∙ first_none p.shown))
            p.shows

  -- from where the members begin
  pub from_some : {r : End} {p d : ℕ} {m : S} → r ≡ Some p → Walked name slot h p d m → KnownFrom name slot h r d m
  from_some {d = d} e w = record { is = λ ms at. w.is ms (subst (λ (x : End). MembersFrom h d x ms) e at) }

  pub from_none : {r : End} {d : ℕ} {m : S} → r ≡ None → NoneKnown slot m → KnownFrom name slot h r d m
  unfolding item_of
  from_none {r} {d} {m} e n = record { is = shows }
    where
      shows : (ms : LMembers) → MembersFrom h d r ms → ShowsAll name slot h d m ms
      shows ms at w = let z : ms ≡ lnil = subst (λ (x : End). MembersFrom h d x ms) e at in record { has = rw (n w, z) tt }
