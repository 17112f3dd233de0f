-- What `crit` says, element by element.
use Rattle.std.specs.Prelude.{Some, None}
use mathlib.Core.Path.{◌≡◌, refl, sym, ap, ◌∙◌, subst}
use mathlib.Core.Bool.{Bool, true, false, cond, not, ◌||◌}
use mathlib.Core.List.{List, ◌∷◌}
use mathlib.Core.Option.{Option, none, some}
use Prim.Native.Nat.{ℕ, ◌-◌, ◌<◌}
use lib.ListN.{length}
use Rattle.common.specs.Ascii.{ascii}
use Rattle.common.specs.Options.{bind}
use Rattle.common.specs.Same.{same}
use Rattle.json_grammar_rules.specs.Value.{LValue, LItems, item, inil, icons, plain, plain_item, plain_items}
use Rattle.json_grammar_rules.specs.declared.Kind.{Kind}
use Rattle.json_string.specs.Ends.{End}
use Rattle.json_string.specs.Strings.{text_is}
use Rattle.json_string.specs.WordLaws.{is_ascii, text_word}
use Rattle.json_members.specs.declared.places.Value.{Value as Placed}
use Rattle.json_members.specs.declared.steps.Item.{Item}
use Rattle.json_members.specs.Members.{ElementsAt, ElementsFrom, FirstElement, ItemAt}
use Rattle.json_members.specs.MemberLaws.{no_elements}
use Rattle.json_members.specs.Slots.{Slot}
use Rattle.json_members.specs.SlotLaws.{shows_as, shown, kind_no, string_at, array_at}
use Rattle.json_members.specs.Steps.{first_element, item_at}
use Rattle.json_members.specs.StepLaws.{no_item, first_element_lem}
use Rattle.jose_rules.specs.declared.Said.{Said}
use Rattle.jose_rules.specs.declared.Listed.{Listed}
use Rattle.jose_rules.specs.Names.{fmt}
use Rattle.jose_rules.specs.Members.{string, strings, strings_in}
use Rattle.jose_rules.specs.Facts.{pick, names_from, names_by, crit_fact}
use Rattle.jose_facts.specs.Says.{ShownAt, CritFactIs, listed_after, names_after, NamesGo}
use Rattle.jose_facts.proofs.SlotFacts.{asks_string, asks_array, said_absent, by_value, said_by, said_wrong}

-- ELEMENTS

-- what names say after others, if they are strings
abbrev after : Listed → Option (List (List ℕ)) → Said Listed
after l o = pick Said.Wrong Said.Wrong (λ ns. Said.Is (names_from l.fmt l.bad ns)) o

abbrev none_before : Listed
none_before = record { bad = false; fmt = false }

module _ {h : List ℕ} {p d : ℕ} {i : Item} (it : ItemAt h p d i) where
  -- an element that is no string
  pub names_wrong : {l : Listed} → (i.value.kind ≡ Kind.String → ⊥) → NamesGo h p d l Said.Wrong
  unfolding strings_in plain_items plain
  names_wrong {l} n = record { is = go }
    where
      go : (vs : LItems) → ElementsAt h p d vs → Said.Wrong ≡ names_after l vs
      go inil o = no_elements d o
      go (icons (item x y v) vs) o =
          sym
          (ap (λ (s : Option (List ℕ)). after l (bind s (λ t. bind (strings_in (plain_items vs)) (λ ns. some (t ∷ ns)))))
          (asks_string (plain v) (kind_no (it.is x y v vs o).0 n)))

  -- one name more
  module _ (y : i.value.kind ≡ Kind.String) {t : Bool} (c : t ≡ text_is h i.value.place.start fmt) (l : Listed) {l' : Listed} (more : l' ≡ listed_after l t) where
    step : (s : List ℕ) → t ≡ same s fmt → (o : Option (List (List ℕ))) → after l (bind o (λ ns. some (s ∷ ns))) ≡ after l' o
    unfolding names_from
    step s e none = refl
    step s e (some ns) = rw (← e, more) (by t l.bad l.fmt)
      where
        by : (t b f : Bool) → Said.Is (cond t (names_from true (b || f) ns) (names_from f true ns)) ≡ Said.Is (names_from (f || t) (b || f || not t) ns)
        by true true true = refl
        by true true false = refl
        by true false true = refl
        by true false false = refl
        by false true true = refl
        by false true false = refl
        by false false true = refl
        by false false false = refl

    one : (vs : LItems) → ElementsAt h p d vs → (rest : LItems) × ElementsFrom h d i.next rest × (names_after l vs ≡ names_after l' rest)
    unfolding strings_in plain_items plain is_ascii ascii fmt
    one inil o = no_elements d o
    one (icons (item x z v) vs) o =
        let r = it.is x z v vs o in
        let w = string_at r.0 y in (
          vs,
          r.1,
          ap (λ (u : LValue). after l (bind (string (plain u)) (λ s. bind (strings_in (plain_items vs)) (λ ns. some (s ∷ ns))))) w.1
              ∙ step w.0 (c ∙ text_word fmt refl h i.value.place.start w.0 w.2) (strings_in (plain_items vs)),
        )

    pub names_next : {q : ℕ} {r : Said Listed} → i.next ≡ Some q → NamesGo h q d l' r → NamesGo h p d l r
    names_next e w = record { is = λ vs o. let u = one vs o in w.is u.0 (subst (λ (x : End). ElementsFrom h d x u.0) e u.1) ∙ sym u.2 }

    pub names_last : i.next ≡ None → NamesGo h p d l (Said.Is l')
    unfolding strings_in plain_items names_from
    names_last e = record { is = last }
      where
        last : (vs : LItems) → ElementsAt h p d vs → Said.Is l' ≡ names_after l vs
        last vs o =
            let u = one vs o in
            let z : u.0 ≡ inil = subst (λ (x : End). ElementsFrom h d x u.0) e u.1 in
            sym (u.2 ∙ ap (names_after l') z)

-- where nothing is read, no elements stand
pub names_nothing : {h : List ℕ} {p d : ℕ} {l : Listed} {r : Said Listed} → None ≡ item_at h p d → NamesGo h p d l r
names_nothing {h} {p} {d} e = record { is = λ vs o. no_item h p d e vs o }

-- THE SLOT

pub first_as : {h : List ℕ} {p : ℕ} {r s : End} → r ≡ first_element h p → r ≡ s → FirstElement h p s
first_as {h} {p} f e = first_element_lem h p (sym e ∙ f)

-- there is a name where elements stand
some_names : (h : List ℕ) (p d : ℕ) (vs : LItems) → ElementsAt h p d vs → names_after none_before vs ≡ by_value names_by strings (strings_in (plain_items vs))
unfolding strings_in plain_items
some_names h p d inil o = no_elements d o
some_names h p d (icons v vs) o = go (string (plain_item v)) (strings_in (plain_items vs))
  where
    go : (a : Option (List ℕ)) (b : Option (List (List ℕ)))
        → after none_before (bind a (λ t. bind b (λ ns. some (t ∷ ns)))) ≡ by_value names_by strings (bind a (λ t. bind b (λ ns. some (t ∷ ns))))
    go none b = refl
    go (some t) none = refl
    go (some t) (some ns) = refl

module _ {h : List ℕ} {d : ℕ} {s : Slot} where
  pub crit_absent : s ≡ None → CritFactIs h d s Said.Absent
  unfolding crit_fact
  crit_absent e = record { is = λ o w. said_absent names_by strings o (shows_as e w) }

  module _ {x : Placed} (e : s ≡ Some x) where
    pub crit_wrong : (x.kind ≡ Kind.Array → ⊥) → CritFactIs h d s Said.Wrong
    unfolding crit_fact
    crit_wrong n = record { is = λ o w. said_wrong names_by strings o (shows_as e w) asks_array n }

    module _ (y : x.kind ≡ Kind.Array) where
      pub crit_within : ShownAt h d s → x.place.start < length h
      crit_within w = (array_at (shown w.item (shows_as e w.shows)).stands y).2

      pub crit_some : {p : ℕ} {r : Said Listed} → FirstElement h x.place.start (Some p) → NamesGo h p (d - 1) none_before r → CritFactIs h d s r
      unfolding crit_fact plain
      crit_some {p} f g = record {
        is = λ o w.
            let v = shows_as e w in
            let a = array_at (shown o v).stands y in
            let at = f.is d a.0 a.3 in
            g.is a.0 at ∙ some_names h p (d - 1) a.0 at ∙ said_by names_by strings o v (ap (λ (u : LValue). strings (plain u)) a.1);
      }

      pub crit_empty : FirstElement h x.place.start None → CritFactIs h d s (Said.Is (record { bad = true; fmt = false }))
      unfolding crit_fact strings_in plain_items plain
      crit_empty f = record {
        is = λ o w.
            let v = shows_as e w in
            let a = array_at (shown o v).stands y in
            said_by names_by strings o v (ap (λ (u : LValue). strings (plain u)) a.1 ∙ ap (λ (vs : LItems). strings_in (plain_items vs)) (f.is d a.0 a.3));
      }
