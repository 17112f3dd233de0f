-- What a slot shows: the value's kind, and what stands at its place.
use Rattle.std.specs.Prelude.{◌≡◌, refl, Bool, false, List, ℕ, ◌+◌, ◌≤◌, ◌<◌, length, Some, None}
use Rattle.std.proofs.Common.{sym, ◌∙◌, subst, arith}
use Rattle.std.proofs.Math.Path.{ap}
use Rattle.std.proofs.Math.Option.{Option, none, some}
use Rattle.json_grammar_rules.specs.Value.{LValue, LItem, LItems, string_l, number_l, array_l, item, plain, plain_item}
use Rattle.json_grammar_rules.specs.declared.Kind.{Kind}
use Rattle.json_grammar_rules.specs.Places.{kind_of, margin, pos}
use Rattle.json_string.specs.Strings.{NameAt}
use Rattle.json_rules.specs.declared.Place.{Place}
use Rattle.json_members.specs.declared.places.Value.{Value as Placed}
use Rattle.json_members.specs.Members.{ArrayAt, Holds, ValueIs, part}
use Rattle.json_members.specs.Slots.{Slot, plain_of, Shows}

-- THE MEMBER THAT A SLOT SHOWS

pub shows_as : {h : List ℕ} {d : ℕ} {s t : Slot} {o : Option LItem} → s ≡ t → Shows h d s o → Shows h d t o
shows_as {h} {d} {o = o} e w = subst (λ (x : Slot). Shows h d x o) e w

pub record ShownValue (h : List ℕ) (d : ℕ) (k : Kind) (x : Place) (o : Option LItem) : Type 0 where
  pub from : List ℕ
  pub past : List ℕ
  pub value : LValue
  pub is : plain_of o ≡ some (plain value)
  pub stands : ValueIs h d k x from past value

pub shown : {h : List ℕ} {d : ℕ} {x : Placed} (o : Option LItem) → Shows h d (Some x) o → ShownValue h d x.kind x.place o
unfolding plain_item
shown none s = absurd s.has
shown (some (item a b v)) s = record { from = a; past = b; value = v; is = refl; stands = s.has }

pub not_shown : {h : List ℕ} {d : ℕ} (o : Option LItem) → Shows h d None o → plain_of o ≡ none
not_shown none s = refl
not_shown (some i) s = absurd s.has

-- THE KINDS

module _ {h : List ℕ} {d : ℕ} {k : Kind} {x : Place} {a b : List ℕ} {v : LValue} (w : ValueIs h d k x a b v) where
  -- a value whose kind isn't one that `is` tells
  pub kind_untold : (is : Kind → Bool) → is k ≡ false → is (kind_of (plain v)) ≡ false
  kind_untold is e = sym (ap is w.kind) ∙ e

  -- a value of another kind
  pub kind_no : {c : Kind} → (k ≡ c → ⊥) → kind_of (plain v) ≡ c → ⊥
  kind_no n e = n (w.kind ∙ e)

  module _ {c : Kind} (e : k ≡ c) where
    pub kind_yes : kind_of (plain v) ≡ c
    kind_yes = sym w.kind ∙ e

    -- what stands at the place of a value of the kind c
    pub held : Holds h d x c v
    held = subst (λ (z : Kind). Holds h d x z v) e w.holds

  -- a string's characters stand at its place
  pub string_at : k ≡ Kind.String → (cs : List ℕ) × (v ≡ string_l cs) × NameAt h x.start cs
  string_at e = held e

  -- an array's elements stand past its bracket
  pub array_at : k ≡ Kind.Array → (vs : LItems) × (v ≡ array_l vs) × (x.start < length h) × ArrayAt h (x.start + 1) d vs
  array_at e = held e

  -- a number's characters are those of its place
  pub number_at : k ≡ Kind.Number → (v ≡ number_l (part h x)) × (x.start ≤ length h) × (x.end ≤ length h)
  unfolding margin pos
  number_at e =
      let y = held e in
      let no_margin : margin (kind_of (plain v)) ≡ 0 = ap margin (kind_yes e) in
      (y.1 ∙ ap number_l (sym y.2), omega (arith, w.start, no_margin), omega (arith, w.end, no_margin))
