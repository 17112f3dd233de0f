-- What `alg`, `kid`, `typ`, `cty` and `fmt` say, by the answers of the functions that look.
use Rattle.std.specs.Prelude.{◌≡◌, refl, Bool, true, false, cond, List, ℕ, ℤ, ◌≤◌, length, Option as Perhaps, Some, None}
use Rattle.std.proofs.Common.{sym, ap, ◌∙◌, subst}
use Rattle.std.proofs.Math.Option.{Option}
use Rattle.common.specs.Ascii.{ascii}
use Rattle.json_grammar_rules.specs.Value.{LValue, LItem, plain}
use Rattle.json_grammar_rules.specs.declared.Kind.{Kind}
use Rattle.json_string.specs.Strings.{text_is}
use Rattle.json_string.specs.WordLaws.{is_ascii, text_word}
use Rattle.json_members.specs.declared.places.Value.{Value as Placed}
use Rattle.json_members.specs.Members.{part}
use Rattle.json_members.specs.Slots.{Slot, plain_of, Shows}
use Rattle.json_members.specs.SlotLaws.{shows_as, shown, string_at, number_at}
use Rattle.decimal_rules.specs.Integer.{integer_of}
use Rattle.keytable_rules.specs.Key.{Key}
use Rattle.jose_rules.specs.declared.Said.{Said}
use Rattle.jose_rules.specs.declared.Algorithm.{Algorithm}
use Rattle.jose_rules.specs.Names.{HS256}
use Rattle.jose_rules.specs.Members.{Meaning, string, integer, value_of}
use Rattle.jose_rules.specs.Facts.{said, alg_by, found_by, alg_fact, kid_fact, text_fact, fmt_fact}
use Rattle.jose_facts.specs.Says.{ShownSomewhere, FactIs, TextFactIs, StringAt, KeyNamed}
use Rattle.jose_facts.proofs.SlotFacts.{AsksFor, said_absent, by_value, said_by, said_wrong}

-- WHATEVER A MEMBER SAYS

module _ {A B : Type 0} (f : A → B) (says : Meaning A) {h : List ℕ} {s : Slot} where
  pub absent_is : s ≡ None → FactIs h s (said f says) Said.Absent
  absent_is e = record { is = λ d o w. said_absent f says o (shows_as e w) }

  pub wrong_is : {x : Placed} {c : Kind} → s ≡ Some x → AsksFor c says → (x.kind ≡ c → ⊥) → FactIs h s (said f says) Said.Wrong
  wrong_is e asks n = record { is = λ d o w. said_wrong f says o (shows_as e w) asks n }

-- `alg`: a string that is the word, or isn't

module _ {h : List ℕ} {s : Slot} {x : Placed} (e : s ≡ Some x) (y : x.kind ≡ Kind.String) {t : Bool} (c : t ≡ text_is h x.place.start HS256) where
  alg_said : FactIs h s alg_fact (Said.Is (cond t Algorithm.HS256 Algorithm.Other))
  unfolding alg_fact is_ascii ascii HS256 plain
  alg_said = record { is = says }
    where
      says : (d : ℕ) (o : Option LItem) → Shows h d s o → Said.Is (cond t Algorithm.HS256 Algorithm.Other) ≡ said alg_by string (plain_of o)
      says d o w =
          let v = shows_as e w in
          let z = string_at (shown o v).stands y in
          ap (λ (b : Bool). Said.Is (cond b Algorithm.HS256 Algorithm.Other)) (c ∙ text_word HS256 refl h x.place.start z.0 z.2)
          ∙ said_by alg_by string o v (ap (λ (u : LValue). string (plain u)) z.1)

  pub alg_said_yes : t ≡ true → FactIs h s alg_fact (Said.Is Algorithm.HS256)
  alg_said_yes q = subst (λ (b : Bool). FactIs h s alg_fact (Said.Is (cond b Algorithm.HS256 Algorithm.Other))) q alg_said

  pub alg_said_no : t ≡ false → FactIs h s alg_fact (Said.Is Algorithm.Other)
  alg_said_no q = subst (λ (b : Bool). FactIs h s alg_fact (Said.Is (cond b Algorithm.HS256 Algorithm.Other))) q alg_said

-- `kid`

pub kid_said : {h : List ℕ} {s : Slot} {x : Placed} {ks : List Key} {r : Perhaps ℕ} → s ≡ Some x → x.kind ≡ Kind.String → KeyNamed h x.place.start ks r
    → FactIs h s (kid_fact ks) (Said.Is r)
unfolding kid_fact plain
kid_said {ks = ks} e y c = record {
  is = λ d o w.
      let v = shows_as e w in
      let z = string_at (shown o v).stands y in
      ap Said.Is (c.is z.0 z.2) ∙ said_by (found_by ks) string o v (ap (λ (u : LValue). string (plain u)) z.1);
}

-- `fmt`

module _ {h : List ℕ} {s : Slot} {x : Placed} (e : s ≡ Some x) (y : x.kind ≡ Kind.Number) {i : Perhaps ℤ} (c : i ≡ integer_of (part h x.place)) where
  fmt_said : FactIs h s fmt_fact (by_value (λ z. z) integer (value_of i))
  unfolding fmt_fact plain
  fmt_said = record {
    is = λ d o w.
        let v = shows_as e w in
        said_by (λ z. z) integer o v (ap (λ (u : LValue). integer (plain u)) (number_at (shown o v).stands y).0 ∙ ap value_of (sym c));
  }

  pub fmt_said_number : {z : ℤ} → i ≡ Some z → FactIs h s fmt_fact (Said.Is z)
  fmt_said_number q = subst (λ (j : Perhaps ℤ). FactIs h s fmt_fact (by_value (λ z. z) integer (value_of j))) q fmt_said

  pub fmt_said_none : i ≡ None → FactIs h s fmt_fact Said.Wrong
  fmt_said_none q = subst (λ (j : Perhaps ℤ). FactIs h s fmt_fact (by_value (λ z. z) integer (value_of j))) q fmt_said

-- `typ` AND `cty`, whatever the text

pub text_said : {s : Slot} {x : Placed} → s ≡ Some x → x.kind ≡ Kind.String → TextFactIs s (Said.Is (tt {0}))
unfolding text_fact plain
text_said e y = record {
  is = λ h d o w. let v = shows_as e w in said_by (λ _. tt {0}) string o v (ap (λ (u : LValue). string (plain u)) (string_at (shown o v).stands y).1);
}

-- WHERE THE VALUES STAND

module _ {h : List ℕ} {s : Slot} {x : Placed} (e : s ≡ Some x) (w : ShownSomewhere h s) where
  pub string_there : x.kind ≡ Kind.String → StringAt h x.place.start
  string_there y = let z = string_at (shown w.at.item (shows_as e w.at.shows)).stands y in (z.0, z.2)

  pub number_there : x.kind ≡ Kind.Number → (x.place.start ≤ length h) × (x.place.end ≤ length h)
  number_there y = let z = number_at (shown w.at.item (shows_as e w.at.shows)).stands y in (z.1, z.2)
