-- The member reader answers by the grammar: its refusals, when a header is read, and what is shown of a member.
use Rattle.std.specs.Prelude.{◌≡◌, ◌↔◌, ◌⊎◌, Bool, true, false, ◌||◌, List, [], ◌∷◌, ◌++◌, eqb, length}
use Rattle.std.proofs.Math.Path.{refl, ap}
use Rattle.std.proofs.Common.{sym, ◌∙◌, subst, inl, inr, ⊎_elim, arith, ltb-false, ne_eqb}
use Rattle.std.proofs.Math.Bool.{true≢false}
use Rattle.std.proofs.Math.Option.{Option, none, some}
use Prim.Native.Nat.{ℕ, zero, suc, ◌≤◌, ◌<◌}
use Rattle.common.proofs.Decided.{test_false}
use Rattle.common.specs.First.{Test, ◌when◌, first, numbered, among, condition, earlier, NoneOf, Decides, holds, fails, Agree, done, ◌by◌}
use Rattle.common.proofs.FirstLaws.{first_stands, none_stands, in_range_lem, agree_append, first_within, first_after, decides_lt, decides_not, decides_iff, stable, not_on, ◌also◌}
use Rattle.json_grammar_rules.specs.Twice.{TwiceNamed}
use Rattle.json_grammar_rules.proofs.TwiceLaws.{decides_twice}
use Rattle.json_grammar_rules.specs.Value.{Members, object_v, LMembers, lnil, lcons, named, plain, plain_members}
use Rattle.json_grammar_rules.specs.Grammar.{Derivation, Derived, bytes, reading_of, depth_of, members_of}
use Rattle.json_grammar_rules.specs.declared.Kind.{Kind}
use Rattle.json_grammar_rules.specs.Places.{MemberPlaces, placed, member}
use Rattle.json_grammar_rules.specs.Reader.{Got, got, read}
use Rattle.json_grammar_rules.proofs.Readings.{plain_of}
use Rattle.json_grammar_rules.proofs.Complete.{complete}
use Rattle.json_grammar_rules.proofs.Unique.{one_reading, read_decides}
use Rattle.json_grammar_rules.specs.Shown.{Shows}
use Rattle.json_grammar_rules.proofs.ShownLaws.{shown}
use Rattle.json_rules.specs.declared.Place.{Place}
use Rattle.json_rules.specs.Rules.{longest, deepest, NameTwice, DerivedOnce, count, NoMember, grammar_rules, header_rules, member_rules}
use Rattle.json_rules.specs.Answers.{Refused, place, shown_by, answer_for, number_of, with_kind, values_of}
use Rattle.json_rules.specs.Tests.{members_in, twice_in, grammar_tests, header_tests, checked, missing, member_tests, unless_refused, member_of, member_number, Read}

-- THE TESTS decide them, each where no earlier one holds

-- what is read of a header that is derived
derived_read : (d : ℕ) (h : List ℕ) (t : Derivation) → bytes t ≡ h → depth_of t ≤ d → read d h ≡ got (members_of t) []
derived_read d h t p l = ap (read d) (sym p) ∙ complete d t l

past_last : (h : List ℕ) (ms : LMembers) (k : ℕ) → Decides (count (plain_members ms) ≤ k) (missing (member h k ms))
unfolding count member plain
past_last h lnil k = holds (omega arith)
past_last h (lcons (named f t n v) ms) zero = fails (λ c. omega arith)
past_last h (lcons (named f t n v) ms) (suc k) = decides_iff (λ c. omega arith) (λ c. omega arith) (past_last h ms k)

module _ (d : ℕ) (h : List ℕ) (t : Derivation) (p : bytes t ≡ h) (l : depth_of t ≤ d) where
  reading_in : plain_members (members_in (read d h)) ≡ reading_of t
  reading_in = ap (λ (g : Got LMembers). plain_members (members_in g)) (derived_read d h t p l) ∙ plain_of t

  twice_decides : Decides (NameTwice h) (twice_in (members_in (read d h)))
  twice_decides =
      decides_iff
      (λ e. (t, p, subst (λ (ms : Members). TwiceNamed (object_v ms)) reading_in e))
      (λ u. subst (λ (ms : Members). TwiceNamed (object_v ms)) (sym (reading_in ∙ one_reading t u.0 (p ∙ sym u.1))) u.2)
      (decides_twice (object_v (plain_members (members_in (read d h)))))

  member_decides : (k : ℕ) → Decides (NoMember h k) (missing (member h k (members_in (read d h))))
  member_decides k =
      decides_iff
      (λ c. (t, p, subst (λ (ms : Members). count ms ≤ k) reading_in c))
      (λ u. subst (λ (ms : Members). count ms ≤ k) (sym (reading_in ∙ one_reading t u.0 (p ∙ sym u.1))) u.2)
      (past_last h (members_in (read d h)) k)

-- a text that is not refused by 7 has a derivation within the depth
pub derivation : (d : ℕ) (h : List ℕ) → ((Derived d h → ⊥) → ⊥) → Derived d h
derivation d h n = stable (read_decides d h) n

pub grammar_agree : (d : ℕ) (h : List ℕ) → Agree (grammar_rules d h) (grammar_tests d h)
grammar_agree d h = decides_not (read_decides d h) by λ n. (let t = derivation d h n in twice_decides d h t.0 t.1 t.2) by λ _. done

header_agree : (h : List ℕ) → Agree (header_rules h) (header_tests h)
unfolding header_tests
header_agree h = decides_lt longest (length h) by λ _. grammar_agree deepest h

member_agree : (h : List ℕ) (k : ℕ) → Agree (member_rules h k) (member_tests h k)
member_agree h k = agree_append (header_agree h) λ n. (let t = derivation deepest h (not_on (header_rules h) n 7) in member_decides deepest h t.0 t.1 t.2 k) by λ _. done

-- THE FIRST REFUSAL STANDS

shown_by_lem : (k : Kind) (n v : Place) → (number_of (shown_by k n v) ≡ 0) × (values_of (shown_by k n v) ≡ with_kind k n v)
unfolding number_of values_of
shown_by_lem Kind.String n v = (refl, refl)
shown_by_lem Kind.Number n v = (refl, refl)
shown_by_lem Kind.True n v = (refl, refl)
shown_by_lem Kind.False n v = (refl, refl)
shown_by_lem Kind.Null n v = (refl, refl)
shown_by_lem Kind.Array n v = (refl, refl)
shown_by_lem Kind.Object n v = (refl, refl)

answer_number : (f : Option MemberPlaces) → number_of (answer_for f) ≡ first (16 when missing f ∷ [])
unfolding answer_for number_of
answer_number none = refl
answer_number (some m) = (shown_by_lem m.kind _ _).0

-- the header's refusal, or the member's
number_is : (us : List Test) (f : Option MemberPlaces) → numbered us ≡ true → number_of (unless_refused (first us) (answer_for f)) ≡ first (us ++ (16 when missing f ∷ []))
unfolding unless_refused number_of
number_is us f u = go (first us) refl
  where
    go : (n : ℕ) → first us ≡ n → number_of (unless_refused n (answer_for f)) ≡ first (us ++ (16 when missing f ∷ []))
    go zero e = answer_number f ∙ sym (first_after us (16 when missing f ∷ []) u e)
    go (suc n) e = sym (first_within us (16 when missing f ∷ []) (λ z. omega arith) ∙ e)

pub member_number_lem : (h : List ℕ) (k : ℕ) → number_of (member_of h k) ≡ first (member_tests h k)
unfolding member_of checked header_tests
member_number_lem h k = number_is (header_tests h) (member h k (members_in (read deepest h))) refl

-- each number is given exactly when its condition holds and no earlier one does, ..
pub member_first : (h : List ℕ) (k n : ℕ) → among n (5 ∷ 7 ∷ 8 ∷ 16 ∷ []) ≡ true
    → (number_of (member_of h k) ≡ n) ↔ (condition (member_rules h k) n × NoneOf (earlier (member_rules h k) n))
member_first h k n e =
    let i = first_stands (member_agree h k) refl n e in
    (λ c. i.0 (sym (member_number_lem h k) ∙ c), λ c. member_number_lem h k ∙ i.1 c)

-- .. 0 when none holds, and no other
pub member_none : (h : List ℕ) (k : ℕ) → (number_of (member_of h k) ≡ 0) ↔ NoneOf (member_rules h k)
member_none h k =
    let i = none_stands (member_agree h k) refl in
    (λ c. i.0 (sym (member_number_lem h k) ∙ c), λ c. member_number_lem h k ∙ i.1 c)

pub member_range : (h : List ℕ) (k : ℕ) → among (number_of (member_of h k)) (0 ∷ 5 ∷ 7 ∷ 8 ∷ 16 ∷ []) ≡ true
member_range h k = ap (λ (n : ℕ). among n (0 ∷ 5 ∷ 7 ∷ 8 ∷ 16 ∷ [])) (member_number_lem h k) ∙ in_range_lem (member_agree h k)

-- the same of the header alone
pub header_first : (h : List ℕ) (n : ℕ) → among n (5 ∷ 7 ∷ 8 ∷ []) ≡ true → (checked h ≡ n) ↔ (condition (header_rules h) n × NoneOf (earlier (header_rules h) n))
unfolding checked
header_first h n e = first_stands (header_agree h) refl n e

pub header_range : (h : List ℕ) → among (checked h) (0 ∷ 5 ∷ 7 ∷ 8 ∷ []) ≡ true
unfolding checked
header_range h = in_range_lem (header_agree h)

pub header_none : (h : List ℕ) → (checked h ≡ 0) ↔ NoneOf (header_rules h)
unfolding checked
header_none h = none_stands (header_agree h) refl

either_number : (f : Option MemberPlaces) {x : ℕ} → x ≡ first (16 when missing f ∷ []) → (x ≡ 0) ⊎ (x ≡ 16)
either_number none e = inr e
either_number (some m) e = inl e

-- WHAT AN ANSWER SAYS

values_are : (f : Option MemberPlaces) → values_of (answer_for f) ≡ f
unfolding answer_for values_of
values_are none = refl
values_are (some m) = (shown_by_lem m.kind (place m.name_start m.name_end) (place m.value_start m.value_end)).1

module _ (h : List ℕ) where
  past_all : (ms : LMembers) (k : ℕ) → count (plain_members ms) ≤ k → answer_for (member h k ms) ≡ Refused 16
  unfolding count member plain answer_for
  past_all lnil k l = refl
  past_all (lcons (named f t n v) ms) zero l = absurd (omega arith)
  past_all (lcons (named f t n v) ms) (suc k) l = past_all ms k (omega arith)

  within_all : (ms : LMembers) (k : ℕ) → k < count (plain_members ms) → number_of (answer_for (member h k ms)) ≡ 0
  unfolding count member plain answer_for
  within_all lnil k l = absurd (omega arith)
  within_all (lcons (named f t n v) ms) zero l = let m = placed h (named f t n v) in (shown_by_lem m.kind (place m.name_start m.name_end) (place m.value_start m.value_end)).0
  within_all (lcons (named f t n v) ms) (suc k) l = within_all ms k (omega arith)

-- READ EXACTLY WHEN DERIVED (as two lines: Demand3)

-- a refusal of the header is that of every member
pub refused : (h : List ℕ) (n : ℕ) → checked h ≡ suc n → (k : ℕ) → member_of h k ≡ Refused (suc n)
unfolding member_of unless_refused
refused h n e k = ap (λ (x : ℕ). unless_refused x (answer_for (member h k (members_in (read deepest h))))) e

refused_number : (h : List ℕ) (n : ℕ) → checked h ≡ suc n → (k : ℕ) → number_of (member_of h k) ≡ suc n
unfolding number_of
refused_number h n e k = ap number_of (refused h n e k)

pub too_long : (h : List ℕ) → longest < length h → (k : ℕ) → member_of h k ≡ Refused 5
too_long h l k = refused h 4 ((header_first h 5 refl).1 (l, tt)) k

-- a header that no rule refuses
derived_once : (h : List ℕ) → NoneOf (header_rules h) → DerivedOnce h
derived_once h n =
    let no = not_on (header_rules h) n in
    let t = derivation deepest h (no 7) in
    (t.0, t.1, t.2, λ e. no 8 (t.0, t.1, e))

module _ (h : List ℕ) (l : length h ≤ longest) where
  short : longest < length h → ⊥
  short g = omega arith

  pub underived : (Derived deepest h → ⊥) → (k : ℕ) → member_of h k ≡ Refused 7
  underived n k = refused h 6 ((header_first h 7 refl).1 (n, short also tt)) k

  pub named_twice : (t : Derivation) → bytes t ≡ h → depth_of t ≤ deepest → TwiceNamed (object_v (reading_of t)) → (k : ℕ) → member_of h k ≡ Refused 8
  named_twice t p q e k = refused h 7 ((header_first h 8 refl).1 ((t, p, e), short also (λ n. n (t, p, q)) also tt)) k

  checked_fine : DerivedOnce h → checked h ≡ 0
  checked_fine r =
      (header_none h).1
      (short
      also (λ n. n (r.0, r.1, r.2))
      also (λ u. r.3 (subst (λ (ms : Members). TwiceNamed (object_v ms)) (one_reading u.0 r.0 (u.1 ∙ sym r.1)) u.2))
      also tt)

  -- THE MEMBER SHOWN: kind and places are those of every derivation, and the bytes there resolve to the name and the value in its reading
  module _ (t : Derivation) (p : bytes t ≡ h) (q : depth_of t ≤ deepest) (e : TwiceNamed (object_v (reading_of t)) → ⊥) (k : ℕ) where
    pub member_is : member_of h k ≡ answer_for (member h k (members_of t))
    unfolding member_of unless_refused
    member_is =
        ap (λ (x : ℕ). unless_refused x (answer_for (member h k (members_in (read deepest h))))) (checked_fine (t, p, q, e))
        ∙ ap (λ (g : Got LMembers). answer_for (member h k (members_in g))) (derived_read deepest h t p q)

    pub member_values : values_of (member_of h k) ≡ member h k (members_of t)
    member_values = ap values_of member_is ∙ values_are (member h k (members_of t))

    pub member_shows : Shows h (values_of (member_of h k)) (reading_of t) k
    member_shows = subst (λ (f : Option MemberPlaces). Shows h f (reading_of t) k) (sym member_values) (subst (λ (x : List ℕ). Shows x (member x k (members_of t)) (reading_of t) k) p (shown t k))

    pub member_past : count (reading_of t) ≤ k → member_of h k ≡ Refused 16
    member_past c = member_is ∙ past_all h (members_of t) k (subst (λ (ms : Members). count ms ≤ k) (sym (plain_of t)) c)

    pub member_found : k < count (reading_of t) → number_of (member_of h k) ≡ 0
    member_found c = ap number_of member_is ∙ within_all h (members_of t) k (subst (λ (ms : Members). k < count ms) (sym (plain_of t)) c)

  -- for every header within the length
  pub read_within : Read h ↔ DerivedOnce h
  unfolding checked header_tests
  read_within = (
    λ f. derived_once h ((header_none h).0 (fine (f 0))),
    λ r k. either_number (member h k (members_of r.0)) (ap number_of (member_is r.0 r.1 r.2 r.3 k) ∙ answer_number (member h k (members_of r.0))),
  )
    where
      -- a refusal of the header is neither 0 nor 16
      fine : (number_of (member_of h 0) ≡ 0) ⊎ (number_of (member_of h 0) ≡ 16) → checked h ≡ 0
      fine c = go (checked h) refl
        where
          go : (n : ℕ) → checked h ≡ n → checked h ≡ 0
          go zero e = e
          go (suc n) e =
              let number = refused_number h n e 0 in
              let other : suc n ≡ 16 → ⊥ = λ z. true≢false (sym (header_range h) ∙ ap (λ (m : ℕ). among m (0 ∷ 5 ∷ 7 ∷ 8 ∷ [])) (e ∙ z)) in
              absurd (⊎_elim (λ z. omega arith) (λ z. other (sym number ∙ z)) c)

pub read_short : (h : List ℕ) → Read h → length h ≤ longest
unfolding number_of
read_short h r = ltb-false longest (length h) (test_false (decides_lt longest (length h)) (λ l. five (too_long h l 0) (r 0)))
  where
    five : member_of h 0 ≡ Refused 5 → (member_number h 0 ≡ 0) ⊎ (member_number h 0 ≡ 16) → ⊥
    five e c = let n = ap number_of e in ⊎_elim (λ z. omega arith) (λ z. omega arith) c

-- "To a header that isn't read it gives one refusal of 5, 7 and 8, the same for every k"
pub unread : (h : List ℕ) → (Read h → ⊥) → (n : ℕ) × (among n (5 ∷ 7 ∷ 8 ∷ []) ≡ true) × ((k : ℕ) → member_of h k ≡ Refused n)
unread h r = go (checked h) refl
  where
    is_read : checked h ≡ 0 → Read h
    is_read e =
        let n = (header_none h).0 e in
        (read_within h (ltb-false longest (length h) (test_false (decides_lt longest (length h)) (not_on (header_rules h) n 5)))).1 (derived_once h n)

    go : (c : ℕ) → checked h ≡ c → (n : ℕ) × (among n (5 ∷ 7 ∷ 8 ∷ []) ≡ true) × ((k : ℕ) → member_of h k ≡ Refused n)
    go zero e = absurd (r (is_read e))
    go (suc n) e =
        let z : eqb 0 (suc n) ≡ false = ne_eqb 0 (suc n) (λ x. omega arith) in
        let i = ap (λ (b : Bool). b || among (suc n) (5 ∷ 7 ∷ 8 ∷ [])) (sym z) ∙ ap (λ (c : ℕ). among c (0 ∷ 5 ∷ 7 ∷ 8 ∷ [])) (sym e) ∙ header_range h in
        (suc n, i, refused h n e)
