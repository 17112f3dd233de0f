-- What a header answers, and its members: a law for each way through each function.
use Rattle.std.specs.Prelude.{Option, Some, None, Result, Ok, Err}
use Rattle.std.specs.Option.{ok_or}
use mathlib.Core.Path.{◌≡◌, refl, sym, ap, ap₂, ◌∙◌, subst}
use mathlib.Core.List.{List}
use Prim.Native.Nat.{ℕ, zero, suc, ◌-◌, ◌≤◌, ◌<◌}
use native.Mathlib.Omega.{arith}
use lib.ListN.{length}
use borrow.Author.Tests.{lt-ltb, le-ltb}
use Rattle.answers.specs.declared.refusal.Refusal.{Refusal}
use Rattle.answers.specs.Numbers.{number}
use Rattle.answers.proofs.NumberLaws.{not_done}
use Rattle.common.specs.First.{first}
use Rattle.json_grammar_rules.specs.Value.{LMembers, item, named, lnil, lcons, plain}
use Rattle.json_grammar_rules.specs.declared.Kind.{Kind}
use Rattle.json_grammar_rules.specs.Places.{kind_of, placed, member}
use Rattle.json_grammar_rules.specs.Reader.{Got, got, read}
use Rattle.json_string.specs.Ends.{End}
use Rattle.json_members.specs.declared.steps.Entry.{Entry}
use Rattle.json_members.specs.Members.{MembersAt, MembersFrom, TopMembers, EntryAt}
use Rattle.json_members.specs.MemberLaws.{no_members}
use Rattle.json_members.specs.Steps.{entry_at, top_members}
use Rattle.json_members.specs.StepLaws.{no_entry, top_members_lem}
use Rattle.json_rules.specs.Rules.{longest, deepest}
use Rattle.json_rules.specs.Answers.{Member, Refused, place, shown_by, answer_for}
use Rattle.json_rules.specs.Tests.{members_in, grammar_tests, header_tests, checked, unless_refused, member_of}
use Rattle.json_rules.proofs.AnswerLaws.{checked_read}
use Rattle.json_header.specs.Picks.{Picks}

-- THE HEADER'S ANSWER

pub check_long : (h : List ℕ) → longest < length h → 5 ≡ checked h
unfolding checked header_tests
check_long h k = rw (lt-ltb longest (length h) k)

pub check_short : (h : List ℕ) → length h ≤ longest → {n : ℕ} → n ≡ first (grammar_tests deepest h) → n ≡ checked h
unfolding checked header_tests
check_short h k e = rw (le-ltb longest (length h) k) e

-- THE TOP OBJECT

-- what `ok_or` says of what it was given
pub some_of : {A E : Type 0} (o : Option A) (d : E) {r : Result A E} {x : A} → r ≡ ok_or o d → r ≡ Ok x → Some x ≡ o
some_of (Some y) d e f = let i : Ok y ≡ Ok _ = sym e ∙ f in cc
some_of None d e f = absurd (let z : ◌≡◌ {A = ℕ} 0 1 = cc in omega arith)

pub none_of : {A E : Type 0} (o : Option A) (d : E) {r : Result A E} {x : E} → r ≡ ok_or o d → r ≡ Err x → (None ≡ o) × (x ≡ d)
none_of (Some y) d e f = absurd (let z : ◌≡◌ {A = ℕ} 0 1 = cc in omega arith)
none_of None d e f = (refl, cc)

-- a callee's contract at the answer that it gave
pub tops : (h : List ℕ) {y : End} → y ≡ top_members h → TopMembers h y
tops h e = top_members_lem h e

-- MEMBER k

module _ {s : List ℕ} {p : ℕ} (d : ℕ) {e : Entry} (en : EntryAt s p d e) where
  pub pick_here : {k : ℕ} {r : Member} → k ≡ 0 → r ≡ shown_by e.value.kind e.name e.value.place → Picks s p d k r
  unfolding member placed answer_for
  pick_here {k} {r} z c = subst (λ (x : ℕ). Picks s p d x r) (sym z) (record { is = go })
    where
      go : (ms : LMembers) → MembersAt s p d ms → r ≡ answer_for (member s 0 ms)
      go lnil m = no_members d m
      go (lcons (named f t n (item a b v)) ms) m =
          let i = en.is f t n a b v ms m in
          c ∙ ap (λ (k : Kind). shown_by k e.name e.value.place) i.1.kind
          ∙ ap₂ (shown_by (kind_of (plain v))) (ap₂ place i.0.start i.0.end) (ap₂ place i.1.start i.1.end)

  pub pick_next : {q : ℕ} {r : Member} (k j : ℕ) → k ≡ suc j → Some q ≡ e.next → Picks s q d j r → Picks s p d k r
  unfolding member
  pick_next {q} {r} k j z c w = subst (λ (x : ℕ). Picks s p d x r) (sym z) (record { is = go })
    where
      go : (ms : LMembers) → MembersAt s p d ms → r ≡ answer_for (member s (suc j) ms)
      go lnil m = no_members d m
      go (lcons (named f t n (item a b v)) ms) m = w.is ms (subst (λ (x : End). MembersFrom s d x ms) (sym c) (en.is f t n a b v ms m).2)

  pub pick_none : (k : ℕ) → 0 < k → None ≡ e.next → Picks s p d k (Refused 16)
  unfolding member answer_for
  pick_none zero z c = absurd (omega arith)
  pick_none (suc k) z c = record { is = go }
    where
      go : (ms : LMembers) → MembersAt s p d ms → Refused 16 ≡ answer_for (member s (suc k) ms)
      go lnil m = no_members d m
      go (lcons (named f t n (item a b v)) ms) m =
          let o : ms ≡ lnil = subst (λ (x : End). MembersFrom s d x ms) (sym c) (en.is f t n a b v ms m).2 in
          sym (ap (λ (x : LMembers). answer_for (member s k x)) o)

-- where no member is read, none stands
pub pick_nothing : (s : List ℕ) (p d k : ℕ) {r : Member} → None ≡ entry_at s p d → Picks s p d k r
pick_nothing s p d k e = record { is = λ ms m. no_entry s p d e ms m }

module _ (h : List ℕ) (k : ℕ) where
  pub member_refused : (r : Refusal) {n : ℕ} → n ≡ number r → n ≡ checked h → Refused n ≡ member_of h k
  unfolding member_of unless_refused
  member_refused r {n = zero} f e = absurd (not_done r (sym f))
  member_refused r {n = suc n} f e = ap (λ (x : ℕ). unless_refused x (answer_for (member h k (members_in (read deepest h))))) e

  module _ (z : 0 ≡ checked h) where
    -- the members of the header, where it is not refused
    member_is : (r : Member) → ((ms : LMembers) (x : List ℕ) → read deepest h ≡ got ms x → r ≡ answer_for (member h k ms)) → r ≡ member_of h k
    unfolding member_of unless_refused
    member_is r f =
        let c : checked h ≡ 0 = sym z in
        let i = checked_read h c in
        f i.0 i.1 i.2 ∙ ap (λ (g : Got LMembers). answer_for (member h k (members_in g))) (sym i.2)
        ∙ ap (λ (x : ℕ). unless_refused x (answer_for (member h k (members_in (read deepest h))))) (sym c)

    pub member_none : TopMembers h None → Refused 16 ≡ member_of h k
    unfolding member answer_for
    member_none t = member_is (Refused 16) (λ ms x c. ap (λ (y : LMembers). answer_for (member h k y)) (sym (t.is deepest ms x c)))

    pub member_picked : {p : ℕ} {r : Member} → TopMembers h (Some p) → Picks h p (deepest - 1) k r → r ≡ member_of h k
    member_picked {p} {r} t w = member_is r (λ ms x c. w.is ms (t.is deepest ms x c))
