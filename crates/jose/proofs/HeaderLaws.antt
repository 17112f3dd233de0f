-- A header that is read: its facts, and what it decides by them.
use Rattle.std.specs.Prelude.{Some, None}
use mathlib.Core.Path.{◌≡◌, refl, sym, ap, ap₂, ◌∙◌, subst}
use mathlib.Core.Bool.{Bool, true, false, cond}
use mathlib.Core.List.{List}
use mathlib.Core.Option.{some}
use Prim.Native.Nat.{ℕ, zero, suc, ◌-◌, ◌≤◌, ◌<◌}
use lib.ListN.{length}
use borrow.Author.Tests.{lt-ltb, le-ltb}
use Rattle.answers.specs.declared.refusal.Refusal.{Refusal}
use Rattle.answers.specs.Numbers.{number}
use Rattle.answers.proofs.NumberLaws.{not_done}
use Rattle.common.specs.First.{first}
use Rattle.common.proofs.FirstLaws.{first_within, first_after}
use Rattle.common.specs.Same.{same}
use Rattle.json_grammar_rules.specs.Value.{LMembers, item, named, lnil, lcons}
use Rattle.json_grammar_rules.specs.Places.{placed}
use Rattle.json_string.specs.Ends.{End}
use Rattle.json_rules.specs.Rules.{longest, deepest}
use Rattle.json_rules.specs.Tests.{members_in, grammar_tests}
use Rattle.json_rules.proofs.AnswerLaws.{grammar_read}
use Rattle.json_members.specs.Members.{MembersFrom, TopMembers}
use Rattle.json_members.specs.Slots.{Slot, item_of, ShowsAs, ShowsAll, Within}
use Rattle.keytable_rules.specs.Table.{bad_table}
use Rattle.jose_rules.specs.declared.Facts.{Facts}
use Rattle.jose_rules.specs.Verdict.{Verdict}
use Rattle.jose_rules.specs.declared.Choice.{Choice}
use Rattle.jose_rules.specs.Names.{typ, cty}
use Rattle.jose_rules.specs.Rules.{Terms, terms_of}
use Rattle.jose_rules.specs.Header.{value_part}
use Rattle.jose_rules.specs.Facts.{no_facts, choosing_tests, choice_by, verdict_by, verdict}
use Rattle.jose_rules.specs.HeaderTests.{located, header_facts, raw_text, header_choice}
use Rattle.jose_rules.specs.Decision.{Decision, Refused, Chosen, decision_by, decision_with, decision}
use Rattle.jose_facts.specs.declared.members.Known.{Known}
use Rattle.jose_facts.specs.Known.{the_typ, the_cty, name, slot}
use Rattle.jose.specs.Deciding.{raw_of}

-- THE MEMBERS OF THE TOP OBJECT

-- the depth left for their values
abbrev pub inside : ℕ
inside = deepest - 1

pub top_within : {h : List ℕ} {r : End} → TopMembers h r → Within h r
top_within t = record { at = t.within }

pub at_top : {h : List ℕ} {r : End} → first (grammar_tests deepest h) ≡ 0 → TopMembers h r → MembersFrom h inside r (located h)
at_top {h} {r} c t =
    let g = grammar_read deepest h c in
    subst (λ (ms : LMembers). MembersFrom h inside r ms) (sym (ap members_in g.2)) (t.is deepest g.0 g.1 g.2)

-- THE RAW TEXTS

raw_item : (h : List ℕ) (d : ℕ) (n : List ℕ) (s : Slot) (ms : LMembers) → ShowsAs h d s (item_of n ms) → raw_of s ≡ raw_text h n ms
unfolding item_of raw_text placed
raw_item h d n None lnil w = refl
raw_item h d n (Some x) lnil w = absurd w
raw_item h d n s (lcons (named f t m (item a b v)) ms) w = go (same m n) (raw_item h d n s ms) w
  where
    place : (s : Slot) → ShowsAs h d s (some (item a b v)) → raw_of s ≡ value_part (placed h (named f t m (item a b v)))
    place None w = absurd w
    place (Some x) w = ap₂ (λ (p q : ℕ). record { start = p; length = q - p }) w.start w.end

    go : (c : Bool) → (ShowsAs h d s (item_of n ms) → raw_of s ≡ raw_text h n ms) → ShowsAs h d s (cond c (some (item a b v)) (item_of n ms))
        → raw_of s ≡ cond c (value_part (placed h (named f t m (item a b v)))) (raw_text h n ms)
    go true later w = place s w
    go false later w = later w

-- WHAT IS DECIDED

refused : (n : ℕ) (c : Choice) → (n ≡ 0 → ⊥) → Refused n ≡ decision_by n c
refused zero c z = absurd (z refl)
refused (suc n) c z = refl

-- a verdict, with the raw texts of `typ` and `cty`
abbrev pub decision_of : Verdict → Known → Decision
decision_of (Verdict.Refused n) m = Refused n
decision_of (Verdict.Takes i b x) m = Chosen (record { key_index = i; kid_present = b; format = x; typ = raw_of m.typ; cty = raw_of m.cty })

with_texts : (n : ℕ) (f : Facts) (m : Known) → decision_of (verdict_by n f) m ≡ decision_by n (choice_by f (raw_of m.typ) (raw_of m.cty))
unfolding choice_by
with_texts zero f m = refl
with_texts (suc n) f m = refl

module _ (h : List ℕ) (q : Terms) where
  pub decision_unread : (r : Refusal) → number r ≡ first (grammar_tests deepest h) → Refused (number r) ≡ decision_with h q
  unfolding decision_with
  decision_unread r e =
      let later = choosing_tests (header_facts h q.keys) no_facts q.keys in
      refused (number r) (header_choice h q.keys) (not_done r)
      ∙ ap (λ (m : ℕ). decision_by m (header_choice h q.keys)) (e ∙ sym (first_within (grammar_tests deepest h) later (λ g. not_done r (e ∙ g))))

  module _ (fine : first (grammar_tests deepest h) ≡ 0) {m : Known} (s : ShowsAll name slot h inside m (located h)) {f : Facts} {v : Verdict} where
    pub decision_judged : f ≡ header_facts h q.keys → v ≡ verdict f no_facts q.keys → decision_of v m ≡ decision_with h q
    unfolding decision_with verdict header_choice
    decision_judged fe ve =
        let later = choosing_tests (header_facts h q.keys) no_facts q.keys in
        rw (
          ve,
          fe,
          with_texts (first later) (header_facts h q.keys) m,
          first_after (grammar_tests deepest h) later refl fine,
          raw_item h inside typ m.typ (located h) (s the_typ).has,
          raw_item h inside cty m.cty (located h) (s the_cty).has,
        )

-- 2 AND 5

module _ (h T : List ℕ) where
  pub decision_good : bad_table T ≡ false → length h ≤ longest → decision_with h (terms_of T) ≡ decision h T
  unfolding decision_with decision
  decision_good e f = rw (e, le-ltb longest (length h) f)

  pub decision_long : bad_table T ≡ false → longest < length h → Refused 5 ≡ decision h T
  unfolding decision
  decision_long e f = rw (e, lt-ltb longest (length h) f)

  pub decision_bad : bad_table T ≡ true → Refused 2 ≡ decision h T
  unfolding decision
  decision_bad e = rw e
