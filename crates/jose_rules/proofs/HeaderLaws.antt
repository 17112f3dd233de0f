-- The rules of a header's bytes and their tests agree; where none holds, what is computed is decided, and is the only thing decided.
use Rattle.std.specs.Prelude.{◌≡◌, refl, Bool, true, cond, List, ℕ, ◌≤◌}
use Rattle.std.proofs.Common.{sym, ap, ◌∙◌, inl, inr, ⊎_elim}
use Rattle.std.proofs.Math.Bool.{false}
use Rattle.common.specs.Bytes.{Bytes}
use Rattle.common.specs.First.{NoneOf, condition, Decides, holds, fails, Agree, Alike}
use Rattle.common.proofs.FirstLaws.{agree_append, not_on, ◌also◌, none_append, none_right, agree_alike, none_alike, alike_back, alike_on}
use Rattle.common.proofs.Decided.{when_false}
use Rattle.common.specs.Same.{same}
use Rattle.common.proofs.SameLaws.{decides_same}
use Rattle.common.specs.Truth.{neither}
use Rattle.json_grammar_rules.specs.Twice.{TwiceNamed}
use Rattle.json_grammar_rules.specs.Value.{Value, Members, mnil, object_v, among, repeated, names, LMembers, named, lnil, lcons, plain_item, plain_members}
use Rattle.json_grammar_rules.specs.Places.{placed}
use Rattle.json_grammar_rules.specs.Grammar.{Derivation, bytes, reading_of, depth_of, members_of}
use Rattle.json_grammar_rules.specs.Reader.{read}
use Rattle.json_grammar_rules.proofs.Readings.{plain_of}
use Rattle.json_grammar_rules.proofs.Complete.{complete}
use Rattle.json_grammar_rules.proofs.Unique.{one_reading}
use Rattle.json_grammar_rules.proofs.Written.{derived_bytes}
use Rattle.json_rules.specs.Rules.{deepest, grammar_rules}
use Rattle.json_rules.specs.Tests.{members_in}
use Rattle.json_rules.proofs.Promises.{derivation, grammar_agree}
use Rattle.keytable_rules.specs.Key.{Key, Distinct}
use Rattle.jose_rules.specs.declared.Part.{Part}
use Rattle.jose_rules.specs.declared.Choice.{Choice}
use Rattle.jose_rules.specs.Names.{typ, cty}
use Rattle.jose_rules.specs.Members.{Has}
use Rattle.jose_rules.specs.Rules.{Terms, choosing}
use Rattle.jose_rules.specs.Header.{of_reading, jose_rules, name_of, value_part, ValueAt, RawText, HeaderChooses}
use Rattle.jose_rules.specs.Facts.{lookup, alg_fact, kid_fact, text_fact, crit_fact, fmt_fact, facts_of, no_facts, choosing_tests, choice_by}
use Rattle.jose_rules.specs.HeaderTests.{located, header_facts, jose_tests, raw_text, header_choice}
use Rattle.jose_rules.proofs.ChoosingLaws.{decides_among, unique_names, choosing_agree, chooses, key_one, kid_one, format_one}

module _ (h : List ℕ) (q : Terms) (t : Derivation) (derives : bytes t ≡ h) where
  -- of one derivation's reading, and of some derivation's
  at : (n : ℕ) → condition (choosing (reading_of t) mnil q) n → (u : Derivation) × (bytes u ≡ h) × condition (choosing (reading_of u) mnil q) n
  at n p = (t, derives, p)

  back : (n : ℕ) → (u : Derivation) × (bytes u ≡ h) × condition (choosing (reading_of u) mnil q) n → condition (choosing (reading_of t) mnil q) n
  back n w = rw (one_reading t w.0 (derives ∙ sym w.1)) w.2

  alike : Alike (choosing (reading_of t) mnil q) (of_reading h (λ ms. choosing ms mnil q))
  alike = alike_on (choosing (reading_of t) mnil q) refl _ (λ n k. (at n, back n))

-- WHAT IS READ

module _ {h : List ℕ} (t : Derivation) (derives : bytes t ≡ h) (shallow : depth_of t ≤ deepest) where
  pub located_is : located h ≡ members_of t
  located_is = ap members_in (ap (read deepest) (sym derives) ∙ complete deepest t shallow)

  pub reading_is : plain_members (located h) ≡ reading_of t
  reading_is = ap plain_members located_is ∙ plain_of t

-- RAW TEXTS

raw_text_lem : (h n : List ℕ) (ms : LMembers) → RawText h n ms (raw_text h n ms)
unfolding raw_text
raw_text_lem h n lnil = inr ((λ q w. w), refl)
raw_text_lem h n (lcons m ms) = go (same (name_of m) n) (decides_same (name_of m) n) (raw_text h n ms) (raw_text_lem h n ms)
  where
    go : (b : Bool) → Decides (name_of m ≡ n) b → (p : Part) → RawText h n ms p → RawText h n (lcons m ms) (cond b (value_part (placed h m)) p)
    go true (holds e) p r = inl (inl (e, refl))
    go false (fails d) p (inl v) = inl (inr v)
    go false (fails d) p (inr w) = inr ((λ q. ⊎_elim (λ x. d x.0) (w.0 q)), w.1)

value_has : (h n : List ℕ) (ms : LMembers) (p : Part) → ValueAt h n ms p → (v : Value) × Has n v (plain_members ms)
unfolding plain_members
value_has h n lnil p x = elim x [ ]
value_has h n (lcons (named f t m v) ms) p (inl w) = (plain_item v, inl (w.0, refl))
value_has h n (lcons (named f t m v) ms) p (inr w) = let x = value_has h n ms p w in (x.0, inr x.1)

raw_one : (h n : List ℕ) (ms : LMembers) → repeated (names (plain_members ms)) ≡ false → (p : Part) → RawText h n ms p → p ≡ raw_text h n ms
unfolding raw_text plain_members names repeated
raw_one h n lnil u p (inl v) = absurd v
raw_one h n lnil u p (inr w) = w.1
raw_one h n (lcons (named f t m v) ms) u p r =
    let o = neither (among m (names (plain_members ms))) (repeated (names (plain_members ms))) u in
    go (same m n) (decides_same m n) (when_false (decides_among m (plain_members ms)) o.0) (raw_one h n ms o.1 p) r
  where
    go : (b : Bool) → Decides (m ≡ n) b → ((x : Value) × Has m x (plain_members ms) → ⊥) → (RawText h n ms p → p ≡ raw_text h n ms)
        → RawText h n (lcons (named f t m v) ms) p → p ≡ cond b (value_part (placed h (named f t m v))) (raw_text h n ms)
    go true (holds e) new ih (inl (inl x)) = x.1
    go true (holds e) new ih (inl (inr x)) = absurd (new (rw e (value_has h n ms p x)))
    go true (holds e) new ih (inr w) = absurd (w.0 _ (inl (e, refl)))
    go false (fails d) new ih (inl (inl x)) = absurd (d x.0)
    go false (fails d) new ih (inl (inr x)) = ih (inl x)
    go false (fails d) new ih (inr w) = ih (inr ((λ q x. w.0 q (inr x)), w.1))

-- THE HEADER

-- of no members
no_members : (ks : List Key) → facts_of mnil ks ≡ no_facts
unfolding facts_of lookup alg_fact kid_fact text_fact crit_fact fmt_fact
no_members ks = refl

-- a choice by its parts
choice_is : (ms : Members) (ks : List Key) (c : Choice) → let d = choice_by (facts_of ms ks) c.typ c.cty in
    c.key_index ≡ d.key_index → c.kid_present ≡ d.kid_present → c.format ≡ d.format → c ≡ d
unfolding choice_by
choice_is ms ks c i k f = rw (← i, ← k, ← f)

module _ (h : List ℕ) (q : Terms) (distinct : Distinct q.keys) where
  -- each test decides its condition where no earlier one holds
  pub jose_agree : Agree (jose_rules h q) (jose_tests h q)
  jose_agree = agree_append (grammar_agree deepest h) (λ n. let no = not_on (grammar_rules deepest h) n in let t = derivation deepest h (no 7) in go t.0 t.1 t.2 (λ w. no 8 (t.0, t.1, w)))
    where
      go : (t : Derivation) → bytes t ≡ h → depth_of t ≤ deepest → (TwiceNamed (object_v (reading_of t)) → ⊥)
          → Agree (of_reading h (λ ms. choosing ms mnil q)) (choosing_tests (header_facts h q.keys) no_facts q.keys)
      go t e d u =
          agree_alike (alike h q t e) (rw (reading_is t e d, ← no_members q.keys) (choosing_agree (reading_of t) (unique_names (reading_of t) u) mnil q distinct))

  -- where none holds, what is computed is what the header decides, ..
  pub header_chooses : NoneOf (jose_rules h q) → HeaderChooses h q (header_choice h q.keys)
  unfolding header_choice choice_by
  header_chooses n =
      let no = not_on (jose_rules h q) n in
      let t = derivation deepest h (no 7) in
      let u : TwiceNamed (object_v (reading_of t.0)) → ⊥ = λ w. no 8 (t.0, t.1, w) in
      let r = none_alike (alike_back (alike h q t.0 t.1)) (none_right (grammar_rules deepest h) (of_reading h (λ ms. choosing ms mnil q)) n) in
      let at = located_is t.0 t.1 t.2 in
      record {
        derivation = t.0;
        derives = t.1;
        shallow = t.2;
        once = u;
        rules = r;
        chooses = rw (reading_is t.0 t.1 t.2) (chooses (reading_of t.0) (unique_names _ u) mnil q distinct r _ _);
        typ_is = rw at (raw_text_lem h typ (members_of t.0));
        cty_is = rw at (raw_text_lem h cty (members_of t.0));
      }

  -- .. and the header decides nothing else
  pub header_chooses_one : (c : Choice) → HeaderChooses h q c → c ≡ header_choice h q.keys
  unfolding header_choice
  header_chooses_one c w =
      let t = w.derivation in
      let u = unique_names (reading_of t) w.once in
      let m : repeated (names (plain_members (members_of t))) ≡ false = rw (plain_of t) u in
      let i = key_one (reading_of t) u q.keys distinct c.typ c.cty w.chooses.key_is in
      let k = kid_one (reading_of t) u q.keys distinct c.typ c.cty w.chooses.kid_is in
      let f = format_one (reading_of t) u q.keys distinct c.typ c.cty w.chooses.format_is in
      let a = raw_one h typ (members_of t) m c.typ w.typ_is in
      let b = raw_one h cty (members_of t) m c.cty w.cty_is in
      rw (reading_is t w.derives w.shallow, located_is t w.derives w.shallow, ← a, ← b) (choice_is (reading_of t) q.keys c i k f)

-- what a header in order breaks no rule of, and what its bytes are
pub header_rules_lem : {h : List ℕ} {q : Terms} {c : Choice} → HeaderChooses h q c → NoneOf (jose_rules h q)
header_rules_lem {h} {q} w =
    none_append (grammar_rules deepest h) (of_reading h (λ ms. choosing ms mnil q))
    ((λ n. n (w.derivation, w.derives, w.shallow)) also (λ x. w.once (rw (one_reading w.derivation x.0 (w.derives ∙ sym x.1)) x.2)) also tt)
    (none_alike (alike h q w.derivation w.derives) w.rules)

pub header_bytes : {h : List ℕ} {q : Terms} {c : Choice} → HeaderChooses h q c → Bytes h
header_bytes w = rw (← w.derives) (derived_bytes w.derivation)
