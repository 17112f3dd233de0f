-- What a decision says: the number is that of the first rule that refuses; where none does, the choice is the header's, and its key is one of the keys.
use Rattle.std.specs.Prelude.{◌≡◌, List, ℕ, zero, suc, ◌≤◌, ◌<◌}
use Rattle.std.proofs.Math.Path.{refl, sym}
use Rattle.std.proofs.Common.{◌∙◌, true≢false, arith}
use Rattle.std.proofs.Math.Bool.{false}
use Rattle.std.proofs.Math.Option.{Option, none, some}
use Rattle.std.proofs.Math.ListN.{length}
use borrow.Author.Tests.{ltb-false}
use Rattle.common.specs.First.{first}
use Rattle.common.proofs.FirstLaws.{all_pass, passed, pass_left, first_passed}
use Rattle.common.specs.Options.{absent, or_else}
use Rattle.json_grammar_rules.specs.Value.{Value, Members}
use Rattle.json_rules.specs.Rules.{longest}
use Rattle.json_characters.specs.Utf8.{utf8}
use Rattle.std.specs.Prelude.{Option as Perhaps, Some, None}
use Rattle.keytable_rules.specs.Key.{Key, find}
use Rattle.keytable_rules.proofs.KeyLaws.{found}
use Rattle.keytable_rules.specs.Table.{bad_table, keys}
use Rattle.jose_rules.specs.declared.Said.{Said}
use Rattle.jose_rules.specs.declared.Choice.{Choice}
use Rattle.jose_rules.specs.Names.{kid}
use Rattle.jose_rules.specs.Members.{string}
use Rattle.jose_rules.specs.Rules.{Terms, terms_of}
use Rattle.jose_rules.specs.Facts.{lookup, pick, kid_fact, facts_of, chosen_key, choice_by}
use Rattle.jose_rules.specs.HeaderTests.{header_facts, jose_tests, header_choice}
use Rattle.jose_rules.specs.Decision.{Refused, Chosen, decision_by, opening_tests, deciding_tests, decision_with, decision}

-- A NUMBER AND A CHOICE, apart again

pub refused_is : (k : ℕ) (c : Choice) {n : ℕ} → Refused n ≡ decision_by k c → (n ≡ k) × (n ≡ 0 → ⊥)
refused_is zero c e = absurd (let z : ◌≡◌ {A = ℕ} 0 1 = cc in omega arith)
refused_is (suc k) c {n} e = let f : n ≡ suc k = cc in (f, λ z. omega arith)

pub chosen_is : (k : ℕ) (c : Choice) {d : Choice} → Chosen d ≡ decision_by k c → (k ≡ 0) × (d ≡ c)
chosen_is zero c e = (refl, cc)
chosen_is (suc k) c e = absurd (let z : ◌≡◌ {A = ℕ} 0 1 = cc in omega arith)

-- THE KEY

-- the chosen key is one of the keys
pub chosen_within : (ms : Members) (ks : List Key) {i : ℕ} → some i ≡ chosen_key (facts_of ms ks).kid → i < length ks
unfolding facts_of kid_fact
chosen_within ms ks {i} e = go (lookup kid ms) e
  where
    never : {B : Type 0} → some i ≡ none → B
    never e = absurd (let z : ◌≡◌ {A = ℕ} 0 1 = cc in omega arith)

    by_id : (f : Perhaps ℕ) → ((j : ℕ) → f ≡ Some j → j < length ks) → some i ≡ chosen_key (Said.Is f) → i < length ks
    by_id (Some j) h e = h i (let x : j ≡ i = cc in rw x)
    by_id None h e = never e

    said : (o : Option (List ℕ)) → some i ≡ chosen_key (pick Said.Absent Said.Wrong (λ s. Said.Is (find (utf8 s) ks)) o) → i < length ks
    said none e = never e
    said (some s) e = by_id (find (utf8 s) ks) (λ j f. (found f).within) e

    go : (o : Option Value) → some i ≡ chosen_key (kid_fact ks o) → i < length ks
    go none e = never e
    go (some v) e = said (string v) e

module _ (h : List ℕ) (q : Terms) where
  pub choice_within : first (jose_tests h q) ≡ 0 → (header_choice h q.keys).key_index < length q.keys
  unfolding header_choice choice_by
  choice_within e = go (chosen_key (header_facts h q.keys).kid) refl (passed (jose_tests h q) (all_pass (jose_tests h q) refl e) 12)
    where
      go : (o : Option ℕ) → chosen_key (header_facts h q.keys).kid ≡ o → absent o ≡ false → or_else (chosen_key (header_facts h q.keys).kid) 0 < length q.keys
      go none e f = absurd (true≢false f)
      go (some i) e f = rw e (chosen_within _ q.keys (sym e))

  -- for callers of `decide_with`
  pub with_refused : {n : ℕ} → Refused n ≡ decision_with h q → (n ≡ first (jose_tests h q)) × (n ≡ 0 → ⊥)
  unfolding decision_with
  with_refused e = refused_is (first (jose_tests h q)) (header_choice h q.keys) e

  pub with_chosen : {d : Choice} → Chosen d ≡ decision_with h q → (first (jose_tests h q) ≡ 0) × (d ≡ header_choice h q.keys) × (d.key_index < length q.keys)
  unfolding decision_with
  with_chosen {d} e =
      let c = chosen_is (first (jose_tests h q)) (header_choice h q.keys) e in
      (c.0, c.1, rw c.1 (choice_within c.0))

-- for callers of `decide`
module _ (h T : List ℕ) where
  pub refused : {n : ℕ} → Refused n ≡ decision h T → (n ≡ first (deciding_tests h T)) × (n ≡ 0 → ⊥)
  unfolding decision
  refused e = refused_is (first (deciding_tests h T)) (header_choice h (keys T)) e

  pub chosen_by : {d : Choice} → Chosen d ≡ decision h T
      → (bad_table T ≡ false) × (length h ≤ longest) × (first (deciding_tests h T) ≡ 0) × (d ≡ header_choice h (keys T)) × (d.key_index < length (keys T))
  unfolding decision
  chosen_by {d} e =
      let c = chosen_is (first (deciding_tests h T)) (header_choice h (keys T)) e in
      let all = all_pass (deciding_tests h T) refl c.0 in
      let pass = passed (deciding_tests h T) all in
      let rest = sym (first_passed (opening_tests h T) (jose_tests h (terms_of T)) (pass_left (opening_tests h T) (jose_tests h (terms_of T)) all)) ∙ c.0 in
      (pass 2, ltb-false _ _ (pass 5), c.0, c.1, rw c.1 (choice_within h (terms_of T) rest))
