-- What `decide` answers, by the rules: the number of the first that holds; where none does, what the header decides.
-- h: a header; T: a table.
use Rattle.std.specs.Prelude.{◌≡◌, refl, ◌↔◌, true, List, ℕ, zero, suc}
use Rattle.std.proofs.Common.{sym, ◌∙◌}
use Rattle.std.proofs.Math.Path.{ap}
use Rattle.common.specs.First.{first, among, numbers, condition, earlier, NoneOf, Agree, done, ◌by◌}
use Rattle.common.proofs.FirstLaws.{first_stands, none_stands, not_on, agree_append, decides_lt}
use Rattle.common.proofs.Decided.{test_false}
use Rattle.keytable_rules.specs.Key.{Distinct}
use Rattle.keytable_rules.specs.Table.{Wellformed, keys}
use Rattle.keytable_rules.proofs.TableLaws.{decides_bad}
use Rattle.keytable_rules.proofs.GoodKeys.{keys_distinct}
use Rattle.jose_rules.specs.declared.Choice.{Choice}
use Rattle.jose_rules.specs.Rules.{terms_of}
use Rattle.jose_rules.specs.Header.{HeaderChooses}
use Rattle.jose_rules.specs.Deciding.{opening_rules, deciding}
use Rattle.jose_rules.specs.HeaderTests.{header_choice}
use Rattle.jose_rules.proofs.HeaderLaws.{jose_agree, header_chooses_one}
use Rattle.jose_rules.specs.Decision.{Decision, Refused, Chosen, decision_by, deciding_tests, decision}

-- the specification's number of a decision
abbrev pub answer_of : Decision → ℕ
answer_of (Refused n) = n
answer_of (Chosen c) = 0

-- THE TESTS decide them

pub distinct : (T : List ℕ) → ((Wellformed T → ⊥) → ⊥) → Distinct (keys T)
distinct T w = keys_distinct T (test_false (decides_bad T) w)

pub deciding_agree : (h T : List ℕ) → Agree (deciding h T) (deciding_tests h T)
deciding_agree h T =
    agree_append (decides_bad T by λ _. decides_lt _ _ by λ _. done) (λ n. jose_agree h (terms_of T) (distinct T (not_on (opening_rules h T) n 2)))

decided_number : (n : ℕ) (c : Choice) → answer_of (decision_by n c) ≡ n
decided_number zero c = refl
decided_number (suc n) c = refl

module _ (h T : List ℕ) where
  decision_number : answer_of (decision h T) ≡ first (deciding_tests h T)
  unfolding decision
  decision_number = decided_number (first (deciding_tests h T)) (header_choice h (keys T))

  -- THE ANSWER is n exactly when the condition of n holds and no earlier one does; ..
  pub decision_first : (n : ℕ) → among n (numbers (deciding h T)) ≡ true
      → (answer_of (decision h T) ≡ n) ↔ (condition (deciding h T) n × NoneOf (earlier (deciding h T) n))
  decision_first n e = rw decision_number (first_stands (deciding_agree h T) refl n e)

  -- .. 0 exactly when none holds; ..
  pub decision_none : (answer_of (decision h T) ≡ 0) ↔ NoneOf (deciding h T)
  decision_none = rw decision_number (none_stands (deciding_agree h T) refl)

  -- .. and then what is chosen is what the header decides
  pub decision_chooses : NoneOf (deciding h T) → (c : Choice) → HeaderChooses h (terms_of T) c → decision h T ≡ Chosen c
  unfolding decision
  decision_chooses n c w =
      ap (λ (k : ℕ). decision_by k (header_choice h (keys T))) ((none_stands (deciding_agree h T) refl).1 n)
      ∙ ap Chosen (sym (header_chooses_one h (terms_of T) (distinct T (not_on (deciding h T) n 2)) c w))
