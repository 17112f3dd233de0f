-- Which key a header names: the one that it decides for, and no other; a header that names none decides nothing.
use Rattle.std.specs.Prelude.{◌≡◌, refl, true, false, List, [], ℕ}
use Rattle.std.proofs.Common.{sym, ap, ◌∙◌}
use Rattle.common.specs.First.{first, condition, holds}
use Rattle.common.proofs.FirstLaws.{none_stands, not_on}
use Rattle.common.proofs.Decided.{when_false, decided}
use Rattle.json_grammar_rules.specs.Value.{among, names, plain_members}
use Rattle.json_grammar_rules.specs.Grammar.{reading_of}
use Rattle.json_grammar_rules.proofs.Unique.{one_reading}
use Rattle.json_characters.specs.Utf8.{utf8}
use Rattle.json_rules.specs.Rules.{deepest, grammar_rules}
use Rattle.json_rules.specs.Tests.{grammar_tests}
use Rattle.json_rules.proofs.Promises.{derivation, grammar_agree}
use Rattle.keytable_rules.specs.Key.{Key, key}
use Rattle.jose_rules.specs.declared.Choice.{Choice}
use Rattle.jose_rules.specs.Names.{kid}
use Rattle.jose_rules.specs.Members.{string, Says}
use Rattle.jose_rules.specs.Rules.{Terms}
use Rattle.jose_rules.specs.Header.{jose_rules, NamesKey, NamesNoKey, HeaderChooses}
use Rattle.jose_rules.proofs.OnlyOne.{only_is}
use Rattle.jose_rules.proofs.ChoosingLaws.{decides_among, unique_names, only_said}
use Rattle.jose_rules.specs.HeaderTests.{located}
use Rattle.jose_rules.proofs.HeaderLaws.{reading_is}

module _ {h : List ℕ} {q : Terms} {c : Choice} (w : HeaderChooses h q c) where
  -- what it decides says that `kid` is there, ..
  pub kid_there_lem : c.kid_present ≡ true
  kid_there_lem = let s = w.chooses.key_is.1 in decided w.chooses.kid_is (holds (s.0, s.1))

  -- .. the key is the one that it names, ..
  pub names_its_key : NamesKey h q.keys c.key_index
  names_its_key = (w.derivation, w.derives, w.chooses.key_is)

  -- .. no other id is named, of whichever keys, ..
  pub names_one : {ks : List Key} {i : ℕ} → NamesKey h ks i → (key ks i).id ≡ (key q.keys c.key_index).id
  names_one (t, e, (s, says, named)) =
      let ms = reading_of w.derivation in
      let k = w.chooses.key_is in
      let said : Says string kid ms s = rw (one_reading w.derivation t (w.derives ∙ sym e)) says in
      let one = only_said ms (unique_names ms w.once) string kid in
      named.is ∙ ap utf8 (only_is [] one said ∙ sym (only_is [] one k.1)) ∙ sym k.2.is

  -- .. and it isn't a header that names none.
  pub names_some : NamesNoKey h → ⊥
  names_some (t, e, none) = let s = w.chooses.key_is.1 in none s.0 (rw (one_reading t w.derivation (e ∙ sym w.derives)) s.1)

-- rule 12 holds of a header that names none, whichever keys there are
pub nameless_rule : {h : List ℕ} (q : Terms) → NamesNoKey h → condition (jose_rules h q) 12
nameless_rule q (t, e, none) = (t, e, λ i c. none c.1.0 c.1.1)

-- how it is seen that a header names none
pub nameless_read : (h : List ℕ) → first (grammar_tests deepest h) ≡ 0 → among kid (names (plain_members (located h))) ≡ false → NamesNoKey h
nameless_read h e none =
    let t = derivation deepest h (not_on (grammar_rules deepest h) ((none_stands (grammar_agree deepest h) refl).0 e) 7) in
    (t.0, t.1, λ v k. when_false (decides_among kid (reading_of t.0)) (rw (← reading_is t.0 t.1 t.2) none) (v, k))
