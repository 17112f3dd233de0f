-- The tests decide the conditions: the answer is the first of 9 to 14 that holds, and where none does, what is chosen is the only choice.
use Rattle.std.specs.Prelude.{◌≡◌, ◌↔◌, ◌⊎◌, Bool, cond, List, [], ◌∷◌, ℕ, ℤ, pos, negsuc, ◌<ℤ◌}
use Rattle.std.proofs.Math.Path.{refl, sym, ap}
use Rattle.std.proofs.Common.{◌∙◌, inr, ⊎_elim, arith}
use Rattle.std.proofs.Math.Logic.{inl}
use Rattle.std.proofs.Math.Bool.{true, false, not}
use Rattle.std.proofs.Math.Option.{Option, none, some}
use Rattle.std.proofs.Math.IntN.{nat_abs}
use Rattle.std.specs.Int.Signed.{lt_z}
use Rattle.common.specs.First.{Decides, holds, fails, Agree, done, ◌by◌, among, numbers, condition, earlier, NoneOf, first}
use Rattle.common.proofs.FirstLaws.{decides_or, decides_not, decides_iff, first_stands, none_stands, not_on}
use Rattle.common.specs.Options.{absent, given, bind, or_else}
use Rattle.json_grammar_rules.specs.Value.{Value, Members, object_v, mnil, mcons, among as amongNames, repeated, names}
use Rattle.json_grammar_rules.specs.Twice.{ObjectIn, TwiceNamed}
use Rattle.json_grammar_rules.proofs.TwiceLaws.{decides_repeated}
use Rattle.json_characters.specs.Utf8.{utf8}
use Rattle.std.specs.Prelude.{Option as Perhaps, Some as Known, None}
use Rattle.keytable_rules.specs.Key.{Key, key, Distinct, Named, find, allows_hs256, allows_format}
use Rattle.keytable_rules.proofs.KeyLaws.{found, not_found, find_is}
use Rattle.common.proofs.Decided.{when_false, decided, decides_false, test_false}
use Rattle.common.specs.Same.{same}
use Rattle.common.proofs.SameLaws.{decides_same}
use Rattle.common.specs.Truth.{neither}
use Rattle.jose_rules.specs.declared.Said.{Said}
use Rattle.jose_rules.specs.declared.Algorithm.{Algorithm}
use Rattle.jose_rules.specs.declared.Part.{Part}
use Rattle.jose_rules.specs.Names.{alg, kid, typ, cty, crit, fmt, HS256}
use Rattle.jose_rules.specs.Members.{Has, Lacks, Meaning, string, strings, integer, Says, Wrong, Some}
use Rattle.jose_rules.specs.Rules.{Terms, MissingOrWrong, Listed, CriticalBroken, Chosen, ChosenKey, Format, Lacking, choosing, Chooses}
use Rattle.jose_rules.proofs.OnlyOne.{Only, nothing, just, decides_none, decides_some, decides_absent, only_there, only_is, only_content, only_bind, only_or}
use Rattle.jose_rules.specs.Facts.{lookup, fact, said, alg_by, found_by, names_by, alg_fact, kid_fact, text_fact, crit_fact, fmt_fact, facts_of, is_missing, is_wrong, is_there, alg_other, lists_badly, index_of, chosen_key, format_by, lacking, missing_or_wrong, critical_broken, choosing_tests, choice_by}
use Rattle.jose_rules.proofs.FactLaws.{by_cases, wrong_cases, there_cases, given_cases, bind_cases}
use Rattle.jose_rules.proofs.CriticalLaws.{any_of, empty, lists_badly_lem}

-- MEMBERS BY NAME

pub decides_among : (n : List ℕ) (ms : Members) → Decides ((v : Value) × Has n v ms) (amongNames n (names ms))
unfolding amongNames names
decides_among n mnil = fails (λ h. h.1)
decides_among n (mcons m w ms) = decides_iff there back (decides_or (decides_same n m) (decides_among n ms))
  where
    there : (n ≡ m) ⊎ ((v : Value) × Has n v ms) → (v : Value) × Has n v (mcons m w ms)
    there (inl e) = (w, inl (sym e, refl))
    there (inr h) = (h.0, inr h.1)

    back : (v : Value) × Has n v (mcons m w ms) → (n ≡ m) ⊎ ((v : Value) × Has n v ms)
    back (v, inl e) = inl (sym e.0)
    back (v, inr h) = inr (v, h)

-- a member is there exactly when one is found
decides_has : (n : List ℕ) (ms : Members) → Decides ((v : Value) × Has n v ms) (not (absent (lookup n ms)))
unfolding lookup
decides_has n mnil = fails (λ h. h.1)
decides_has n (mcons m w ms) = go (same m n) (decides_same m n) (decides_has n ms)
  where
    go : (b : Bool) → Decides (m ≡ n) b → Decides ((v : Value) × Has n v ms) (not (absent (lookup n ms)))
        → Decides ((v : Value) × Has n v (mcons m w ms)) (not (absent (cond b (some w) (lookup n ms))))
    go true (holds e) d = holds (w, inl (e, refl))
    go false (fails e) d = decides_iff (λ h. (h.0, inr h.1)) (λ h. ⊎_elim (λ x. absurd (e x.0)) (λ x. (h.0, x)) h.1) d

-- where no name stands twice, the first member with a name is the only one
pub looked : (n : List ℕ) (ms : Members) → repeated (names ms) ≡ false → Only (λ v. Has n v ms) (lookup n ms)
unfolding lookup repeated names
looked n mnil e = nothing (λ v h. h)
looked n (mcons m w ms) e =
    let f = neither (amongNames m (names ms)) (repeated (names ms)) e in
    go (same m n) (decides_same m n) (when_false (decides_among m ms) f.0) (lookup n ms) (looked n ms f.1)
  where
    go : (b : Bool) → Decides (m ≡ n) b → ((v : Value) × Has m v ms → ⊥) → (o : Option Value) → Only (λ v. Has n v ms) o
        → Only (λ v. Has n v (mcons m w ms)) (cond b (some w) o)
    go true (holds e) new o r = just (inl (e, refl)) (λ v. ⊎_elim (λ h. sym h.1) (λ h. absurd (new (v, rw (e) h))))
    go false (fails d) new none (nothing h) = nothing (λ v. ⊎_elim (λ e. d e.0) (h v))
    go false (fails d) new (some v) (just h u) = just (inr h) (λ v. ⊎_elim (λ e. absurd (d e.0)) (u v))

-- what rule 8 leaves
pub unique_names : (ms : Members) → (TwiceNamed (object_v ms) → ⊥) → repeated (names ms) ≡ false
unfolding ObjectIn
unique_names ms e = test_false (decides_repeated (names ms)) (λ r. e (ms, inl refl, r))

-- NAMES, KEYS AND FORMATS

decides_any : {P : List ℕ → Type 0} {p : List ℕ → Bool} → ((n : List ℕ) → Decides (P n) (p n)) → (ns : List (List ℕ)) → Decides (Some P ns) (any_of p ns)
unfolding any_of
decides_any d [] = fails (λ h. h)
decides_any d (n ∷ ns) = decides_or (d n) (decides_any d ns)

decides_empty : (ns : List (List ℕ)) → Decides (ns ≡ []) (empty ns)
decides_empty [] = holds refl
decides_empty (n ∷ ns) = fails (λ e. let z : ◌≡◌ {A = ℕ} 0 1 = cc in omega arith)

-- of the one extension
alone : {P : Type 0} {b : Bool} → Decides P b → Decides (P ⊎ ⊥) b
alone d = decides_iff inl (⊎_elim (λ p. p) (λ x. absurd x)) d

decides_lt_z : (a b : ℤ) → Decides (a <ℤ b) (lt_z a b)
decides_lt_z a b = go (lt_z a b) refl
  where
    go : (t : Bool) → lt_z a b ≡ t → Decides (a <ℤ b) t
    go true e = holds (record { lt = rw e tt })
    go false e = fails (λ h. rw e at h.lt)

decides_lacking : (k : Key) (z : ℤ) → Decides (Lacking k z) (lacking k z)
unfolding lacking
decides_lacking k z = decides_or (decides_lt_z z (pos 1)) (decides_or (decides_lt_z (pos 8) z) (decides_false (allows_format k (nat_abs z))))

natural : (z : ℤ) → (z <ℤ pos 1 → ⊥) → pos (nat_abs z) ≡ z
natural (pos n) h = refl
natural (negsuc n) h = absurd (h (record { lt = tt }))

only_named : (id : List ℕ) (ks : List Key) → Distinct ks → Only (Named id ks) (index_of (find id ks))
only_named id ks d = go (find id ks) refl
  where
    go : (f : Perhaps ℕ) → find id ks ≡ f → Only (Named id ks) (index_of f)
    go (Known i) e = just (found e) (λ j n. let f = find_is d n in cc)
    go None e = nothing (not_found e)

-- the first two of three together
first_two : {P Q R : Type 0} → (P ⊎ Q) ⊎ R → P ⊎ Q ⊎ R
first_two (inl (inl p)) = inl p
first_two (inl (inr q)) = inr (inl q)
first_two (inr r) = inr (inr r)

joined_two : {P Q R : Type 0} → P ⊎ Q ⊎ R → (P ⊎ Q) ⊎ R
joined_two (inl p) = inl (inl p)
joined_two (inr (inl q)) = inl (inr q)
joined_two (inr (inr r)) = inr r

-- whether a member is there, by what is said of it
decides_there : {A B : Type 0} (n : List ℕ) (ms : Members) (f : A → B) (k : Meaning A) → Decides ((v : Value) × Has n v ms) (is_there (said f k (lookup n ms)))
decides_there n ms f k = rw (by_cases k is_there {f' = λ _. true} refl refl (λ a. refl) (lookup n ms), ← there_cases k (lookup n ms)) (decides_has n ms)

-- whether `crit` is there
crit_there_lem : (us : Members) → Decides ((v : Value) × Has crit v us) (is_there (crit_fact (lookup crit us)))
unfolding crit_fact
crit_there_lem us = decides_there crit us names_by strings

other : (s : List ℕ) → alg_other (Said.Is (alg_by s)) ≡ not (same s HS256)
other s = go (same s HS256)
  where
    go : (b : Bool) → alg_other (Said.Is (cond b Algorithm.HS256 Algorithm.Other)) ≡ not b
    go true = refl
    go false = refl

-- an absent format is 1
some_or : (o : Option Value) → cond (absent o) (some (pos 1)) (bind o integer) ≡ fact (some (pos 1)) none some integer o
some_or none = refl
some_or (some v) = go (integer v)
  where
    go : (o : Option ℤ) → o ≡ fact (some (pos 1)) none some (λ _. o) (some v)
    go none = refl
    go (some z) = refl

-- the chosen key is the one that `kid` names, where it says something
chosen_named : (ks : List Key) (o : Option Value) → chosen_key (kid_fact ks o) ≡ bind (bind o string) (λ s. index_of (find (utf8 s) ks))
unfolding kid_fact
chosen_named ks o =
    by_cases string chosen_key {a' = none} {w' = none} refl refl (λ s. refl) o ∙ sym (bind_cases string (λ s. index_of (find (utf8 s) ks)) o)

module _ (ms : Members) (unique : repeated (names ms) ≡ false) where
  -- WHAT FACTS SAY of a member

  pub only_said : {A : Type 0} (k : Meaning A) (n : List ℕ) → Only (Says k n ms) (bind (lookup n ms) k)
  only_said k n = only_bind (looked n ms unique) (λ v. only_content (k v))

  decides_lacks : (n : List ℕ) → Decides (Lacks n ms) (absent (lookup n ms))
  decides_lacks n = decides_none (looked n ms unique)

  decides_wrong : {A : Type 0} (k : Meaning A) (n : List ℕ) → Decides (Wrong k n ms) (fact false true (λ _. false) k (lookup n ms))
  decides_wrong k n = rw (← wrong_cases k (lookup n ms)) (decides_some (looked n ms unique) (λ v. decides_absent (k v)))

  -- RULE 9

  decides_alg : Decides (Lacks alg ms ⊎ Wrong string alg ms) (is_missing (alg_fact (lookup alg ms)))
  unfolding alg_fact
  decides_alg =
      rw (by_cases string is_missing {a' = true} {w' = true} {f' = λ _. false} refl refl (λ s. refl) (lookup alg ms))
      (go (lookup alg ms) (decides_lacks alg) (decides_wrong string alg))
    where
      go : (o : Option Value) → Decides (Lacks alg ms) (absent o) → Decides (Wrong string alg ms) (fact false true (λ _. false) string o)
          → Decides (Lacks alg ms ⊎ Wrong string alg ms) (fact true true (λ _. false) string o)
      go none (holds l) w = holds (inl l)
      go (some v) (fails l) w = here (string v) w
        where
          here : (s : Option (List ℕ)) → Decides (Wrong string alg ms) (fact false true (λ _. false) (λ _. s) (some v))
              → Decides (Lacks alg ms ⊎ Wrong string alg ms) (fact true true (λ _. false) (λ _. s) (some v))
          here none (holds w) = holds (inr w)
          here (some s) (fails w) = fails (⊎_elim l w)

  -- a member of the wrong kind, by what is said of it
  decides_said : {A B : Type 0} (k : Meaning A) (n : List ℕ) (f : A → B) → Decides (Wrong k n ms) (is_wrong (said f k (lookup n ms)))
  decides_said k n f = rw (by_cases k is_wrong {f' = λ _. false} refl refl (λ a. refl) (lookup n ms)) (decides_wrong k n)

  decides_kid : (ks : List Key) → Decides (Wrong string kid ms) (is_wrong (kid_fact ks (lookup kid ms)))
  unfolding kid_fact
  decides_kid ks = decides_said string kid (found_by ks)

  decides_text : (n : List ℕ) → Decides (Wrong string n ms) (is_wrong (text_fact (lookup n ms)))
  unfolding text_fact
  decides_text n = decides_said string n (λ _. tt {0})

  decides_crit : Decides (Wrong strings crit ms) (is_wrong (crit_fact (lookup crit ms)))
  unfolding crit_fact
  decides_crit = decides_said strings crit names_by

  decides_fmt : Decides (Wrong integer fmt ms) (is_wrong (fmt_fact (lookup fmt ms)))
  unfolding fmt_fact
  decides_fmt = decides_said integer fmt (λ z. z)

  decides_9 : (ks : List Key) → Decides (MissingOrWrong ms) (missing_or_wrong (facts_of ms ks))
  unfolding missing_or_wrong facts_of
  decides_9 ks =
      decides_iff first_two joined_two
      (decides_or decides_alg (decides_or (decides_kid ks) (decides_or (decides_text typ) (decides_or (decides_text cty) (decides_or decides_crit decides_fmt)))))

  -- RULE 10

  decides_listed : (n : List ℕ) → Decides (Listed n ms) (given (λ ns. any_of (λ m. same m n) ns) (bind (lookup crit ms) strings))
  decides_listed n = decides_some (only_said strings crit) (decides_any (λ m. decides_same m n))

  fmt_there_lem : not (absent (lookup fmt ms)) ≡ is_there (fmt_fact (lookup fmt ms))
  unfolding fmt_fact
  fmt_there_lem = there_cases integer (lookup fmt ms) ∙ sym (by_cases integer is_there refl refl (λ z. refl) (lookup fmt ms))

  decides_10 : (us : Members) (ks : List Key) → Decides (CriticalBroken ms us) (critical_broken (facts_of ms ks) (facts_of us ks))
  unfolding critical_broken facts_of
  decides_10 us ks =
      decides_iff first_two joined_two
      (decides_or {a = lists_badly (crit_fact (lookup crit ms)) (is_there (fmt_fact (lookup fmt ms)))}
      (rw (← fmt_there_lem, ← lists_badly_lem ms (lookup crit ms))
      (decides_or
      (decides_some (only_said strings crit) (λ ns.
      decides_or (decides_empty ns) (decides_or (decides_repeated ns)
      (decides_or (decides_any (λ n. decides_not (alone (decides_same n fmt))) ns) (decides_any decides_lacks ns)))))
      (alone (decides_some (looked fmt ms unique) (λ v. decides_not (decides_listed fmt))))))
      (crit_there_lem us))

  -- RULES 11 TO 14, and what is chosen

  decides_kid_there : (ks : List Key) → Decides ((v : Value) × Has kid v ms) (is_there (kid_fact ks (lookup kid ms)))
  unfolding kid_fact
  decides_kid_there ks = decides_there kid ms (found_by ks) string

  decides_11 : Decides ((s : List ℕ) × Says string alg ms s × (s ≡ HS256 → ⊥)) (alg_other (alg_fact (lookup alg ms)))
  unfolding alg_fact
  decides_11 =
      rw (by_cases string alg_other {f' = λ s. not (same s HS256)} refl refl other (lookup alg ms), ← given_cases string (λ s. not (same s HS256)) (lookup alg ms))
      (decides_some (only_said string alg) (λ s. decides_not (decides_same s HS256)))

  only_format : Only (Format ms) (format_by (fmt_fact (lookup fmt ms)))
  unfolding fmt_fact
  only_format =
      rw (by_cases integer format_by refl refl (λ z. refl) (lookup fmt ms), ← some_or (lookup fmt ms))
      (only_or (looked fmt ms unique) (λ z w. (w.0, w.1)) (only_said integer fmt) (just refl (λ z e. e)))

  some_format : (Wrong integer fmt ms → ⊥) → ((z : ℤ) → Format ms z → ⊥) → ⊥
  some_format w k = k (pos 1) (inr ((λ v h. go v h (integer v) refl), refl))
    where
      go : (v : Value) → Has fmt v ms → (o : Option ℤ) → integer v ≡ o → ⊥
      go v h none e = w (v, h, e)
      go v h (some z) e = k z (inl (v, h, e))

  module _ (ks : List Key) (distinct : Distinct ks) where
    only_chosen : Only (Chosen ms ks) (chosen_key (kid_fact ks (lookup kid ms)))
    only_chosen = rw (chosen_named ks (lookup kid ms)) (only_bind (only_said string kid) (λ s. only_named (utf8 s) ks distinct))

    -- of the chosen key
    decides_chosen : {P : Key → Type 0} {p : Key → Bool} → ((k : Key) → Decides (P k) (p k)) → Decides (ChosenKey ms ks P) (given (λ i. p (key ks i)) (chosen_key (kid_fact ks (lookup kid ms))))
    decides_chosen d = decides_some only_chosen (λ i. d (key ks i))

  module _ (us : Members) (q : Terms) (distinct : Distinct q.keys) where
    -- EACH TEST DECIDES ITS CONDITION
    pub choosing_agree : Agree (choosing ms us q) (choosing_tests (facts_of ms q.keys) (facts_of us q.keys) q.keys)
    unfolding facts_of
    choosing_agree =
        decides_9 q.keys
        by λ _. decides_10 us q.keys
        by λ _. decides_11
        by λ _. decides_none (only_chosen q.keys distinct)
        by λ _. decides_chosen q.keys distinct (λ k. decides_false (allows_hs256 k))
        by λ _. decides_chosen q.keys distinct (λ k. decides_some only_format (decides_lacking k))
        by λ _. done

    -- THE ANSWER, among 9 to 14, is the first whose condition holds; ..
    pub choosing_first : (n : ℕ) → among n (numbers (choosing ms us q)) ≡ true
        → (first (choosing_tests (facts_of ms q.keys) (facts_of us q.keys) q.keys) ≡ n) ↔ (condition (choosing ms us q) n × NoneOf (earlier (choosing ms us q) n))
    choosing_first n e = first_stands choosing_agree refl n e

    -- .. 0 exactly when none does; ..
    pub choosing_none : (first (choosing_tests (facts_of ms q.keys) (facts_of us q.keys) q.keys) ≡ 0) ↔ NoneOf (choosing ms us q)
    choosing_none = none_stands choosing_agree refl

    -- .. and then what is chosen ..
    pub chooses : NoneOf (choosing ms us q) → (t c : Part) → Chooses ms q.keys (choice_by (facts_of ms q.keys) t c)
    unfolding choice_by facts_of
    chooses h t c =
        let no = not_on (choosing ms us q) h in
        let i : Chosen ms q.keys (or_else (chosen_key (kid_fact q.keys (lookup kid ms))) 0) = only_there 0 (only_chosen q.keys distinct) (no 12) in
        let f : Format ms (or_else (format_by (fmt_fact (lookup fmt ms))) (pos 0)) = only_there (pos 0) only_format (some_format (λ w. no 9 (inr (inr (inr (inr (inr (inr w)))))))) in
        record {
          key_is = i;
          kid_is = decides_kid_there q.keys;
          format_is = rw (natural (or_else (format_by (fmt_fact (lookup fmt ms))) (pos 0)) (λ l. no 14 (_, i, (_, f, inl l)))) f;
        }

  -- .. is the only choice
  module _ (ks : List Key) (distinct : Distinct ks) (t c : Part) where
    pub key_one : {i : ℕ} → Chosen ms ks i → i ≡ (choice_by (facts_of ms ks) t c).key_index
    unfolding choice_by facts_of
    key_one h = only_is 0 (only_chosen ks distinct) h

    pub format_one : {f : ℕ} → Format ms (pos f) → f ≡ (choice_by (facts_of ms ks) t c).format
    unfolding choice_by facts_of
    format_one h = ap nat_abs (only_is (pos 0) only_format h)

    pub kid_one : {b : Bool} → Decides ((v : Value) × Has kid v ms) b → b ≡ (choice_by (facts_of ms ks) t c).kid_present
    unfolding choice_by facts_of
    kid_one h = decided h (decides_kid_there ks)
