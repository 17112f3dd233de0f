-- The flags of `crit` say whether its list breaks its rules. The only name that it may list is `fmt`, so that two names are always bad.
use Rattle.std.specs.Prelude.{◌≡◌, Bool, cond, ◌||◌, ℕ}
use Rattle.std.proofs.Math.Path.{refl, sym, ap}
use Rattle.std.proofs.Common.{◌∙◌}
use Rattle.std.proofs.Math.Bool.{true, false, not, or-true}
use mathlib.Core.List.{List, [], ◌∷◌}
use Rattle.std.proofs.Math.Option.{Option, none, some}
use Rattle.common.specs.First.{Decides, holds}
use Rattle.common.specs.Options.{absent, given, bind}
use Rattle.common.specs.Same.{same}
use Rattle.common.proofs.SameLaws.{decides_same}
use Rattle.json_grammar_rules.specs.Value.{Value, Members, among, repeated}
use Rattle.jose_rules.specs.declared.Said.{Said}
use Rattle.jose_rules.specs.declared.Listed.{Listed}
use Rattle.jose_rules.specs.Names.{fmt}
use Rattle.jose_rules.specs.Members.{strings}
use Rattle.jose_rules.specs.Facts.{lookup, pick, fact, names_from, names_by, crit_fact, lists_badly}
use Rattle.jose_rules.proofs.FactLaws.{by_cases}

unfoldable pub any_of : (List ℕ → Bool) → List (List ℕ) → Bool
any_of p [] = false
any_of p (n ∷ ns) = p n || any_of p ns

abbrev pub empty : List (List ℕ) → Bool
empty [] = true
empty (n ∷ ns) = false

-- a list that is there
abbrev bad_list : Listed → Bool → Bool
bad_list c there = lists_badly (Said.Is c) there

-- a name that stood twice or may not be listed stays so
stays_bad : (ns : List (List ℕ)) (l there : Bool) → bad_list (names_from l true ns) there ≡ true
unfolding names_from
stays_bad [] l there = refl
stays_bad (n ∷ ns) l there = go (same n fmt) (stays_bad ns true there) (stays_bad ns l there)
  where
    go : (t : Bool) → bad_list (names_from true true ns) there ≡ true → bad_list (names_from l true ns) there ≡ true
        → bad_list (cond t (names_from true true ns) (names_from l true ns)) there ≡ true
    go true x y = x
    go false x y = y

two_bad : (n m : List ℕ) (ns : List (List ℕ)) (there : Bool) → bad_list (names_from false false (n ∷ m ∷ ns)) there ≡ true
unfolding names_from
two_bad n m ns there = go (same n fmt) (same m fmt)
  where
    go : (a b : Bool) → bad_list (cond a (cond b (names_from true true ns) (names_from true true ns)) (cond b (names_from true true ns) (names_from false true ns))) there ≡ true
    go true true = stays_bad ns true there
    go true false = stays_bad ns true there
    go false true = stays_bad ns true there
    go false false = stays_bad ns false there

module _ (ms : Members) where
  -- the faults of a list of names
  abbrev pub faults : List (List ℕ) → Bool
  faults ns = empty ns || (repeated ns || (any_of (λ n. not (same n fmt)) ns || any_of (λ n. absent (lookup n ms)) ns))

  -- `fmt` is there
  abbrev there : Bool
  there = not (absent (lookup fmt ms))

  first_other : (n : List ℕ) (ns : List (List ℕ)) → same n fmt ≡ false → faults (n ∷ ns) ≡ true
  unfolding any_of
  first_other n ns e = rw e (or-true (repeated (n ∷ ns)))

  two_names : (n m : List ℕ) (ns : List (List ℕ)) → faults (n ∷ m ∷ ns) ≡ true
  unfolding any_of repeated among
  two_names n m ns = go (same n fmt) refl (decides_same n fmt) (same m fmt) refl (decides_same m fmt)
    where
      go : (a : Bool) → same n fmt ≡ a → Decides (n ≡ fmt) a → (b : Bool) → same m fmt ≡ b → Decides (m ≡ fmt) b → faults (n ∷ m ∷ ns) ≡ true
      go false e p b f q = first_other n (m ∷ ns) e
      go true e p false f q = rw (e, f) (or-true (repeated (n ∷ m ∷ ns)))
      go true e (holds p) true f (holds q) = let s : same n m ≡ true = ap (λ (k : List ℕ). same n k) q ∙ e in rw s

  unlisted : (b : Bool) → given (λ v. not b) (lookup fmt ms) ≡ cond b false there
  unlisted b = go (lookup fmt ms) b
    where
      go : (o : Option Value) (b : Bool) → given (λ v. not b) o ≡ cond b false (not (absent o))
      go none true = refl
      go none false = refl
      go (some v) true = refl
      go (some v) false = refl

  one_name : (n : List ℕ) → faults (n ∷ []) || cond (any_of (λ m. same m fmt) (n ∷ [])) false there ≡ bad_list (names_from false false (n ∷ [])) there
  unfolding any_of repeated among names_from
  one_name n = go (same n fmt) refl (decides_same n fmt)
    where
      alone : (o : Option Value) → (absent o || false) || false ≡ not (not (absent o))
      alone none = refl
      alone (some v) = refl

      go : (a : Bool) → same n fmt ≡ a → Decides (n ≡ fmt) a
          → faults (n ∷ []) || cond (any_of (λ m. same m fmt) (n ∷ [])) false there ≡ bad_list (names_from false false (n ∷ [])) there
      go false e p = rw e
      go true e (holds p) = let s : lookup n ms ≡ lookup fmt ms = ap (λ (k : List ℕ). lookup k ms) p in rw (e, s) (alone (lookup fmt ms))

  listing : (o : Option (List (List ℕ))) → given faults o || given (λ v. not (given (λ ns. any_of (λ m. same m fmt) ns) o)) (lookup fmt ms)
      ≡ pick there there (λ ns. bad_list (names_by ns) there) o
  listing none = unlisted false
  listing (some []) = refl
  listing (some (n ∷ [])) = ap (λ (b : Bool). faults (n ∷ []) || b) (unlisted (any_of (λ m. same m fmt) (n ∷ []))) ∙ one_name n
  listing (some (n ∷ m ∷ ns)) =
      ap (λ (b : Bool). b || given (λ v. not (any_of (λ m. same m fmt) (n ∷ m ∷ ns))) (lookup fmt ms)) (two_names n m ns) ∙ sym (two_bad n m ns there)

  -- the faults of the list, or `fmt` unlisted: what the flags say
  pub lists_badly_lem : (o : Option Value) → given faults (bind o strings) || given (λ v. not (given (λ ns. any_of (λ m. same m fmt) ns) (bind o strings))) (lookup fmt ms)
      ≡ lists_badly (crit_fact o) there
  unfolding crit_fact
  lists_badly_lem o = go o ∙ sym (by_cases strings (λ c. lists_badly c there) refl refl (λ ns. refl) o)
    where
      go : (o : Option Value) → given faults (bind o strings) || given (λ v. not (given (λ ns. any_of (λ m. same m fmt) ns) (bind o strings))) (lookup fmt ms)
          ≡ fact there there (λ ns. bad_list (names_by ns) there) strings o
      go none = unlisted false
      go (some v) = listing (strings v)
