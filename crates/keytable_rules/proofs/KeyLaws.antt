-- Laws of `find`.
use Rattle.std.specs.Prelude.{◌≡◌, refl, Bool, true, false, cond, List, [], ◌∷◌, ℕ, zero, suc, ◌<◌, Option, Some, None}
use Rattle.std.proofs.Common.{sym, ap, ◌∙◌, le_of_suc-le-suc, not-suc-le-zero, arith}
use Rattle.common.specs.First.{Decides, holds, fails}
use Rattle.common.specs.Same.{same}
use Rattle.common.proofs.SameLaws.{decides_same}
use Rattle.keytable_rules.specs.Key.{Key, key, Distinct, Named, Finds, first, none, one_on, find}

-- one key more in front
named_tail : {id : List ℕ} {k : Key} {ks : List Key} {i : ℕ} → Named id (k ∷ ks) (suc i) → Named id ks i
named_tail n = record { within = le_of_suc-le-suc n.within; is = n.is }

named_front : {id : List ℕ} {k : Key} {ks : List Key} {i : ℕ} → Named id ks i → Named id (k ∷ ks) (suc i)
named_front n = record { within = omega (arith, n.within); is = n.is }

-- WHAT IS COMPUTED IS WHAT IS MEANT
pub finds : (id : List ℕ) (ks : List Key) → Finds id ks (find id ks)
unfolding find
finds id [] = none (λ j n. not-suc-le-zero n.within)
finds id (k ∷ ks) = go (same k.id id) (decides_same k.id id) (find id ks) (finds id ks)
  where
    go : (b : Bool) → Decides (k.id ≡ id) b → (f : Option ℕ) → Finds id ks f → Finds id (k ∷ ks) (cond b (Some 0) (one_on f))
    go true (holds d) f r = first {i = 0} (record { within = omega arith; is = d }) (λ j h. absurd (not-suc-le-zero h))
    go false (fails d) (Some i) (first n e) = first {i = suc i} (named_front n) earlier
      where
        earlier : (j : ℕ) → j < suc i → (key (k ∷ ks) j).id ≡ id → ⊥
        earlier zero h p = d p
        earlier (suc j) h p = e j (le_of_suc-le-suc h) p
    go false (fails d) None (none e) = none nowhere
      where
        nowhere : (j : ℕ) → Named id (k ∷ ks) j → ⊥
        nowhere zero n = d n.is
        nowhere (suc j) n = e j (named_tail n)

-- .. and nothing else is
pub finds_one : {id : List ℕ} {ks : List Key} {f g : Option ℕ} → Finds id ks f → Finds id ks g → f ≡ g
finds_one (first {i} n e) (first {i = j} m d) =
    let a : i < j → ⊥ = λ h. d i h n.is in
    let b : j < i → ⊥ = λ h. e j h m.is in
    ap Some (omega arith)
finds_one (first n e) (none d) = absurd (d _ n)
finds_one (none d) (first n e) = absurd (d _ n)
finds_one (none d) (none e) = refl

-- an index found is that of a key that has the id
pub found : {id : List ℕ} {ks : List Key} {i : ℕ} → find id ks ≡ Some i → Named id ks i
found {id} {ks} {i} e = go (find id ks) (finds id ks) e
  where
    go : (f : Option ℕ) → Finds id ks f → f ≡ Some i → Named id ks i
    go (Some j) (first n d) e = let z : j ≡ i = cc in rw (sym z) n
    go None d e = let z : ◌≡◌ {A = ℕ} 0 1 = cc in absurd (omega arith)

-- where nothing is found, no key has it
pub not_found : {id : List ℕ} {ks : List Key} → find id ks ≡ None → (i : ℕ) → Named id ks i → ⊥
not_found {id} {ks} e = go (find id ks) (finds id ks) e
  where
    go : (f : Option ℕ) → Finds id ks f → f ≡ None → (i : ℕ) → Named id ks i → ⊥
    go None (none d) e = d
    go (Some j) d e = let z : ◌≡◌ {A = ℕ} 0 1 = cc in absurd (omega arith)

-- among distinct ids, the key that has the id is the one found
pub find_is : {id : List ℕ} {ks : List Key} → Distinct ks → {i : ℕ} → Named id ks i → find id ks ≡ Some i
find_is {id} {ks} d {i} n = finds_one (finds id ks) (first n (λ j h e. d j i h n.within (e ∙ sym n.is)))
