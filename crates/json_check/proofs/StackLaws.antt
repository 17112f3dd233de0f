-- The stack of names: what it holds, what stays where something is set, and a name compared with those of the innermost object.
use mathlib.Core.Path.{◌≡◌, refl, sym, ap, ap₂, ◌∙◌, subst}
use mathlib.Core.Bool.{Bool, true, false, ◌||◌, or-true}
use mathlib.Core.List.{List, [], ◌∷◌}
use Prim.Native.Nat.{ℕ, zero, suc, ◌+◌, ◌-◌, ◌≤◌, ◌<◌}
use native.Mathlib.Omega.{arith}
use native.Mathlib.Numerals.{add-one, sub-one}
use lib.Dec.{eqb}
use lib.ListN.{length, get_or, set}
use lib.Seq.{get_or-set_same, get_or-set_other}
use borrow.Author.Tests.{eqb-true, eqb-false}
use Rattle.common.specs.Same.{same}
use Rattle.json_grammar_rules.specs.Value.{among}
use Rattle.json_grammar_rules.specs.Scan.{around, beyond}
use Rattle.json_string.specs.Strings.{NameAt, same_text, fingerprint_at}
use Rattle.json_string.specs.StringLaws.{names_same}
use Rattle.json_check.specs.declared.names.Kept.{Kept}
use Rattle.json_check.specs.Stacks.{nothing, place_at, print_at, marked, base_around}
use Rattle.json_check.specs.Twice.{Names, none, one_more, Held, outermost, within, Holds}

-- WHAT IT HOLDS

module _ {s : List ℕ} {a : List Kept} where
  names_low : {j k : ℕ} {b : List (List ℕ)} → Names s a j k b → j ≤ k
  names_low none = omega arith
  names_low (one_more x f y) = let h = names_low y in omega arith

  pub held_names : {j k : ℕ} {b : List (List ℕ)} {o : List (List (List ℕ))} → Held s a j k b o → Names s a j k b
  held_names (outermost y) = y
  held_names (within h y) = y

  pub held_low : {j k : ℕ} → Holds s a j k → j ≤ k
  held_low h = names_low (held_names h.held)

  -- the fingerprint of a name of the innermost object
  names_print : {j k : ℕ} {b : List (List ℕ)} → Names s a j k b → (i : ℕ) → j ≤ i → i < k → print_at a i ≡ fingerprint_at s (place_at a i)
  names_print none i l h = absurd (omega arith)
  names_print (one_more {k = k} x f y) i l h = go (eqb i k) refl (λ c. names_print y i l c)
    where
      go : (t : Bool) → eqb i k ≡ t → (i < k → print_at a i ≡ fingerprint_at s (place_at a i)) → print_at a i ≡ fingerprint_at s (place_at a i)
      go true z ih = rw (eqb-true i k z) f
      go false z ih = let d = eqb-false i k z in ih (omega arith)

  pub held_print : {j k : ℕ} → Holds s a j k → (i : ℕ) → j ≤ i → i < k → print_at a i ≡ fingerprint_at s (place_at a i)
  held_print h = names_print (held_names h.held)

-- what stands past them may be set
abbrev Below : List Kept → List Kept → ℕ → Type 0
Below a a' k = (i : ℕ) → i < k → get_or a' i nothing ≡ get_or a i nothing

below_set : (a : List Kept) (k : ℕ) (v : Kept) → Below a (set a k v) k
below_set a k v j l = get_or-set_other a k j v nothing (λ e. absurd (omega arith))

names_moved : {s : List ℕ} {a a' : List Kept} {j k : ℕ} {b : List (List ℕ)} → Names s a j k b → Below a a' k → Names s a' j k b
names_moved none f = none
names_moved {s} (one_more {k = k} {n = n} x e y) f =
    one_more (subst (λ (v : Kept). NameAt s v.place n) (sym (f k (omega arith))) x) (subst (λ (v : Kept). v.print ≡ fingerprint_at s v.place) (sym (f k (omega arith))) e)
    (names_moved y (λ i l. f i (omega arith)))

held_moved : {s : List ℕ} {a a' : List Kept} {j k : ℕ} {b : List (List ℕ)} {o : List (List (List ℕ))} → Held s a j k b o → Below a a' k → Held s a' j k b o
held_moved (outermost y) f = outermost (names_moved y f)
held_moved {s} {a} {a'} (within {j = j} {c = c} {o = o} y z) f =
    let l = names_low z in
    within (subst (λ (v : Kept). Held s a' v.place j c o) (sym (f j (omega arith))) (held_moved y (λ i h. f i (omega arith)))) (names_moved z f)

module _ {s : List ℕ} {a : List Kept} {j k : ℕ} {b : List (List ℕ)} {o : List (List (List ℕ))} where
  -- a name more
  pub held_name : Held s a j k b o → (q : Kept) (n : List ℕ) → NameAt s q.place n → q.print ≡ fingerprint_at s q.place → k < length a → Held s (set a k q) j (k + 1) (n ∷ b) o
  held_name h q n w e u = rw add-one (go (held_moved h (below_set a k q)))
    where
      at_k : q ≡ get_or (set a k q) k nothing
      at_k = sym (get_or-set_same a k q nothing u)

      more : {i : ℕ} {c : List (List ℕ)} → Names s (set a k q) i k c → Names s (set a k q) i (suc k) (n ∷ c)
      more y = one_more (subst (λ (v : Kept). NameAt s v.place n) at_k w) (subst (λ (v : Kept). v.print ≡ fingerprint_at s v.place) at_k e) y

      go : {i : ℕ} {c : List (List ℕ)} {p : List (List (List ℕ))} → Held s (set a k q) i k c p → Held s (set a k q) i (suc k) (n ∷ c) p
      go (outermost y) = outermost (more y)
      go (within y z) = within y (more z)

  -- an object opens
  pub held_opens : Held s a j k b o → k < length a → Held s (marked a k j) (k + 1) (k + 1) [] (b ∷ o)
  held_opens h u =
      let v : Kept = record { place = j; print = print_at a k } in
      rw add-one (within (subst (λ (x : Kept). Held s (marked a k j) x.place k b o) (sym (get_or-set_same a k v nothing u)) (held_moved h (below_set a k v))) none)

-- an object closes: that around it is not on the stack, or is
pub held_closes : {s : List ℕ} {a : List Kept} {j k : ℕ} {b : List (List ℕ)} {o : List (List (List ℕ))} → Held s a j k b o → Held s a (base_around a j) (j - 1) (around o) (beyond o)
unfolding base_around
held_closes (outermost y) = outermost none
held_closes (within y w) = rw sub-one y

-- where the names of the object around begin
module _ (a : List Kept) {j : ℕ} where
  pub around_none : j ≡ 0 → j ≡ base_around a j
  unfolding base_around
  around_none z = rw z refl

  pub around_some : (j ≡ 0 → ⊥) → place_at a (j - 1) ≡ base_around a j
  unfolding base_around
  around_some z = go j z
    where
      go : (i : ℕ) → (i ≡ 0 → ⊥) → place_at a (i - 1) ≡ base_around a i
      go zero z = absurd (z refl)
      go (suc i) z = rw sub-one refl

-- COMPARING a name with those of the innermost object

-- the names from j up to k are other than the name at q
pub record Without (s : List ℕ) (a : List Kept) (j k q : ℕ) : Type 0 where
  pub is : (n : List ℕ) (b : List (List ℕ)) → Names s a j k b → NameAt s q n → among n b ≡ false

module _ {s : List ℕ} {a : List Kept} {j : ℕ} where
  pub without_start : (q : ℕ) → Without s a j j q
  unfolding among
  without_start q = record { is = λ n b y h. go j refl n b y }
    where
      go : (k : ℕ) → k ≡ j → (n : List ℕ) (b : List (List ℕ)) → Names s a j k b → among n b ≡ false
      go k e n [] none = refl
      go k e n (x ∷ b) (one_more w f y) = let l = names_low y in absurd (omega arith)

  pub without_next : {i q : ℕ} → Without s a j i q → j ≤ i → same_text s q s (place_at a i) ≡ false → Without s a j (i + 1) q
  unfolding among
  without_next {i} {q} w l e = record { is = λ n b y h. go n h (i + 1) refl b y }
    where
      go : (n : List ℕ) → NameAt s q n → (k : ℕ) → k ≡ i + 1 → (b : List (List ℕ)) → Names s a j k b → among n b ≡ false
      go n h k c [] none = refl
      go n h k c (x ∷ b) (one_more {k = k'} u f y) =
          let z : k' ≡ i = omega arith in
          ap₂ ◌||◌ (sym (names_same s q s (place_at a i) n x h (subst (λ (v : ℕ). NameAt s (place_at a v) x) z u)) ∙ e) (w.is n b (subst (λ (v : ℕ). Names s a j v b) z y) h)

  pub without_all : {k i q : ℕ} → (j ≤ i) × (i ≤ k) × Without s a j i q → k ≤ i → Without s a j k q
  without_all {k} {i} {q} w h = let e : i ≡ k = omega (arith, w.1) in subst (λ (x : ℕ). Without s a j x q) e w.2

  -- a name equal to the name at q is among them
  pub found : {k : ℕ} {b : List (List ℕ)} → Names s a j k b → (i q : ℕ) → j ≤ i → i < k → (n : List ℕ) → NameAt s q n → same_text s q s (place_at a i) ≡ true → among n b ≡ true
  unfolding among
  found none i q u l n h c = absurd (omega arith)
  found (one_more {k = k} {n = x} {b = b} w f y) i q u l n h c = go (eqb i k) refl (λ v. found y i q u v n h c)
    where
      go : (e : Bool) → eqb i k ≡ e → (i < k → among n b ≡ true) → same n x || among n b ≡ true
      go true e ih = ap (λ (z : Bool). z || among n b) (sym (names_same s q s (place_at a i) n x h (subst (λ (v : ℕ). NameAt s (place_at a v) x) (sym (eqb-true i k e)) w)) ∙ c)
      go false e ih = let d = eqb-false i k e in ap (λ (z : Bool). same n x || z) (ih (omega arith)) ∙ or-true (same n x)
