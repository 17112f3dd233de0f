-- The tests decide whether a name stands twice.
use Rattle.std.specs.Prelude.{◌≡◌, refl, ◌⊎◌, List, [], ◌∷◌, ℕ, zero, suc, ◌<◌, length, get_or}
use Rattle.std.proofs.Common.{sym, subst, inl, inr, arith}
use Rattle.common.specs.First.{Decides, fails}
use Rattle.common.proofs.FirstLaws.{decides_or, decides_iff}
use Rattle.common.proofs.SameLaws.{decides_same}
use Rattle.json_grammar_rules.specs.Value.{Value, Values, Members, string_v, number_v, true_v, false_v, null_v, array_v, object_v, vnil, vcons, mnil, mcons, among, repeated, names, twice, twice_values, twice_members}
use Rattle.json_grammar_rules.specs.Twice.{Repeated, ObjectIn, ObjectInValues, ObjectInMembers, TwiceNamed}

decides_among : (n : List ℕ) (ns : List (List ℕ)) → Decides ((i : ℕ) × (i < length ns) × (n ≡ get_or ns i [])) (among n ns)
unfolding among
decides_among n [] = fails (λ h. let l = h.1 in omega arith)
decides_among n (m ∷ ns) = decides_iff there back (decides_or (decides_same n m) (decides_among n ns))
  where
    there : (n ≡ m) ⊎ ((i : ℕ) × (i < length ns) × (n ≡ get_or ns i [])) → (i : ℕ) × (i < length (m ∷ ns)) × (n ≡ get_or (m ∷ ns) i [])
    there (inl e) = (0, omega arith, e)
    there (inr (i, l, e)) = (suc i, omega arith, e)

    back : (i : ℕ) × (i < length (m ∷ ns)) × (n ≡ get_or (m ∷ ns) i []) → (n ≡ m) ⊎ ((i : ℕ) × (i < length ns) × (n ≡ get_or ns i []))
    back (zero, l, e) = inl e
    back (suc i, l, e) = inr (i, omega arith, e)

pub decides_repeated : (ns : List (List ℕ)) → Decides (Repeated ns) (repeated ns)
unfolding repeated
decides_repeated [] = fails (λ h. let l = h.3 in omega arith)
decides_repeated (n ∷ ns) = decides_iff there back (decides_or (decides_among n ns) (decides_repeated ns))
  where
    there : ((i : ℕ) × (i < length ns) × (n ≡ get_or ns i [])) ⊎ Repeated ns → Repeated (n ∷ ns)
    there (inl (i, l, e)) = (0, suc i, omega arith, omega arith, e)
    there (inr (i, j, k, l, e)) = (suc i, suc j, omega arith, omega arith, e)

    back : Repeated (n ∷ ns) → ((i : ℕ) × (i < length ns) × (n ≡ get_or ns i [])) ⊎ Repeated ns
    back (i, zero, k, l, e) = absurd (omega arith)
    back (zero, suc j, k, l, e) = inl (j, omega arith, e)
    back (suc i, suc j, k, l, e) = inr (i, j, omega arith, omega arith, e)

-- an object with a name twice that stands in one of two parts
abbrev Somewhere : (Members → Type 0) → Type 0
Somewhere P = (ms : Members) × P ms × Repeated (names ms)

part : {P Q : Members → Type 0} → Somewhere P ⊎ Somewhere Q → Somewhere (λ ms. P ms ⊎ Q ms)
part (inl (ms, p, r)) = (ms, inl p, r)
part (inr (ms, q, r)) = (ms, inr q, r)

parted : {P Q : Members → Type 0} → Somewhere (λ ms. P ms ⊎ Q ms) → Somewhere P ⊎ Somewhere Q
parted (ms, inl p, r) = inl (ms, p, r)
parted (ms, inr q, r) = inr (ms, q, r)

mutual
  unfolding twice ObjectIn

  pub decides_twice : (v : Value) → Decides (TwiceNamed v) (twice v)
  decides_twice (string_v cs) = fails (λ h. h.1)
  decides_twice (number_v cs) = fails (λ h. h.1)
  decides_twice true_v = fails (λ h. h.1)
  decides_twice false_v = fails (λ h. h.1)
  decides_twice null_v = fails (λ h. h.1)
  decides_twice (array_v vs) = decides_values vs
  decides_twice (object_v ns) = decides_iff there back (decides_or (decides_repeated (names ns)) (decides_members ns))
    where
      there : Repeated (names ns) ⊎ Somewhere (λ ms. ObjectInMembers ms ns) → TwiceNamed (object_v ns)
      there (inl r) = (ns, inl refl, r)
      there (inr (ms, i, r)) = (ms, inr i, r)

      back : TwiceNamed (object_v ns) → Repeated (names ns) ⊎ Somewhere (λ ms. ObjectInMembers ms ns)
      back (ms, inl e, r) = inl (subst (λ (x : Members). Repeated (names x)) (sym e) r)
      back (ms, inr i, r) = inr (ms, i, r)

  decides_values : (vs : Values) → Decides (Somewhere (λ ms. ObjectInValues ms vs)) (twice_values vs)
  decides_values vnil = fails (λ h. h.1)
  decides_values (vcons v vs) = decides_iff part parted (decides_or (decides_twice v) (decides_values vs))

  decides_members : (ns : Members) → Decides (Somewhere (λ ms. ObjectInMembers ms ns)) (twice_members ns)
  decides_members mnil = fails (λ h. h.1)
  decides_members (mcons n v ns) = decides_iff part parted (decides_or (decides_twice v) (decides_members ns))
