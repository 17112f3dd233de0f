-- The key that a string of a text names: the string is resolved into a buffer that holds the longest id.
use Rattle.std.specs.Prelude.{Some, None}
use mathlib.Core.Path.{◌≡◌, refl, sym, ap, ◌∙◌}
use mathlib.Core.Logic.{◌⊎◌, inl, inr, ⊎_elim}
use mathlib.Core.Bool.{Bool, true, false, cond}
use mathlib.Core.List.{List, ◌++◌}
use Prim.Native.Nat.{ℕ, ◌≤◌, ◌<◌}
use native.Mathlib.Omega.{arith}
use lib.Dec.{leb}
use lib.ListN.{length, take, drop, length-append}
use lib.Seq.{take-append_seam}
use borrow.Author.Tests.{leb-true, leb-false, le-leb}
use Rattle.json_characters.specs.Utf8.{utf8}
use Rattle.json_string.specs.Ends.{End}
use Rattle.json_string.specs.Strings.{NameAt, resolved, resolved_to, resolved_at, resolved_to_at}
use Rattle.json_string.specs.StringLaws.{name_resolved, name_resolved_to}
use Rattle.keytable_rules.specs.Key.{none as no_key_lem, find}
use Rattle.keytable_rules.proofs.KeyLaws.{finds, finds_one}
use Rattle.keytable_rules.specs.Table.{bad_table, keys, id_most}
use Rattle.keytable_rules.proofs.GoodKeys.{keys_good}
use Rattle.jose_facts.specs.Says.{KeyNamed}

-- no id is as long
too_long : (T : List ℕ) → bad_table T ≡ false → (u : List ℕ) → id_most < length u → find u (keys T) ≡ None
too_long T e u l = finds_one (finds u (keys T)) (no_key_lem (λ j n. let g = keys_good T e j n.within in omega (arith, g.id_short, ap length n.is)))

written : (old u : List ℕ) → length u ≤ length old → resolved_to old u ≡ u ++ drop (length u) old
unfolding resolved_to
written old u l = rw (le-leb (length u) (length old) l)

module _ (h : List ℕ) (p : ℕ) (old new : List ℕ) (r : End) (s : (r ≡ resolved_at h p old) × (new ≡ resolved_to_at h p old)) (cs : List ℕ) (a : NameAt h p cs) where
  answered : ((length (utf8 cs) ≤ length old) × (r ≡ Some (length (utf8 cs)))) ⊎ ((length old < length (utf8 cs)) × (r ≡ None))
  unfolding resolved
  answered = go (leb (length (utf8 cs)) (length old)) refl (s.0 ∙ name_resolved h p cs a old)
    where
      go : (b : Bool) → leb (length (utf8 cs)) (length old) ≡ b → r ≡ cond b (Some (length (utf8 cs))) None
          → ((length (utf8 cs) ≤ length old) × (r ≡ Some (length (utf8 cs)))) ⊎ ((length old < length (utf8 cs)) × (r ≡ None))
      go true k e = inl (leb-true _ _ k, e)
      go false k e = inr (leb-false _ _ k, e)

  resolved_size : {n : ℕ} → r ≡ Some n → (n ≡ length (utf8 cs)) × (length (utf8 cs) ≤ length old)
  resolved_size e = ⊎_elim (λ w. (cc w.1, w.0)) (λ w. let z : ◌≡◌ {A = ℕ} 0 1 = cc w.1 in absurd (omega arith)) answered

  resolved_long : r ≡ None → length old < length (utf8 cs)
  resolved_long e = ⊎_elim (λ w. let z : ◌≡◌ {A = ℕ} 0 1 = cc w.1 in absurd (omega arith)) (λ w. w.0) answered

  -- what the buffer holds
  resolved_now : {n : ℕ} → r ≡ Some n → new ≡ utf8 cs ++ drop (length (utf8 cs)) old
  resolved_now e = s.1 ∙ name_resolved_to h p cs a old ∙ written old (utf8 cs) (resolved_size e).1

  pub resolved_within : {n : ℕ} → r ≡ Some n → n ≤ length new
  resolved_within e =
      let z = resolved_size e in
      omega (arith, z.0, ap length (resolved_now e), length-append (utf8 cs) (drop (length (utf8 cs)) old))

  resolved_front : {n : ℕ} → r ≡ Some n → take n new ≡ utf8 cs
  resolved_front {n} e = rw ((resolved_size e).0, resolved_now e) (take-append_seam (utf8 cs) (drop (length (utf8 cs)) old))

module _ (h T : List ℕ) (p : ℕ) (old new : List ℕ) (r : End) (s : (r ≡ resolved_at h p old) × (new ≡ resolved_to_at h p old)) where
  pub named_found : {n : ℕ} {f : End} → r ≡ Some n → f ≡ find (take n new) (keys T) → KeyNamed h p (keys T) f
  named_found e c = record { is = λ cs a. c ∙ ap (λ (u : List ℕ). find u (keys T)) (resolved_front h p old new r s cs a e) }

  pub named_long : bad_table T ≡ false → length old ≡ id_most → r ≡ None → KeyNamed h p (keys T) None
  named_long b o e = record { is = λ cs a. sym (too_long T b (utf8 cs) (let l = resolved_long h p old new r s cs a e in omega arith)) }
