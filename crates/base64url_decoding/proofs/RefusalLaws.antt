-- The search for the first character outside the alphabet, and the answers to a text that is not decoded, in the order of the tests.
use mathlib.Core.Path.{◌≡◌, refl, ◌∙◌}
use mathlib.Core.Bool.{Bool, true, false, cond}
use mathlib.Core.List.{List, [], ◌∷◌}
use Prim.Native.Nat.{ℕ, suc, ◌+◌, ◌-◌, ◌%◌, ◌≤◌}
use native.Mathlib.Omega.{arith}
use lib.Dec.{ltb, leb}
use lib.ListN.{length}
use borrow.Author.Tests.{lt-leb, le-leb, ltb-true, ltb-false, eq-eqb, ne_eqb}
use Rattle.std.specs.Prelude.{Some, None, position}
use Rattle.std.specs.List.{position_or_len}
use Rattle.std.proofs.lemmas.List.Recursion.{is_position_or_len}
use Rattle.base64url_rules.specs.Alphabet.{value, in_alphabet}
use Rattle.base64url_rules.specs.Base64url.{unused_bits}
use Rattle.base64url_rules.specs.Fault.{first_outside, fault}
use Rattle.base64url_rules.specs.Outcome.{Decoded, refusal}

-- a character outside the alphabet, as the code tests it
abbrev pub past : ℕ → Bool
past c = leb 64 (value c)

first_is : (s : List ℕ) → first_outside s ≡ position_or_len past s
unfolding first_outside
first_is s = is_position_or_len first_outside past refl step s
  where
    step : (c : ℕ) (s : List ℕ) → first_outside (c ∷ s) ≡ cond (past c) 0 (1 + first_outside s)
    step c s = go (in_alphabet c) refl
      where
        go : (t : Bool) → in_alphabet c ≡ t → cond t (suc (first_outside s)) 0 ≡ cond (past c) 0 (1 + first_outside s)
        go true e = rw (lt-leb 64 (value c) (ltb-true (value c) 64 e)) (omega arith)
        go false e = rw (le-leb 64 (value c) (ltb-false (value c) 64 e))

-- only a text that is not empty has unused bits
pub unused_length : (s : List ℕ) → (unused_bits s ≡ 0 → ⊥) → 1 ≤ length s
unfolding unused_bits
unused_length [] h = absurd (h refl)
unused_length (c ∷ s) h = omega arith

module _ (s : List ℕ) where
  -- what the search says, by the test of the fault
  pub searched : position past s ≡ cond (ltb (first_outside s) (length s)) (Some (first_outside s)) None
  searched = rw (← first_is s)

  pub at_outside : (place : ℕ) → Some place ≡ position past s → Decoded.Fault place ≡ refusal (fault s)
  unfolding fault
  at_outside place e = go (ltb (first_outside s) (length s)) refl (e ∙ searched)
    where
      go : (t : Bool) → ltb (first_outside s) (length s) ≡ t → Some place ≡ cond t (Some (first_outside s)) None → Decoded.Fault place ≡ refusal (fault s)
      go true h e = let p : place ≡ first_outside s = cc in rw (p, h)
      go false h e = cc

  module _ (e : None ≡ position past s) where
    none_outside : ltb (first_outside s) (length s) ≡ false
    none_outside = go (ltb (first_outside s) (length s)) (e ∙ searched)
      where
        go : (t : Bool) → None ≡ cond t (Some (first_outside s)) None → t ≡ false
        go true e = cc
        go false e = refl

    pub at_end : length s % 4 ≡ 1 → Decoded.Fault (length s) ≡ refusal (fault s)
    unfolding fault
    at_end b = rw (none_outside, eq-eqb (length s % 4) 1 b)

    module _ (b : length s % 4 ≡ 1 → ⊥) (bits : ℕ) (u : bits ≡ unused_bits s) where
      pub no_fault : bits ≡ 0 → Decoded.Short ≡ refusal (fault s)
      unfolding fault
      no_fault z = rw (none_outside, ne_eqb (length s % 4) 1 b, ← u, eq-eqb bits 0 z)

      pub at_last : (bits ≡ 0 → ⊥) → Decoded.Fault (length s - 1) ≡ refusal (fault s)
      unfolding fault
      at_last z = rw (none_outside, ne_eqb (length s % 4) 1 b, ← u, ne_eqb bits 0 z)
