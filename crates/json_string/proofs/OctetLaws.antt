-- Laws of octets that stand in a word.
use Rattle.std.specs.Prelude.{Some, None}
use mathlib.Core.Path.{◌≡◌, sym, ap, ◌∙◌}
use mathlib.Core.Bool.{◌&&◌}
use mathlib.Core.List.{List, [], ◌∷◌, ◌++◌}
use Prim.Native.Nat.{ℕ, ◌+◌, ◌-◌, ◌≤◌, ◌<◌, min}
use native.Mathlib.Omega.{arith}
use native.Mathlib.Nat.{min-le_right}
use lib.Dec.{eqb}
use lib.ListN.{length, take, drop, get_or, length-take, length-drop, length-append, drop_of_length-le}
use lib.Seq.{get_or-take}
use borrow.Author.Tests.{eq-eqb, ne_eqb}
use Rattle.common.specs.Same.{same}
use Rattle.common.proofs.SameLaws.{same_longer}
use Rattle.json_string.specs.Ends.{at_byte}
use Rattle.json_characters.specs.Utf8.{octets}
use Rattle.json_string.specs.Steps.{OctetsEnd}

-- OCTETS IN A WORD: n of them, bs, from a place on

-- the first i of them are as they should be
pub Passed : List ℕ → ℕ → List ℕ → ℕ → Type 0
Passed w at bs i = (xs : List ℕ) → same (bs ++ xs) (drop at w) ≡ same (drop i bs ++ xs) (drop (at + i) w)

pub passed_none : (w : List ℕ) (at : ℕ) (bs : List ℕ) → Passed w at bs 0
unfolding Passed
passed_none w at bs xs = let e : at + 0 ≡ at = omega arith in rw e

-- the next
next : (w : List ℕ) (at : ℕ) (bs : List ℕ) (i : ℕ) → i < length bs → at + i < length w → (xs : List ℕ)
    → same (drop i bs ++ xs) (drop (at + i) w) ≡ eqb (get_or bs i 0) (get_or w (at + i) 0) && same (drop (i + 1) bs ++ xs) (drop (at + (i + 1)) w)
unfolding same
next w at bs i h k xs =
    let e : at + (i + 1) ≡ at + i + 1 = omega arith in
    rw (at_byte bs i h, at_byte w (at + i) k, e)

-- the octet among the first n of some bytes
pub octet_at : (n : ℕ) (bytes bs : List ℕ) (i : ℕ) → take n bytes ≡ bs → i < n → get_or bs i 0 ≡ get_or bytes i 0
octet_at n bytes bs i e h = rw (← e) (get_or-take n bytes i 0 h)

pub prefix_fits : (n : ℕ) (bytes bs : List ℕ) → take n bytes ≡ bs → n ≡ length bs → n ≤ length bytes
prefix_fits n bytes bs e l = let k : n ≡ min n (length bytes) = l ∙ sym (ap length e) ∙ length-take n bytes in omega (arith, min-le_right n (length bytes))

module _ (w : List ℕ) (at c : ℕ) where
  pub octets_short : length w - at < length (octets c) → OctetsEnd w at c None
  unfolding OctetsEnd
  octets_short h xs = same_longer (octets c ++ xs) (drop at w) (omega (arith, length-append (octets c) xs, length-drop at w))

  module _ (i : ℕ) (p : Passed w at (octets c) i) where
    pub octets_all : (n : ℕ) → i ≡ n → n ≡ length (octets c) → at + n ≤ length w → OctetsEnd w at c (Some (at + n))
    unfolding OctetsEnd Passed
    octets_all n e l h = (omega arith, h, λ xs. p xs ∙ rw e (ap (λ (o : List ℕ). same (o ++ xs) (drop (at + n) w)) (drop_of_length-le (octets c) {i = n} (omega arith))))

    module _ (h : i < length (octets c)) (k : at + i < length w) where
      pub passed_next : get_or w (at + i) 0 ≡ get_or (octets c) i 0 → Passed w at (octets c) (i + 1)
      unfolding Passed
      passed_next e xs = p xs ∙ next w at (octets c) i h k xs ∙ rw (eq-eqb (get_or (octets c) i 0) (get_or w (at + i) 0) (sym e))

      pub octets_differ : (get_or w (at + i) 0 ≡ get_or (octets c) i 0 → ⊥) → OctetsEnd w at c None
      unfolding OctetsEnd Passed
      octets_differ n xs = p xs ∙ next w at (octets c) i h k xs ∙ rw (ne_eqb (get_or (octets c) i 0) (get_or w (at + i) 0) (λ e. n (sym e)))

-- a code point that is its own octet
module _ (w : List ℕ) (at c : ℕ) (o : octets c ≡ c ∷ []) where
  pub octet_ended : length w ≤ at → OctetsEnd w at c None
  octet_ended h = octets_short w at c (omega (arith, ap length o))

  module _ (h : at < length w) where
    octet : (xs : List ℕ) → same (octets c ++ xs) (drop at w) ≡ eqb c (get_or w at 0) && same xs (drop (at + 1) w)
    unfolding same
    octet xs = rw (o, at_byte w at h)

    pub octet_here : get_or w at 0 ≡ c → OctetsEnd w at c (Some (at + 1))
    unfolding OctetsEnd
    octet_here e = (omega arith, omega arith, λ xs. octet xs ∙ rw (eq-eqb c (get_or w at 0) (sym e)))

    pub octet_differs : (get_or w at 0 ≡ c → ⊥) → OctetsEnd w at c None
    unfolding OctetsEnd
    octet_differs n xs = octet xs ∙ rw (ne_eqb c (get_or w at 0) (λ e. n (sym e)))
