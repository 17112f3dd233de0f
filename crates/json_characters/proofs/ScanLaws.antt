-- Laws of readers of code points at a place, by the steps that they are made of.
use Rattle.std.specs.Prelude.{Some, None}
use mathlib.Core.Path.{◌≡◌, refl, sym, ap, ◌∙◌, subst}
use mathlib.Core.Bool.{Bool, true, false}
use mathlib.Core.List.{List}
use Prim.Native.Nat.{ℕ, ◌+◌, ◌≤◌, ◌<◌}
use native.Mathlib.Omega.{arith}
use lib.ListN.{length, drop, get_or, drop_of_length-le}
use Rattle.json_grammar_rules.specs.Reader.{Got, got, then, one}
use Rattle.json_characters.specs.Places.{at_byte}
use Rattle.json_characters.specs.Characters.{Scan, Scans}
use Rattle.json_characters.specs.Steps.{ScanAt}

-- a result that is known to be a constructor
pub scanned : (f : List ℕ → Got ℕ) (s : List ℕ) (at : ℕ) (q q' : Scan) → ScanAt f s at q → q ≡ q' → ScanAt f s at q'
scanned f s at q q' h e = subst (λ (x : Scan). ScanAt f s at x) e h

-- the same from an earlier place
pub scans_from : (s : List ℕ) (i j : ℕ) (r : Scan) (g : Got ℕ) → i ≤ j → Scans s j r g → Scans s i r g
scans_from s i j (Some (c, e)) g h k = (omega arith, k.1, k.2)
scans_from s i j None g h k = k

-- a reader that gives the same
pub scan_same : (f g : List ℕ → Got ℕ) (s : List ℕ) (at : ℕ) (r : Scan) → ((l : List ℕ) → f l ≡ g l) → ScanAt g s at r → ScanAt f s at r
unfolding ScanAt
scan_same f g s at r e h = subst (λ (x : Got ℕ). Scans s at r x) (sym (e (drop at s))) h

pub scan_got : (s : List ℕ) (at c : ℕ) → at ≤ length s → ScanAt (got c) s at (Some (c, at))
unfolding ScanAt
scan_got s at c h = (omega arith, h, refl)

pub scan_after : (f : List ℕ → Got ℕ) (s : List ℕ) (at c e : ℕ) → ScanAt f s at (Some (c, e)) → (at ≤ e) × (e ≤ length s)
unfolding ScanAt
scan_after f s at c e h = (h.0, h.1)

-- a byte that passes the test, then k
module _ (p : ℕ → Bool) (k : ℕ → List ℕ → Got ℕ) (s : List ℕ) (at : ℕ) where
  pub scan_one : (r : Scan) → at < length s → p (get_or s at 0) ≡ true → ScanAt (k (get_or s at 0)) s (at + 1) r → ScanAt (λ l. one p l k) s at r
  unfolding ScanAt
  scan_one r h e rest =
      let q : one p (drop at s) k ≡ k (get_or s at 0) (drop (at + 1) s) = ap (λ (l : List ℕ). one p l k) (at_byte s at h) ∙ rw e in
      subst (λ (g : Got ℕ). Scans s at r g) (sym q) (scans_from s at (at + 1) r _ (omega arith) rest)

  pub scan_not : at < length s → p (get_or s at 0) ≡ false → ScanAt (λ l. one p l k) s at None
  unfolding ScanAt
  scan_not h e = ap (λ (l : List ℕ). one p l k) (at_byte s at h) ∙ rw e

  pub scan_out : length s ≤ at → ScanAt (λ l. one p l k) s at None
  unfolding ScanAt
  scan_out h = ap (λ (l : List ℕ). one p l k) (drop_of_length-le s h)

-- a reader, then another on what it leaves
module _ (f : List ℕ → Got ℕ) (k : ℕ → List ℕ → Got ℕ) (s : List ℕ) (at : ℕ) where
  pub scan_then : (x e : ℕ) (r : Scan) → ScanAt f s at (Some (x, e)) → ScanAt (k x) s e r → ScanAt (λ l. then (f l) k) s at r
  unfolding ScanAt
  scan_then x e r h rest =
      let q : then (f (drop at s)) k ≡ k x (drop e s) = ap (λ (g : Got ℕ). then g k) h.2 in
      subst (λ (g : Got ℕ). Scans s at r g) (sym q) (scans_from s at e r _ h.0 rest)

  pub scan_none : ScanAt f s at None → ScanAt (λ l. then (f l) k) s at None
  unfolding ScanAt
  scan_none h = ap (λ (g : Got ℕ). then g k) h
