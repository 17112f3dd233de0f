-- Where a reader on lists ends in a slice, as a place; and the tools of laws on readers at places.
use Rattle.std.specs.Prelude.{◌≡◌, refl, List, ℕ, ◌+◌, ◌≤◌, ◌<◌, length, drop, Option, Some, None}
use Rattle.std.proofs.Common.{sym, ap, ◌∙◌, subst, arith, length-drop}
use Rattle.json_grammar_rules.specs.Places.{pos}
use Rattle.json_grammar_rules.specs.Reader.{Got, bad, got, over}
pub use Rattle.json_grammar_rules.proofs.ReaderLaws.{fuel}
pub use Rattle.json_characters.specs.Places.{at_byte, pos_drop, pos_left}

-- the place after the last byte that a reader takes, or none where it reads nothing
abbrev pub End : Type 0
End = Option ℕ

-- r is the place in s where a reader that starts at `from` ends: after the last byte that it took, or nowhere
abbrev pub Ends : {A : Type 0} → List ℕ → ℕ → End → Got A → Type 0
Ends s from (Some e) (got a r) = (from ≤ e) × (e ≤ length s) × (r ≡ drop e s)
Ends s from (Some e) bad = ⊥
Ends s from None (got a r) = ⊥
Ends s from None bad = Unit {0}

-- that place
abbrev pub end_of : {A : Type 0} → List ℕ → Got A → End
end_of s (got a r) = Some (pos s r)
end_of s bad = None

-- PLACES

-- fewer bytes are left at the next place
pub left : (s : List ℕ) (at : ℕ) → at < length s → length (drop (at + 1) s) < length (drop at s)
left s at h = rw (length-drop at s, length-drop (at + 1) s) (omega arith)

-- fuel that is enough at a place is enough at a later one
pub shorter : (s : List ℕ) (i j n : ℕ) → i ≤ j → length (drop i s) ≤ n → length (drop j s) ≤ n
shorter s i j n k h = rw (length-drop j s) (omega (arith, length-drop i s))

-- ENDS

-- the relation and the equation
pub ends_end : {A : Type 0} (s : List ℕ) (i : ℕ) (r : End) (g : Got A) → Ends s i r g → r ≡ end_of s g
ends_end s i (Some e) (got a x) h = ap Some (sym (ap (pos s) h.2 ∙ pos_drop s e h.1))
ends_end s i (Some e) bad h = absurd h
ends_end s i None (got a x) h = absurd h
ends_end s i None bad h = refl

pub ends_at : {A : Type 0} (s : List ℕ) (i e : ℕ) (g : Got A) → Ends s i (Some e) g → (a : A) × (g ≡ got a (drop e s)) × (i ≤ e) × (e ≤ length s)
ends_at s i e (got a r) h = (a, ap (got a) h.2, h.0, h.1)
ends_at s i e bad h = absurd h

pub ends_bad : {A : Type 0} (s : List ℕ) (i : ℕ) (g : Got A) → Ends s i None g → g ≡ bad
ends_bad s i (got a r) h = absurd h
ends_bad s i bad h = refl

-- the same end, of what is made of the result
pub ends_over : {A B : Type 0} (s : List ℕ) (i : ℕ) (r : End) (f : A → B) (g : Got A) → Ends s i r g → Ends s i r (over f g)
ends_over s i (Some e) f (got a x) h = h
ends_over s i (Some e) f bad h = h
ends_over s i None f (got a x) h = h
ends_over s i None f bad h = h

-- the same end, from an earlier place
pub ends_from : {A : Type 0} (s : List ℕ) (i j : ℕ) (r : End) (g : Got A) → i ≤ j → Ends s j r g → Ends s i r g
ends_from s i j (Some e) (got a x) h k = (omega arith, k.1, k.2)
ends_from s i j (Some e) bad h k = k
ends_from s i j None (got a x) h k = k
ends_from s i j None bad h k = k

-- the same end, of a reader that gives the same
pub by : {A : Type 0} (s : List ℕ) (i : ℕ) (r : End) (g g' : Got A) → g ≡ g' → Ends s i r g' → Ends s i r g
by {A} s i r g g' e h = subst (λ (x : Got A). Ends s i r x) (sym e) h
