-- Numbered conditions in an order, and the first that holds. One theorem serves every call: `first_stands` of FirstLaws.
use Rattle.std.specs.Prelude.{◌≡◌, Bool, true, false, cond, not, ◌&&◌, ◌||◌, List, [], ◌∷◌, ℕ, zero, suc, eqb}

-- `n on P`: the answer n is given on the condition P
pub data Rule : Type 1 where
  ◌on◌ : ℕ → Type 0 → Rule

-- `n when b`: the same with a test
pub data Test : Type 0 where
  ◌when◌ : ℕ → Bool → Test

infix 70 ◌on◌ ◌when◌
-- the condition under the number n
abbrev pub condition : List Rule → ℕ → Type 0
condition [] n = ⊥
condition ((m on P) ∷ rs) n = cond (eqb m n) P (condition rs n)

-- the rules before the number n
abbrev pub earlier : List Rule → ℕ → List Rule
earlier [] n = []
earlier ((m on P) ∷ rs) n = cond (eqb m n) [] ((m on P) ∷ earlier rs n)

-- no condition of these holds
abbrev pub NoneOf : List Rule → Type 0
NoneOf [] = Unit {0}
NoneOf ((n on P) ∷ rs) = (P → ⊥) × NoneOf rs

-- the number of the first test that is true, or 0
abbrev pub first : List Test → ℕ
first [] = 0
first ((n when true) ∷ ts) = n
first ((n when false) ∷ ts) = first ts

-- what is given by that number: 0 is success, and any other a refusal
abbrev pub settle : {A : Type 0} → ℕ → A → (ℕ → A) → A
settle zero good bad = good
settle (suc n) good bad = bad (suc n)

abbrev pub numbers : List Rule → List ℕ
numbers [] = []
numbers ((n on P) ∷ rs) = n ∷ numbers rs

abbrev pub among : ℕ → List ℕ → Bool
among n [] = false
among n (m ∷ ms) = eqb m n || among n ms

-- no number is 0, and none stands twice
abbrev pub distinct : List ℕ → Bool
distinct [] = true
distinct (n ∷ ns) = (not (eqb n 0) && not (among n ns)) && distinct ns

-- the test b decides the condition P
pub data Decides (P : Type 0) : Bool → Type 0 where
  holds : P → Decides P true
  fails : (P → ⊥) → Decides P false

-- test by test, in the same order, under the same numbers: each test decides its condition where no earlier one holds
pub data Agree : List Rule → List Test → Type 1 where
  done : Agree [] []
  ◌by◌ : {n : ℕ} {P : Type 0} {b : Bool} {rs : List Rule} {ts : List Test} → Decides P b → ((P → ⊥) → Agree rs ts) → Agree ((n on P) ∷ rs) ((n when b) ∷ ts)

infixr 40 ◌by◌
-- no test has the number 0
abbrev pub numbered : List Test → Bool
numbered [] = true
numbered ((n when b) ∷ ts) = not (eqb n 0) && numbered ts

-- every test is false
abbrev pub Pass : List Test → Type 0
Pass [] = Unit {0}
Pass ((n when b) ∷ ts) = (b ≡ false) × Pass ts

-- the test under the number n
abbrev pub test : List Test → ℕ → Bool
test [] n = false
test ((m when b) ∷ ts) n = cond (eqb m n) b (test ts n)

-- n stands directly after m in the list
abbrev pub follows : List ℕ → ℕ → ℕ → Bool
follows [] m n = false
follows (a ∷ []) m n = false
follows (a ∷ b ∷ ns) m n = cond (eqb a m) (eqb b n) (follows (b ∷ ns) m n)

-- RULES IN OTHER WORDS: under the same numbers, in the same order, conditions that hold together
pub data Alike : List Rule → List Rule → Type 1 where
  none : Alike [] []
  more : {n : ℕ} {P Q : Type 0} {ps qs : List Rule} → (P → Q) → (Q → P) → Alike ps qs → Alike ((n on P) ∷ ps) ((n on Q) ∷ qs)
