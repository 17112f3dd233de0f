-- Names that stand twice in one object: the search by passes that keep some names.
use Rattle.std.specs.Prelude.{◌≡◌, Bool, true, false, List, [], ◌∷◌, ℕ, suc, ◌≤◌, ◌<◌, length, drop}
use Rattle.json_grammar_rules.specs.Scan.{marks, search, every, no_more}
use Rattle.json_string.specs.Strings.{NameAt, fingerprint_at}
use Rattle.json_check.specs.Stacks.{place_at, print_at}
use Rattle.json_check.specs.declared.names.Kept.{Kept}
use Rattle.json_check.specs.declared.names.Search.{Search}
use Rattle.json_check.specs.declared.names.Search.TheVariants.{Twice, Once, Unfinished}

-- what the search says from p on, with the names b of the innermost object and o of those around it
pub record Finds (kept : List ℕ → List (List ℕ) → List (List ℕ)) (s : List ℕ) (p : ℕ) (b : List (List ℕ)) (o : List (List (List ℕ))) (r : Bool) : Type 0 where
  pub is : (n : ℕ) → length (drop p s) ≤ n → r ≡ search kept b o (marks n (drop p s))

-- THE STACK: names in a, each by its place and its fingerprint

-- those from j up to k, the last one first
pub data Names (s : List ℕ) (a : List Kept) (j : ℕ) : ℕ → List (List ℕ) → Type 0 where
  none : Names s a j j []
  one_more : {k : ℕ} {n : List ℕ} {b : List (List ℕ)} → NameAt s (place_at a k) n → print_at a k ≡ fingerprint_at s (place_at a k) → Names s a j k b → Names s a j (suc k) (n ∷ b)

-- the innermost object's stand from j on; below them stands where those of the object around it begin
pub data Held (s : List ℕ) (a : List Kept) : ℕ → ℕ → List (List ℕ) → List (List (List ℕ)) → Type 0 where
  outermost : {k : ℕ} {b : List (List ℕ)} → Names s a 0 k b → Held s a 0 k b []
  within : {j k : ℕ} {b c : List (List ℕ)} {o : List (List (List ℕ))} → Held s a (place_at a j) j c o → Names s a (suc j) k b → Held s a (suc j) k b (c ∷ o)

-- some names are held so
pub record Holds (s : List ℕ) (a : List Kept) (j k : ℕ) : Type 0 where
  pub inner : List (List ℕ)
  pub outer : List (List (List ℕ))
  pub held : Held s a j k inner outer

-- r says whether a name from p on is equal to one of its object's that are held
pub record Meets (s : List ℕ) (a : List Kept) (j k p : ℕ) (r : Bool) : Type 0 where
  pub is : (b : List (List ℕ)) (o : List (List (List ℕ))) → Held s a j k b o → Finds no_more s p b o r

-- r says whether some object has a name twice, from p on
abbrev pub TwiceFrom : List ℕ → ℕ → Bool → Type 0
TwiceFrom s p r = Finds every s p [] [] r

-- what a pass says of it: one has; none has; or one has if one has from the next pass's place on
unfoldable pub Searched : List ℕ → ℕ → Search → Type 0
Searched s p Twice = TwiceFrom s p true
Searched s p Once = TwiceFrom s p false
Searched s p (Unfinished q) = (p < q) × (q ≤ length s) × ((r : Bool) → TwiceFrom s q r → TwiceFrom s p r)
