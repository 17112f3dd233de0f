-- The next mark of a text from a place on.
use Rattle.std.specs.Prelude.{◌≡◌, List, [], ◌∷◌, ◌++◌, ℕ, ◌≤◌, ◌<◌, length, drop, Option, Some, None}
use Rattle.json_grammar_rules.specs.Scan.{opens, closes, name, marks}
use Rattle.json_grammar_rules.specs.Scan as scan
use Rattle.json_string.specs.Strings.{NameAt}
use Rattle.json_check.specs.declared.marks.Mark.{Mark}
use Rattle.json_check.specs.declared.marks.Mark.TheVariants.{Opens, Closes, Name}

-- the marks from p on are ms, and then those from e on, a later place
pub record Shows (s : List ℕ) (p e : ℕ) (ms : List scan.Mark) : Type 0 where
  pub later : p < e
  pub high : e ≤ length s
  pub is : (n : ℕ) → length (drop p s) ≤ n → (m : ℕ) × (length (drop e s) ≤ m) × (marks n (drop p s) ≡ ms ++ marks m (drop e s))

-- the first is a name, whose characters begin at q
pub record NameShown (s : List ℕ) (p q e : ℕ) : Type 0 where
  pub text : List ℕ
  pub stands : NameAt s q text
  pub shows : Shows s p e (name text ∷ [])

-- there are none
pub record NoMarks (s : List ℕ) (p : ℕ) : Type 0 where
  pub is : (n : ℕ) → length (drop p s) ≤ n → marks n (drop p s) ≡ []

-- r is the first of the marks from p on, with the place after it
unfoldable pub MarkAt : List ℕ → ℕ → Option Mark → Type 0
MarkAt s p (Some (Opens e)) = Shows s p e (opens ∷ [])
MarkAt s p (Some (Closes e)) = Shows s p e (closes ∷ [])
MarkAt s p (Some (Name q e)) = NameShown s p q e
MarkAt s p None = NoMarks s p
