-- Names that stand twice, found in one pass over the bytes: it sees where objects open and close, and their names.
use Rattle.std.specs.Prelude.{Bool, true, false, ◌||◌, List, [], ◌∷◌, ℕ, zero, suc, eqb}
use Rattle.json_grammar_rules.specs.Value.{among}
use Rattle.json_grammar_rules.specs.Reader.{Got, bad, got, ws, read_chars}

-- THE MARKS of a text, in order: what it has of objects
pub data Mark : Type 0 where
  opens closes : Mark
  name : List ℕ → Mark

-- a colon comes next: the string before it is a name
abbrev pub colon_next : List ℕ → Bool
colon_next [] = false
colon_next (b ∷ s) = eqb b 0x3A

abbrev pub marks_name : Bool → List ℕ → List Mark → List Mark
marks_name true cs ms = name cs ∷ ms
marks_name false cs ms = ms

-- a string that was read, or that breaks off
abbrev pub marks_string : (List ℕ → List Mark) → Got (List ℕ) → List Mark
marks_string below bad = []
marks_string below (got cs r) = marks_name (colon_next (ws r)) cs (below r)

-- a byte that is a quotation mark, an opening brace, a closing one, or none of them, before s
abbrev pub marks_by : (List ℕ → List Mark) → ℕ → Bool → Bool → Bool → List ℕ → List Mark
marks_by below n true o c s = marks_string below (read_chars n s)
marks_by below n false true c s = opens ∷ below s
marks_by below n false false true s = closes ∷ below s
marks_by below n false false false s = below s

abbrev pub marks_step : (List ℕ → List Mark) → ℕ → List ℕ → List Mark
marks_step below n [] = []
marks_step below n (b ∷ s) = marks_by below n (eqb b 0x22) (eqb b 0x7B) (eqb b 0x7D) s

-- fuel n, enough where it is at least the number of bytes
unfoldable pub marks : ℕ → List ℕ → List Mark
marks zero s = []
marks (suc n) s = marks_step (λ r. marks n r) n s

-- THE SEARCH: b has the names so far of the innermost object, the last one first, and o those of the objects around it, from the inside out

abbrev pub around : List (List (List ℕ)) → List (List ℕ)
around [] = []
around (b ∷ o) = b

abbrev pub beyond : List (List (List ℕ)) → List (List (List ℕ))
beyond [] = []
beyond (b ∷ o) = o

-- a name is among those before it in its object; `kept` says how a name joins them
unfoldable pub search : (List ℕ → List (List ℕ) → List (List ℕ)) → List (List ℕ) → List (List (List ℕ)) → List Mark → Bool
search kept b o [] = false
search kept b o (opens ∷ ms) = search kept [] (b ∷ o) ms
search kept b o (closes ∷ ms) = search kept (around o) (beyond o) ms
search kept b o (name n ∷ ms) = among n b || search kept (kept n b) o ms

-- .. each one joins them: whether some object has a name twice
abbrev pub every : List ℕ → List (List ℕ) → List (List ℕ)
every n b = n ∷ b

-- .. none does: whether a name is among those that were there
abbrev pub no_more : List ℕ → List (List ℕ) → List (List ℕ)
no_more n b = b

abbrev pub scan : ℕ → List ℕ → Bool
scan n s = search every [] [] (marks n s)
