-- What it means that the bytes at a member's places resolve to its name and its value.
use Rattle.std.specs.Prelude.{◌≡◌, List, [], ℕ, zero, suc}
use Rattle.std.proofs.Math.Option.{Option, none, some}
use Rattle.std.proofs.Math.Seq.{slice}
use Rattle.json_grammar_rules.specs.Value.{Value, Members, string_v, number_v, true_v, false_v, null_v, array_v, object_v, mnil, mcons}
use Rattle.json_grammar_rules.specs.Grammar.{none as no-space, Chars, ValueTree, false_t, null_t, true_t, object_t, array_t, number_t, string_t, object0, object_of, array0, array_of}
use Rattle.json_grammar_rules.specs.Grammar.{yield_chars, yield_value, codes_of, reading_value}
use Rattle.json_grammar_rules.specs.Places.{kind_of, MemberPlaces}

-- the bytes x are characters with the code points cs
abbrev pub Text : List ℕ → List ℕ → Type 0
Text x cs = (t : Chars) × (yield_chars t [] ≡ x) × (codes_of t ≡ cs)

-- no white space around a value: only an array's or an object's own tokens could have any, before the first and after the last
abbrev pub Bare : ValueTree → Type 0
Bare false_t = Unit {0}
Bare null_t = Unit {0}
Bare true_t = Unit {0}
Bare (object_t (object0 b e)) = (b.before ≡ no-space) × (e.after ≡ no-space)
Bare (object_t (object_of b m ms e)) = (b.before ≡ no-space) × (e.after ≡ no-space)
Bare (array_t (array0 b e)) = (b.before ≡ no-space) × (e.after ≡ no-space)
Bare (array_t (array_of b v vs e)) = (b.before ≡ no-space) × (e.after ≡ no-space)
Bare (number_t n) = Unit {0}
Bare (string_t cs) = Unit {0}

-- the bytes x are a value that reads as v, without white space around it
abbrev pub Whole : List ℕ → Value → Type 0
Whole x v = (t : ValueTree) × (yield_value t [] ≡ x) × (reading_value t ≡ v) × Bare t

-- a string is taken between its quotation marks, every other value whole
abbrev pub Resolves : List ℕ → Value → Type 0
Resolves x (string_v cs) = Text x cs
Resolves x (number_v cs) = Whole x (number_v cs)
Resolves x true_v = Whole x true_v
Resolves x false_v = Whole x false_v
Resolves x null_v = Whole x null_v
Resolves x (array_v vs) = Whole x (array_v vs)
Resolves x (object_v ms) = Whole x (object_v ms)

-- a member's kind is that of the value v, and in the text s the bytes at its places resolve to the name n and to v
pub record Shown (s : List ℕ) (m : MemberPlaces) (n : List ℕ) (v : Value) : Type 0 where
  pub kind : m.kind ≡ kind_of v
  pub name : Text (slice m.name_start m.name_end s) n
  pub value : Resolves (slice m.value_start m.value_end s) v

-- what is shown for k: member k of the reading, from 0, shown so; nothing past the last
abbrev pub Shows : List ℕ → Option MemberPlaces → Members → ℕ → Type 0
Shows s f mnil k = f ≡ none
Shows s f (mcons n v ms) zero = (m : MemberPlaces) × (f ≡ some m) × Shown s m n v
Shows s f (mcons n v ms) (suc k) = Shows s f ms k
