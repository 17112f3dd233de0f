-- What the contracts say: where the readers of `json_grammar_rules`'s Reader, started at a place of a slice, end.
use Rattle.std.specs.Prelude.{◌≡◌, Bool, List, ℕ, ◌≤◌, ◌+◌, ◌-◌, length, drop, Some, None}
use Rattle.json_grammar_rules.specs.Bytes.{is_ws}
use Rattle.json_grammar_rules.specs.Reader.{Got, Past, bad, got, skip, ws, past_digits, past_int, past_frac, past_exp, past_unsigned, past_number, word}
use Rattle.json_string.specs.Ends.{End, Ends, end_of}

-- WHITE SPACE, and digits

-- the place past the bytes from `from` on that pass the test p
unfoldable pub skip_to : (ℕ → Bool) → List ℕ → ℕ → ℕ
skip_to p s from = from + (length (drop from s) - length (skip p (drop from s)))

abbrev pub skip_ws : List ℕ → ℕ → ℕ
skip_ws s from = skip_to is_ws s from

-- e is the place past what `past` passes over at `from`
pub record MovesTo (past : List ℕ → List ℕ) (s : List ℕ) (from e : ℕ) : Type 0 where
  pub low : from ≤ e
  pub high : from ≤ length s → e ≤ length s
  pub is : past (drop from s) ≡ drop e s

abbrev pub SkipsTo : List ℕ → ℕ → ℕ → Type 0
SkipsTo s from e = MovesTo ws s from e

-- READERS

-- r is where a reader that starts at `at` ends, not before `least`, for every fuel that is enough
pub record EndsBy {A : Type 0} (reader : ℕ → List ℕ → Got A) (s : List ℕ) (at least : ℕ) (r : End) : Type 0 where
  pub ends : (n : ℕ) → length (drop at s) ≤ n → Ends s least r (reader n (drop at s))

-- NUMBERS AND WORDS, which need no fuel

abbrev pub DigitsEnd : List ℕ → ℕ → End → Type 0
DigitsEnd s at r = EndsBy (λ _ x. past_digits x) s at (at + 1) r

abbrev pub IntEnds : List ℕ → ℕ → End → Type 0
IntEnds s at r = EndsBy (λ _ x. past_int x) s at (at + 1) r

abbrev pub FracEnds : List ℕ → ℕ → End → Type 0
FracEnds s at r = EndsBy (λ _ x. past_frac x) s at at r

abbrev pub ExpEnds : List ℕ → ℕ → End → Type 0
ExpEnds s at r = EndsBy (λ _ x. past_exp x) s at at r

abbrev pub UnsignedEnds : List ℕ → ℕ → End → Type 0
UnsignedEnds s at r = EndsBy (λ _ x. past_unsigned x) s at (at + 1) r

abbrev pub NumberEnds : List ℕ → ℕ → End → Type 0
NumberEnds s at r = EndsBy (λ _ x. past_number x) s at (at + 1) r

unfoldable pub number_end : List ℕ → ℕ → End
number_end s at = end_of s (past_number (drop at s))

abbrev pub WordEnds : List ℕ → List ℕ → ℕ → End → Type 0
WordEnds w s at r = EndsBy (λ _ x. word w x) s at at r

-- e, where something was read
abbrev pub end_at : ℕ → Past → End
end_at e (got a r) = Some e
end_at e bad = None

unfoldable pub word_end : List ℕ → List ℕ → ℕ → End
word_end w s at = end_at (at + length w) (word w (drop at s))
