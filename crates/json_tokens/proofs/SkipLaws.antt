-- What is passed over: bytes that pass a test, and the bytes of a word.
use Rattle.std.specs.Prelude.{Some, None}
use mathlib.Core.Path.{◌≡◌, refl}
use mathlib.Core.Bool.{Bool, true, false}
use mathlib.Core.List.{List}
use Prim.Native.Nat.{ℕ, suc, ◌≤◌, ◌<◌, ◌+◌}
use native.Mathlib.Omega.{arith}
use lib.ListN.{length, drop, get_or, drop_of_length-le}
use borrow.Author.Tests.{eq-eqb, ne_eqb, eqb-false}
use lib.Dec.{eqb}
use Rattle.json_grammar_rules.specs.Bytes.{is_ws}
use Rattle.json_grammar_rules.specs.Reader.{skip, word}
use Rattle.json_string.specs.Ends.{at_byte}
use Rattle.json_tokens.specs.Tokens.{skip_to, word_end}
use Rattle.json_tokens.specs.TokenLaws.{skip_shorter}

-- BYTES THAT PASS A TEST

module _ (p : ℕ → Bool) (s : List ℕ) (at : ℕ) where
  pub skip_more : at < length s → p (get_or s at 0) ≡ true → skip_to p s (at + 1) ≡ skip_to p s at
  unfolding skip_to skip
  skip_more h e = rw (at_byte s at h, e, skip) (omega (arith, skip_shorter p (drop (at + 1) s)))

  pub skip_stop : at < length s → p (get_or s at 0) ≡ false → at ≡ skip_to p s at
  unfolding skip_to skip
  skip_stop h e = rw (at_byte s at h, e, skip) (omega arith)

  pub skip_end : length s ≤ at → at ≡ skip_to p s at
  unfolding skip_to skip
  skip_end h = rw (drop_of_length-le s h) (omega arith)

-- WORDS: bytes i and on of the word w are left

module _ (w s : List ℕ) (i at : ℕ) where
  pub word_more : i < length w → at < length s → get_or s at 0 ≡ get_or w i 0 → word_end (drop i w) s at ≡ word_end (drop (i + 1) w) s (at + 1)
  unfolding word_end word
  word_more k h e =
      let n : at + suc (length (drop (i + 1) w)) ≡ at + 1 + length (drop (i + 1) w) = omega arith in
      rw (at_byte w i k, at_byte s at h, eq-eqb (get_or s at 0) (get_or w i 0) e, word, n)

  pub word_other : i < length w → at < length s → (get_or s at 0 ≡ get_or w i 0 → ⊥) → word_end (drop i w) s at ≡ None
  unfolding word_end word
  word_other k h e = rw (at_byte w i k, at_byte s at h, ne_eqb (get_or s at 0) (get_or w i 0) e, word)

  pub word_out : i < length w → length s ≤ at → word_end (drop i w) s at ≡ None
  unfolding word_end word
  word_out k h = rw (at_byte w i k, drop_of_length-le s h)

  pub word_done : length w ≤ i → word_end (drop i w) s at ≡ Some at
  unfolding word_end word
  word_done k = let n : at + 0 ≡ at = omega arith in rw (drop_of_length-le w k, n)

-- WHITE SPACE

module _ (b : ℕ) where
  pub ws_yes : ((b ≡ 0x20 → ⊥) → (b ≡ 0x09 → ⊥) → (b ≡ 0x0A → ⊥) → b ≡ 0x0D) → true ≡ is_ws b
  unfolding is_ws
  ws_yes n = go (eqb b 0x20) (eqb b 0x09) (eqb b 0x0A) refl refl refl
    where
      go : (t u v : Bool) → eqb b 0x20 ≡ t → eqb b 0x09 ≡ u → eqb b 0x0A ≡ v → true ≡ is_ws b
      go true u v e f g = rw e
      go false true v e f g = rw (e, f)
      go false false true e f g = rw (e, f, g)
      go false false false e f g = rw (e, f, g, eq-eqb b 0x0D (n (eqb-false b 0x20 e) (eqb-false b 0x09 f) (eqb-false b 0x0A g)))

  pub ws_no : (b ≡ 0x20 → ⊥) → (b ≡ 0x09 → ⊥) → (b ≡ 0x0A → ⊥) → (b ≡ 0x0D → ⊥) → false ≡ is_ws b
  unfolding is_ws
  ws_no n m k l = rw (ne_eqb b 0x20 n, ne_eqb b 0x09 m, ne_eqb b 0x0A k, ne_eqb b 0x0D l)
