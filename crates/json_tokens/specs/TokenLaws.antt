-- Laws of tokens: what the equations of the contracts say of places.
use Rattle.std.specs.Prelude.{◌≡◌, Bool}
use Rattle.std.proofs.Math.Path.{refl, sym, subst}
use Rattle.std.proofs.Common.{ap, ◌∙◌, length-append, drop-drop}
use Rattle.std.proofs.Math.Bool.{true, false}
use mathlib.Core.List.{List, [], ◌∷◌}
use Prim.Native.Nat.{ℕ, suc, ◌+◌, ◌≤◌, ◌-◌}
use native.Mathlib.Omega.{arith}
use Rattle.std.proofs.Math.ListN.{length, drop, length-drop}
use Rattle.std.proofs.Math.Seq.{drop-append_seam}
use Rattle.json_grammar_rules.specs.Bytes.{is_ws}
use Rattle.json_grammar_rules.specs.Reader.{Past, bad, got, skip, past_number, word}
use Rattle.json_grammar_rules.proofs.ReaderLaws.{word_inv}
use Rattle.json_grammar_rules.proofs.NumberLaws.{number_sound}
use Rattle.json_grammar_rules.proofs.Written.{number}
use Rattle.json_grammar_rules.proofs.Endings.{yield_leaves}
use Rattle.json_grammar_rules.proofs.Fuel.{Steady}
use Rattle.json_string.specs.Ends.{End, Ends}
use Rattle.json_tokens.specs.Tokens.{skip_to, skip_ws, MovesTo, SkipsTo, NumberEnds, number_end, WordEnds, end_at, word_end}
use Rattle.json_tokens.specs.EndsLaws.{ended, is_end, ends_of}

-- BYTES THAT PASS A TEST

module _ (p : ℕ → Bool) where
  pub skip_shorter : (x : List ℕ) → length (skip p x) ≤ length x
  unfolding skip
  skip_shorter [] = omega arith
  skip_shorter (b ∷ x) = go (p b) refl (skip_shorter x)
    where
      go : (t : Bool) → p b ≡ t → length (skip p x) ≤ length x → length (skip p (b ∷ x)) ≤ suc (length x)
      go true e h = rw (e, skip) (omega arith)
      go false e h = rw (e, skip) (omega arith)

  -- what is left is the end of what was given
  skip_drop : (x : List ℕ) → drop (length x - length (skip p x)) x ≡ skip p x
  unfolding skip
  skip_drop [] = refl
  skip_drop (b ∷ x) = go (p b) refl (skip_drop x)
    where
      go : (t : Bool) → p b ≡ t → drop (length x - length (skip p x)) x ≡ skip p x → drop (suc (length x) - length (skip p (b ∷ x))) (b ∷ x) ≡ skip p (b ∷ x)
      go true e h = let k : suc (length x) - length (skip p x) ≡ suc (length x - length (skip p x)) = omega (arith, skip_shorter x) in rw (e, skip, k) h
      go false e h = let k : suc (length x) - suc (length x) ≡ 0 = omega arith in rw (e, skip, k)

  pub moves : {s : List ℕ} {from r : ℕ} → r ≡ skip_to p s from → MovesTo (skip p) s from r
  unfolding skip_to
  moves {s} {from} e = subst (λ (z : ℕ). MovesTo (skip p) s from z) (sym e) (record {
    low = omega arith;
    high = λ h. omega (arith, skip_shorter (drop from s), length-drop from s);
    is = sym (sym (drop-drop (length (drop from s) - length (skip p (drop from s))) from s) ∙ skip_drop (drop from s));
  })

-- white space
pub skips : {s : List ℕ} {from r : ℕ} → r ≡ skip_ws s from → SkipsTo s from r
skips e = moves is_ws e

-- NUMBERS

number_steady : Steady (λ _ x. past_number x)
number_steady = record { leaves = λ n x a r e. let i = number_sound x r e in yield_leaves r (number i.0) i.1; fuel = λ n m x h k. refl }

pub number_ends : {s : List ℕ} {at : ℕ} {r : End} → r ≡ number_end s at → NumberEnds s at r
unfolding number_end
number_ends e = ends_of number_steady e

pub number_is : {s : List ℕ} {at : ℕ} {r : End} → NumberEnds s at r → r ≡ number_end s at
unfolding number_end
number_is h = is_end h

-- WORDS

pub word_ends : (w : List ℕ) {s : List ℕ} {at : ℕ} {r : End} → at ≤ length s → r ≡ word_end w s at → WordEnds w s at r
unfolding word_end
word_ends w {s} {at} h e = ended (sym e) (record { ends = λ n j. go (word w (drop at s)) refl })
  where
    go : (g : Past) → word w (drop at s) ≡ g → Ends s at (end_at (at + length w) g) g
    go bad q = tt
    go (got a x) q =
        let i = word_inv w (drop at s) x q in
        let k : length (drop at s) ≡ length w + length x = ap length i ∙ length-append w x in
        (omega arith, omega (arith, length-drop at s), sym (sym (drop-drop (length w) at s) ∙ ap (drop (length w)) i ∙ drop-append_seam w x))
