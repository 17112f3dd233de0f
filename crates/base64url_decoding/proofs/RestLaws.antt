-- A rest of at most three characters, filled up with A.
use mathlib.Core.Path.{◌≡◌, refl, ap₂, sym, subst, ◌∙◌}
use mathlib.Core.Bool.{Bool, true, false, ◌&&◌, and-true, and-false}
use mathlib.Core.List.{List, [], ◌∷◌}
use Prim.Native.Nat.{ℕ, ◌+◌, ◌*◌, ◌%◌, ◌≤◌}
use native.Mathlib.Omega.{arith}
use lib.Dec.{eqb}
use lib.ListN.{length, get_or, set}
use Rattle.std.specs.Prelude.{Some, None}
use Rattle.common.proofs.Decided.{decided, decides_by}
use Rattle.common.proofs.FirstLaws.{decides_eq}
use Rattle.common.specs.Laid.{laid_stores}
use Rattle.common.specs.Ranges.{within}
use Rattle.base64url_rules.specs.Alphabet.{value, in_alphabet}
use Rattle.base64url_rules.specs.Base64url.{decode, alphabetic, unused_bits, strict, byte1, byte2, byte3}
use Rattle.base64url_rules.proofs.Listed.{as_entries}
use Rattle.base64url_rules.proofs.Tables.{entries}
use Rattle.base64url_words.specs.Words.{grouped}
use Rattle.base64url_decoding.specs.Writing.{Decodes}
use Rattle.base64url_decoding.proofs.DecodeLaws.{some_group, no_group, not_strict}

-- a text of n characters, by these one by one
pub as_listed : (s : List ℕ) (n : ℕ) {out₀ out : List ℕ} {ok : Bool} → length s ≡ n → Decodes (entries (λ i. get_or s i 0) 0 n) out₀ ok out → Decodes s out₀ ok out
as_listed s n {out₀} {out} {ok} h d = subst (λ (l : List ℕ). Decodes l out₀ ok out) (as_entries s n h) d

zero_test : (n m : ℕ) → (n ≡ 0 → m ≡ 0) → (m ≡ 0 → n ≡ 0) → eqb n 0 ≡ eqb m 0
zero_test n m f g = decided (decides_by (decides_eq n 0) f g) (decides_eq m 0)

value_A : value 65 ≡ 0
unfolding within value
value_A = refl

-- filled up with A, two characters have their unused bits as the second byte, and three as the third
two_test : (a b : ℕ) → strict (a ∷ b ∷ []) ≡ strict (a ∷ b ∷ 65 ∷ 65 ∷ []) && eqb (byte2 b 65) 0
unfolding strict alphabetic unused_bits
two_test a b =
    rw value_A
    (ap₂ ◌&&◌ (sym (and-true (in_alphabet a && (in_alphabet b && true))))
    (zero_test (value b % 16) (value b % 16 * 16 + 0) (λ e. omega arith) (λ e. omega arith)))

three_test : (a b c : ℕ) → strict (a ∷ b ∷ c ∷ []) ≡ strict (a ∷ b ∷ c ∷ 65 ∷ []) && eqb (byte3 c 65) 0
unfolding strict alphabetic unused_bits
three_test a b c =
    rw value_A
    (ap₂ ◌&&◌ (sym (and-true (in_alphabet a && (in_alphabet b && (in_alphabet c && true)))))
    (zero_test (value c % 4) (value c % 4 * 64 + 0) (λ e. omega arith) (λ e. omega arith)))

pub alone : (a : ℕ) (out : List ℕ) → Decodes (a ∷ []) out false out
unfolding strict
alone a out = not_strict (and-false (alphabetic (a ∷ [])))

-- two characters, by what their group says
module _ (a b : ℕ) (out : List ℕ) where
  pub two_bad : None ≡ grouped (a ∷ b ∷ 65 ∷ 65 ∷ []) → Decodes (a ∷ b ∷ []) out false out
  two_bad e = not_strict (two_test a b ∙ rw (no_group _ e))

  pub two_judged : {bytes : List ℕ} → Some bytes ≡ grouped (a ∷ b ∷ 65 ∷ 65 ∷ []) → 1 ≤ length out
      → Decodes (a ∷ b ∷ []) out (eqb (get_or bytes 1 0) 0) (set out 0 (get_or bytes 0 0))
  unfolding decode
  two_judged e h =
      let g = some_group (a ∷ b ∷ 65 ∷ 65 ∷ []) e in
      rw (← g.1) (record { answer = sym (two_test a b ∙ rw g.0); bytes = λ _. laid_stores [] out 0 refl (byte1 a b ∷ []) h })

-- three characters
module _ (a b c : ℕ) (out : List ℕ) where
  pub three_bad : None ≡ grouped (a ∷ b ∷ c ∷ 65 ∷ []) → Decodes (a ∷ b ∷ c ∷ []) out false out
  three_bad e = not_strict (three_test a b c ∙ rw (no_group _ e))

  pub three_judged : {bytes : List ℕ} → Some bytes ≡ grouped (a ∷ b ∷ c ∷ 65 ∷ []) → 2 ≤ length out
      → Decodes (a ∷ b ∷ c ∷ []) out (eqb (get_or bytes 2 0) 0) (set (set out 0 (get_or bytes 0 0)) 1 (get_or bytes 1 0))
  unfolding decode
  three_judged e h =
      let g = some_group (a ∷ b ∷ c ∷ 65 ∷ []) e in
      rw (← g.1) (record { answer = sym (three_test a b c ∙ rw g.0); bytes = λ _. laid_stores [] out 0 refl (byte1 a b ∷ byte2 b c ∷ []) h })
