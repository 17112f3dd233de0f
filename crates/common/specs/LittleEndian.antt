-- Numbers in bytes, the lowest first, as a machine loads a word. They serve to compare eight bytes at once: equal words are of equal bytes.
use Rattle.std.specs.Prelude.{◌≡◌, List, ℕ, ◌+◌, ◌*◌, ◌/◌, ◌%◌, ◌<◌, get_or}
use Rattle.std.proofs.Common.{ap, sym, ◌∙◌, mod-eq_of_lt, arith, below_more}
use Rattle.std.proofs.Math.Nat.{div-eq_of_lt, mul-add-div_right, mul-add-mod_self_right}
use Rattle.common.specs.Bytes.{Bytes}
use Rattle.common.specs.BytesLaws.{byte_at}

-- the word in four bytes, and in eight, from place i on
abbrev pub word4 : List ℕ → ℕ → ℕ
word4 s i = ((get_or s (i + 3) 0 * 256 + get_or s (i + 2) 0) * 256 + get_or s (i + 1) 0) * 256 + get_or s i 0

abbrev pub word8 : List ℕ → ℕ → ℕ
word8 s i = word4 s (i + 4) * 4294967296 + word4 s i

-- the bytes before place n are the same
abbrev pub SameTo : List ℕ → List ℕ → ℕ → Type 0
SameTo s t n = (k : ℕ) → k < n → get_or s k 0 ≡ get_or t k 0

-- equal numbers have the same lowest digit at the base w, and the same above it
digits : (w : ℕ) {x y a b : ℕ} → a < w → b < w → x * w + a ≡ y * w + b → (x ≡ y) × (a ≡ b)
digits w {x} {y} h k e = (sym (above x h) ∙ ap (λ (n : ℕ). n / w) e ∙ above y k, sym (lowest x h) ∙ ap (λ (n : ℕ). n % w) e ∙ lowest y k)
  where
    above : (x : ℕ) {a : ℕ} → a < w → (x * w + a) / w ≡ x
    above x {a} h = mul-add-div_right {m = w} (omega arith) x a ∙ omega (arith, div-eq_of_lt h)

    lowest : (x : ℕ) {a : ℕ} → a < w → (x * w + a) % w ≡ a
    lowest x {a} h = mul-add-mod_self_right x w a ∙ mod-eq_of_lt h

word4_small : {s : List ℕ} → Bytes s → (i : ℕ) → word4 s i < 4294967296
word4_small b i = omega (arith, byte_at i b, byte_at (i + 1) b, byte_at (i + 2) b, byte_at (i + 3) b)

module _ {s t : List ℕ} (a : Bytes s) (b : Bytes t) where
  same_word4 : (i : ℕ) → SameTo s t i → word4 s i ≡ word4 t i → SameTo s t (i + 4)
  same_word4 i before e k l =
      let x = digits 256 (byte_at i a) (byte_at i b) e in
      let y = digits 256 (byte_at (i + 1) a) (byte_at (i + 1) b) x.0 in
      let z = digits 256 (byte_at (i + 2) a) (byte_at (i + 2) b) y.0 in
      let two = below_more _ (i + 1) (below_more _ i before x.1) y.1 in
      let three = below_more _ (i + 2) (λ k l. two k (omega arith)) z.1 in
      below_more _ (i + 3) (λ k l. three k (omega arith)) z.0 k (omega arith)

  -- where the words at i are the same, eight bytes more are
  pub same_word8 : (i : ℕ) → SameTo s t i → word8 s i ≡ word8 t i → SameTo s t (i + 8)
  same_word8 i before e k l =
      let x = digits 4294967296 (word4_small a i) (word4_small b i) e in
      same_word4 (i + 4) (same_word4 i before x.1) x.0 k (omega arith)
