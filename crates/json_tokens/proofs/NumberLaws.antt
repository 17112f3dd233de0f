-- Numbers: a law for each way through each function.
use Rattle.std.specs.Prelude.{Some, None}
use mathlib.Core.Path.{◌≡◌, refl}
use mathlib.Core.Bool.{true, false, false≢true}
use mathlib.Core.List.{List}
use Prim.Native.Nat.{ℕ, ◌≤◌, ◌<◌, ◌+◌}
use native.Mathlib.Omega.{arith}
use lib.Dec.{eqb}
use lib.ListN.{length, get_or, drop_of_length-le}
use borrow.Author.Tests.{ne_eqb}
use Rattle.json_grammar_rules.specs.Bytes.{within, is_digit, is_digit19, is_e, is_sign}
use Rattle.json_grammar_rules.specs.Reader.{skip, optional, then, past_digits, past_frac, past_exp, past_number}
use Rattle.json_string.specs.Ends.{End, at_byte}
use Rattle.json_tokens.specs.Tokens.{MovesTo, DigitsEnd, IntEnds, FracEnds, ExpEnds, UnsignedEnds, NumberEnds}
use Rattle.json_tokens.specs.EndsLaws.{done, first, first_same, first_only, first_bad, out, earlier, bind, bind_bad, moved}

not_zero : (b : ℕ) → is_digit19 b ≡ true → eqb b 0x30 ≡ false
unfolding is_digit19 within
not_zero b h = ne_eqb b 0x30 (λ e. let z : false ≡ true = rw e at h in false≢true z)

module _ {s : List ℕ} {at : ℕ} where
  -- 1*DIGIT
  pub digits_is : {e : ℕ} → at < length s → is_digit (get_or s at 0) ≡ true → MovesTo (skip is_digit) s (at + 1) e → DigitsEnd s at (Some e)
  digits_is h b k = done tt k.low (k.high (omega arith)) (λ n. rw (at_byte s at h, b, k.is))

  pub digits_other : at < length s → is_digit (get_or s at 0) ≡ false → DigitsEnd s at None
  digits_other h b = first_bad h (omega arith) (λ n. rw b)

  pub digits_out : length s ≤ at → DigitsEnd s at None
  digits_out h = out h (λ n. refl)

  -- int
  pub int_digits : {e : ℕ} → at < length s → is_digit19 (get_or s at 0) ≡ true → MovesTo (skip is_digit) s (at + 1) e → IntEnds s at (Some e)
  int_digits h b k = done tt k.low (k.high (omega arith)) (λ n. rw (at_byte s at h, not_zero (get_or s at 0) b, b, k.is))

  pub int_zero : at < length s → get_or s at 0 ≡ 0x30 → IntEnds s at (Some (at + 1))
  int_zero h b = first_only h (omega arith) tt (λ n. rw b)

  pub int_other : at < length s → is_digit19 (get_or s at 0) ≡ false → (get_or s at 0 ≡ 0x30 → ⊥) → IntEnds s at None
  int_other h b z = first_bad h (omega arith) (λ n. rw (ne_eqb (get_or s at 0) 0x30 z, b))

  pub int_out : length s ≤ at → IntEnds s at None
  int_out h = out h (λ n. refl)

  -- [ frac ]
  pub frac_is : {r : End} → at < length s → get_or s at 0 ≡ 0x2E → DigitsEnd s (at + 1) r → FracEnds s at r
  frac_is h b k = first h (omega arith) (λ n. rw b) (earlier (omega arith) k)

  pub frac_other : at < length s → (get_or s at 0 ≡ 0x2E → ⊥) → FracEnds s at (Some at)
  frac_other h b = done tt (omega arith) (omega arith) (λ n. rw (at_byte s at h, ne_eqb (get_or s at 0) 0x2E b))

  pub frac_out : at ≤ length s → length s ≤ at → FracEnds s at (Some at)
  frac_out k h = done tt (omega arith) k (λ n. rw (drop_of_length-le s h))

  -- [ minus / plus ]
  pub sign_is : at < length s → is_sign (get_or s at 0) ≡ true → MovesTo (optional is_sign) s at (at + 1)
  sign_is h b = record { low = omega arith; high = λ _. omega arith; is = rw (at_byte s at h, b) }

  pub sign_other : at < length s → is_sign (get_or s at 0) ≡ false → MovesTo (optional is_sign) s at at
  sign_other h b = record { low = omega arith; high = λ k. k; is = rw (at_byte s at h, b) }

  pub sign_out : length s ≤ at → MovesTo (optional is_sign) s at at
  sign_out h = record { low = omega arith; high = λ k. k; is = rw (drop_of_length-le s h) }

  -- [ exp ]
  pub exp_is : {e : ℕ} {r : End} → at < length s → is_e (get_or s at 0) ≡ true → MovesTo (optional is_sign) s (at + 1) e → DigitsEnd s e r → ExpEnds s at r
  exp_is h b k d = first h (omega arith) (λ n. rw b) (moved (λ n x. past_digits x) k (earlier (omega (arith, k.low)) d))

  pub exp_other : at < length s → is_e (get_or s at 0) ≡ false → ExpEnds s at (Some at)
  exp_other h b = done tt (omega arith) (omega arith) (λ n. rw (at_byte s at h, b))

  pub exp_out : at ≤ length s → length s ≤ at → ExpEnds s at (Some at)
  exp_out k h = done tt (omega arith) k (λ n. rw (drop_of_length-le s h))

  -- int [ frac ] [ exp ]
  module _ {f : ℕ} (i : IntEnds s at (Some f)) where
    pub unsigned_is : {x : ℕ} {r : End} → FracEnds s f (Some x) → ExpEnds s x r → UnsignedEnds s at r
    unsigned_is p q = bind (omega arith) (λ _ _ _ y. then (past_frac y) (λ _ z. past_exp z)) i (λ _. bind (omega arith) (λ _ _ _ z. past_exp z) p (λ _. q))

    pub unsigned_frac_bad : FracEnds s f None → UnsignedEnds s at None
    unsigned_frac_bad p = bind (omega arith) (λ _ _ _ y. then (past_frac y) (λ _ z. past_exp z)) i (λ _. bind_bad (omega arith) (λ _ _ _ z. past_exp z) p)

  pub unsigned_int_bad : IntEnds s at None → UnsignedEnds s at None
  unsigned_int_bad i = bind_bad (omega arith) (λ _ _ _ y. then (past_frac y) (λ _ z. past_exp z)) i

  -- [ minus ]
  pub number_minus : {r : End} → at < length s → get_or s at 0 ≡ 0x2D → UnsignedEnds s (at + 1) r → NumberEnds s at r
  unfolding past_number
  number_minus h b k = first h (omega arith) (λ n. rw b) (earlier (omega arith) k)

  pub number_unsigned : {r : End} → at < length s → (get_or s at 0 ≡ 0x2D → ⊥) → UnsignedEnds s at r → NumberEnds s at r
  unfolding past_number
  number_unsigned h b k = first_same h (omega arith) (λ n. rw (ne_eqb (get_or s at 0) 0x2D b)) k
