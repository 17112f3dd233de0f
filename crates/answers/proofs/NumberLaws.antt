-- The number of an answer: that of what is done, or the refusal's, which is another.
use Rattle.std.specs.Prelude.{Result, Ok, Err}
use mathlib.Core.Path.{◌≡◌, sym, ap, ◌∙◌}
use Prim.Native.Nat.{ℕ}
use native.Mathlib.Omega.{arith}
use Rattle.answers.specs.declared.refusal.Refusal.{Refusal}
use Rattle.answers.specs.Numbers.{number, answer}

pub not_done : (r : Refusal) → number r ≡ 0 → ⊥
not_done Refusal.TokenTooLong e = absurd (omega (arith, e))
not_done Refusal.BadTable e = absurd (omega (arith, e))
not_done Refusal.NotTwoPeriods e = absurd (omega (arith, e))
not_done Refusal.NotBase64url e = absurd (omega (arith, e))
not_done Refusal.HeaderTooLong e = absurd (omega (arith, e))
not_done Refusal.BufferTooShort e = absurd (omega (arith, e))
not_done Refusal.NotDerived e = absurd (omega (arith, e))
not_done Refusal.NameTwice e = absurd (omega (arith, e))
not_done Refusal.WrongKind e = absurd (omega (arith, e))
not_done Refusal.Critical e = absurd (omega (arith, e))
not_done Refusal.WrongAlg e = absurd (omega (arith, e))
not_done Refusal.NoKey e = absurd (omega (arith, e))
not_done Refusal.AlgNotAllowed e = absurd (omega (arith, e))
not_done Refusal.FormatNotAllowed e = absurd (omega (arith, e))
not_done Refusal.SignatureDiffers e = absurd (omega (arith, e))
not_done Refusal.NoSuchMember e = absurd (omega (arith, e))

module _ {A : Type 0} {r : Result A Refusal} {n : ℕ} (e : answer r ≡ n) where
  pub done : {a : A} → r ≡ Ok a → n ≡ 0
  done o = sym e ∙ ap answer o

  pub refused : {d : Refusal} → r ≡ Err d → number d ≡ n
  refused o = sym (ap answer o) ∙ e
