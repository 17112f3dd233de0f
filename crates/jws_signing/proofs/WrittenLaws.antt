-- A buffer that is cleared past what the result speaks of.
use Rattle.std.specs.Prelude.{Result, Ok, Err}
use Rattle.std.specs.Result.{result_unwrap_or}
use mathlib.Core.Path.{◌≡◌, refl, ap, sym, subst, ◌∙◌}
use mathlib.Core.List.{List}
use Prim.Native.Nat.{ℕ, ◌-◌, ◌≤◌}
use native.Mathlib.Omega.{arith}
use lib.ListN.{length, take, drop, replicate}
use borrow.Rule.Slice.PartMut.{put_mid}
use Rattle.common.specs.Buffer.{filled, laid}
use Rattle.common.specs.Laid.{cleared_from, take_laid}
use Rattle.answers.specs.declared.refusal.Refusal.{Refusal}
use Rattle.jws_rules.specs.Results.{sign_result}
use Rattle.jws_rules.specs.Outcomes.{Signed}
use Rattle.jws_rules.specs.Outcomes.{SignOutcome, handed, unsigned, signed_as}
use Rattle.jws_signing.specs.Written.{Written, unsigned_result}

-- how far the token goes
pub reaches : (r : Result ℕ Refusal) → result_unwrap_or r 0 ≡ (sign_result r).length
reaches (Ok n) = refl
reaches (Err e) = refl

-- what the outer function hands back
pub settled : (outcome : SignOutcome) (token₀ token z : List ℕ) {r : Signed} → Written outcome token₀ r token
    → z ≡ replicate (length (take (length token - r.length) (drop r.length token))) 0
    → handed r (put_mid r.length (length token - r.length) token z) ≡ outcome
settled outcome token₀ token z w k =
    let b = cleared_from _ (length token₀) token z w.kept w.within k ∙ sym w.front in
    λ i. record { gives = w.result i; token = b i }

pub same_outcome : {outcome other : SignOutcome} {token₀ token : List ℕ} {r : Signed} → outcome ≡ other → Written outcome token₀ r token → Written other token₀ r token
same_outcome {token₀ = token₀} {token} {r} e w = subst (λ (o : SignOutcome). Written o token₀ r token) e w

-- A refusal asks nothing of the buffer but its length, ..
pub refuse : {outcome : SignOutcome} (n : ℕ) {token₀ token : List ℕ} {r : Signed} → outcome ≡ unsigned n (length token₀) → r ≡ unsigned_result n
    → length token ≡ length token₀ → Written outcome token₀ r token
refuse n {token₀} e f k =
    let m : length token₀ ≡ length token₀ - 0 = omega arith in
    rw (e, f) (record { result = refl; front = ap (λ (x : ℕ). replicate x 0) m; within = omega arith; kept = k })

-- .. and a token stands at its front.
pub hand : {outcome : SignOutcome} (t : List ℕ) {token₀ token : List ℕ} {n : ℕ} → outcome ≡ signed_as t (length token₀) → token ≡ laid t token₀
    → n ≡ length t → n ≤ length token₀ → length token ≡ length token₀ → Written outcome token₀ (record { answer = 0; length = n }) token
hand t {token₀} {token} {n} e f m h k =
    rw (e, m)
    (record {
      result = refl;
      front = ap (filled (length token₀)) (sym (ap (take (length t)) f ∙ take_laid t token₀ (length t) refl));
      within = omega arith;
      kept = k;
    })
