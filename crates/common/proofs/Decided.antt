-- What a test says of the condition that it decides.
use Rattle.std.specs.Prelude.{◌≡◌, refl, Bool, true, false, not}
use Rattle.std.proofs.Common.{true≢false}
use Rattle.std.proofs.lemmas.Bool.{false≢true}
use Rattle.common.specs.First.{Decides, holds, fails}
use Rattle.common.proofs.FirstLaws.{decides_iff}

-- from the test's value to the condition
pub when_true : {P : Type 0} {b : Bool} → Decides P b → b ≡ true → P
when_true (holds p) e = p
when_true (fails p) e = absurd (false≢true e)

pub when_false : {P : Type 0} {b : Bool} → Decides P b → b ≡ false → P → ⊥
when_false (fails p) e = p
when_false (holds p) e = absurd (true≢false e)

-- `decides_iff` with the test first
pub decides_by : {P Q : Type 0} {b : Bool} → Decides P b → (P → Q) → (Q → P) → Decides Q b
decides_by d f g = decides_iff f g d

-- two tests that decide one condition agree
pub decided : {P : Type 0} {a b : Bool} → Decides P a → Decides P b → a ≡ b
decided (holds p) (holds q) = refl
decided (holds p) (fails q) = absurd (q p)
decided (fails p) (holds q) = absurd (p q)
decided (fails p) (fails q) = refl

-- the test of a condition that fails is false
pub test_false : {P : Type 0} {b : Bool} → Decides P b → (P → ⊥) → b ≡ false
test_false (holds p) n = absurd (n p)
test_false (fails p) n = refl

pub decides_false : (b : Bool) → Decides (b ≡ false) (not b)
decides_false true = fails true≢false
decides_false false = holds refl
