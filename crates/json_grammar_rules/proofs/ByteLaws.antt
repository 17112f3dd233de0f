-- Laws of the classes of bytes: what a test says of a byte, and case by case.
use Rattle.std.specs.Prelude.{◌≡◌, refl, Bool, true, false, cond, ◌||◌, ℕ, ◌-◌, ◌≤◌, leb, eqb}
use Rattle.std.proofs.Common.{sym, subst, arith, leb-true, eqb-true}
use Rattle.common.specs.Truth.{both}
use Rattle.json_grammar_rules.specs.Bytes.{within, is_digit, is_ws, is_e, is_sign, is_hex, hex_val}
pub use Rattle.common.specs.RangeLaws.{within_is, from_low, below, above}

-- TESTS

pub either : {C : Type 0} (a b : Bool) → a || b ≡ true → (a ≡ true → C) → (b ≡ true → C) → C
either true b e f g = f refl
either false b e f g = g e

-- the two ways through a test
pub by_test : {A : Type 0} (P : A → Type 0) (t : Bool) {x y : A} → (t ≡ true → P x) → (t ≡ false → P y) → P (cond t x y)
by_test P true f g = f refl
by_test P false f g = g refl

pub by_byte : {A : Type 0} (P : A → Type 0) (b x : ℕ) {l m : A} → (b ≡ x → P l) → P m → P (cond (eqb b x) l m)
by_byte P b x f g = by_test P (eqb b x) (λ e. f (eqb-true b x e)) (λ _. g)

-- RANGES

pub within_true : (lo hi b : ℕ) → within lo hi b ≡ true → (lo ≤ b) × (b ≤ hi)
unfolding within
within_true lo hi b h = let k = both (leb lo b) (leb b hi) h in (leb-true lo b k.0, leb-true b hi k.1)

pub within_high : (lo hi m b : ℕ) → hi ≤ m → within lo hi b ≡ true → b ≤ m
within_high lo hi m b h e = omega (arith, within_true lo hi b e)

-- CLASSES OF A FEW BYTES

is : (P : ℕ → Type 0) (b x : ℕ) → P x → eqb b x ≡ true → P b
is P b x p e = subst P (sym (eqb-true b x e)) p

pub white_cases : (P : ℕ → Type 0) → P 0x20 → P 0x09 → P 0x0A → P 0x0D → (b : ℕ) → is_ws b ≡ true → P b
unfolding is_ws
white_cases P p q r s b h =
    either _ _ h (λ h₁. either _ _ h₁ (λ h₂. either _ _ h₂ (is P b 0x20 p) (is P b 0x09 q)) (is P b 0x0A r)) (is P b 0x0D s)

pub e_cases : (P : ℕ → Type 0) → P 0x65 → P 0x45 → (b : ℕ) → is_e b ≡ true → P b
unfolding is_e
e_cases P p q b h = either _ _ h (is P b 0x65 p) (is P b 0x45 q)

pub sign_cases : (P : ℕ → Type 0) → P 0x2D → P 0x2B → (b : ℕ) → is_sign b ≡ true → P b
unfolding is_sign
sign_cases P p q b h = either _ _ h (is P b 0x2D p) (is P b 0x2B q)

-- a decimal digit, a capital letter or a small one, each with its value
pub hex_cases : {C : Type 0} (b : ℕ) → is_hex b ≡ true
    → (0x30 ≤ b → b ≤ 0x39 → hex_val b ≡ b - 0x30 → C) → (0x41 ≤ b → b ≤ 0x46 → hex_val b ≡ b - 0x37 → C) → (0x61 ≤ b → b ≤ 0x66 → hex_val b ≡ b - 0x57 → C) → C
unfolding is_hex hex_val is_digit
hex_cases b h digit capital small =
    either _ _ h
    (λ h₁. either _ _ h₁ (λ e. let p = within_true _ _ b e in digit p.0 p.1 (rw e))
    (λ e. let p = within_true _ _ b e in capital p.0 p.1 (rw (above 0x30 0x39 b (omega (arith, p)), e))))
    (λ e. let p = within_true _ _ b e in small (omega (arith, p)) (omega (arith, p)) (rw (above 0x30 0x39 b (omega (arith, p)), above 0x41 0x46 b (omega (arith, p)))))
