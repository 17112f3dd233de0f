-- Other forms of the functions on words: Ch and Maj with fewer operations, the big sigmas with nested rotations.
use Rattle.std.specs.Prelude.{◌≡◌, refl, ℕ, zero, suc, ◌+◌, ◌-◌, ◌*◌, ◌/◌, ◌%◌, ◌^◌, ◌≤◌, ◌<◌}
use Rattle.std.proofs.Common.{ap, ap₂, sym, ◌∙◌, subst, pow-suc, add-zero, add_comm, add_assoc, add-mul, mul_assoc, mul_comm, mod-lt, not-suc-le-zero, le_of_suc-le-suc, arith, pow_pos, pow-add, shr-shr, shr_lt}
use Rattle.std.proofs.Math.Nat.{mul-mod_left, mul-add-div_right, mul-add-mod_self_right}
use Rattle.std.specs.Int.Bits.{bit_and, bit_or, bit_xor, or_shifted_r}
use Rattle.std.proofs.lemmas.Nat.{and_shr, and_mod, xor_shr, xor_mod, xor_comm, xor_lt, xor_block, or_lt, mod-pow-add, shl-shr, shr_le}
use Rattle.sha2_rules.specs.Words.{NOT, ROTR, Ch, Maj, three_rotations}

-- what holds of both binary digits
abbrev Both : (ℕ → Type 0) → Type 0
Both Q = Q 0 × Q 1

both : (Q : ℕ → Type 0) → Both Q → (a : ℕ) → a < 2 → Q a
both Q h zero k = h.0
both Q h (suc zero) k = h.1
both Q h (suc (suc a)) k = absurd (not-suc-le-zero (le_of_suc-le-suc (le_of_suc-le-suc k)))

-- a function of three numbers that goes through their digits one by one
abbrev Digitwise : (ℕ → ℕ → ℕ → ℕ) → Type 0
Digitwise f = (x y z : ℕ) → (f x y z / 2 ≡ f (x / 2) (y / 2) (z / 2)) × (f x y z % 2 ≡ f (x % 2) (y % 2) (z % 2))

and_half : (x y : ℕ) → bit_and x y / 2 ≡ bit_and (x / 2) (y / 2)
and_half x y = and_shr x y 1

and_last : (x y : ℕ) → bit_and x y % 2 ≡ bit_and (x % 2) (y % 2)
and_last x y = and_mod x y 1

xor_half : (x y : ℕ) → bit_xor x y / 2 ≡ bit_xor (x / 2) (y / 2)
xor_half x y = xor_shr x y 1

xor_last : (x y : ℕ) → bit_xor x y % 2 ≡ bit_xor (x % 2) (y % 2)
xor_last x y = xor_mod x y 1

-- two of them are equal if they are so on digits
same_digits : (f g : ℕ → ℕ → ℕ → ℕ) → Digitwise f → Digitwise g → Both (λ a. Both (λ b. Both (λ c. f a b c ≡ g a b c)))
    → (w x y z : ℕ) → x < 2 ^ w → y < 2 ^ w → z < 2 ^ w → f x y z ≡ g x y z
same_digits f g p q d = go
  where
    on_digits : (a b c : ℕ) → a < 2 → b < 2 → c < 2 → f a b c ≡ g a b c
    on_digits a b c i j k = both (λ c. f a b c ≡ g a b c) (both (λ b. Both (λ c. f a b c ≡ g a b c)) (both (λ a. Both (λ b. Both (λ c. f a b c ≡ g a b c))) d a i) b j) c k

    go : (w x y z : ℕ) → x < 2 ^ w → y < 2 ^ w → z < 2 ^ w → f x y z ≡ g x y z
    go zero x y z i j k = on_digits x y z (omega arith) (omega arith) (omega arith)
    go (suc w) x y z i j k =
        let e : 2 ^ suc w ≡ 2 ^ w * 2 = pow-suc 2 w in
        let half : f x y z / 2 ≡ g x y z / 2 = (p x y z).0 ∙ go w (x / 2) (y / 2) (z / 2) (omega arith) (omega arith) (omega arith) ∙ sym (q x y z).0 in
        let last : f x y z % 2 ≡ g x y z % 2 = (p x y z).1 ∙ on_digits (x % 2) (y % 2) (z % 2) (omega arith) (omega arith) (omega arith) ∙ sym (q x y z).1 in
        omega arith

xor_assoc : (w x y z : ℕ) → x < 2 ^ w → y < 2 ^ w → z < 2 ^ w → bit_xor (bit_xor x y) z ≡ bit_xor x (bit_xor y z)
xor_assoc =
    same_digits (λ x y z. bit_xor (bit_xor x y) z) (λ x y z. bit_xor x (bit_xor y z))
    (λ x y z. (simp xor_half, simp xor_last))
    (λ x y z. (simp xor_half, simp xor_last))
    (((refl, refl), (refl, refl)), ((refl, refl), (refl, refl)))

-- the bits of z where x has none: z without those that x has too
and_not : (w x z : ℕ) → x < 2 ^ w → z < 2 ^ w → bit_and (NOT w x) z ≡ bit_xor (bit_and x z) z
and_not zero x z i k =
    let e : x ≡ 0 = omega arith in
    let f : z ≡ 0 = omega arith in
    rw (e, f) refl
and_not (suc w) x z i k =
    let e : 2 ^ suc w ≡ 2 ^ w * 2 = pow-suc 2 w in
    let n : NOT (suc w) x / 2 ≡ NOT w (x / 2) = omega arith in
    let m : NOT (suc w) x % 2 ≡ 1 - x % 2 = omega arith in
    let half : bit_and (NOT (suc w) x) z / 2 ≡ bit_xor (bit_and x z) z / 2 =
    and_half (NOT (suc w) x) z ∙ ap (λ (u : ℕ). bit_and u (z / 2)) n ∙ and_not w (x / 2) (z / 2) (omega arith) (omega arith) ∙ sym (simp (xor_half, and_half)) in
    let digits : (a : ℕ) → a < 2 → (c : ℕ) → c < 2 → bit_and (1 - a) c ≡ bit_xor (bit_and a c) c =
    both (λ a. (c : ℕ) → c < 2 → bit_and (1 - a) c ≡ bit_xor (bit_and a c) c) (both _ (refl, refl), both _ (refl, refl)) in
    let last : bit_and (NOT (suc w) x) z % 2 ≡ bit_xor (bit_and x z) z % 2 =
    and_last (NOT (suc w) x) z ∙ ap (λ (u : ℕ). bit_and u (z % 2)) m ∙ digits (x % 2) (omega arith) (z % 2) (omega arith) ∙ sym (simp (xor_last, and_last)) in
    omega arith

-- Ch, by where y and z differ
pub ch_choosing : (w x y z : ℕ) → x < 2 ^ w → y < 2 ^ w → z < 2 ^ w → bit_xor (bit_and (bit_xor y z) x) z ≡ Ch w x y z
ch_choosing w x y z i j k =
    same_digits (λ x y z. bit_xor (bit_and (bit_xor y z) x) z) (λ x y z. bit_xor (bit_and x y) (bit_xor (bit_and x z) z))
    (λ x y z. (simp (xor_half, and_half), simp (xor_last, and_last)))
    (λ x y z. (simp (xor_half, and_half), simp (xor_last, and_last)))
    (((refl, refl), (refl, refl)), ((refl, refl), (refl, refl))) w x y z i j k
    ∙ ap (bit_xor (bit_and x y)) (sym (and_not w x z i k))

-- Maj, by where x and y differ, and y and z
pub maj_pairs : (w x y z : ℕ) → x < 2 ^ w → y < 2 ^ w → z < 2 ^ w → bit_xor (bit_and (bit_xor x y) (bit_xor y z)) y ≡ Maj w x y z
maj_pairs w =
    same_digits (λ x y z. bit_xor (bit_and (bit_xor x y) (bit_xor y z)) y) (Maj w)
    (λ x y z. (simp (xor_half, and_half), simp (xor_last, and_last)))
    (λ x y z. (simp (xor_half, and_half), simp (xor_last, and_last)))
    (((refl, refl), (refl, refl)), ((refl, refl), (refl, refl))) w

module _ (w : ℕ) where
  high_lt : (n x : ℕ) → n ≤ w → x < 2 ^ w → x / 2 ^ n < 2 ^ (w - n)
  high_lt n x h l =
      let e : w ≡ w - n + n = omega arith in
      shr_lt (w - n) n (subst (λ (k : ℕ). x < 2 ^ k) e l)

  -- a rotation: the lowest n bits come to the front
  rotated : (n x : ℕ) → n ≤ w → x < 2 ^ w → ROTR w n x ≡ x % 2 ^ n * 2 ^ (w - n) + x / 2 ^ n
  rotated n x h l =
      let j = w - n in
      let e : w ≡ n + j = omega arith in
      let front : (x * 2 ^ j) % 2 ^ w ≡ x % 2 ^ n * 2 ^ j =
      ap (λ (k : ℕ). (x * 2 ^ j) % 2 ^ k) e ∙ mod-pow-add (x * 2 ^ j) n j ∙ rw (shl-shr x j, mul-mod_left x (2 ^ j), add-zero) in
      ap (bit_or (x / 2 ^ n)) front ∙ or_shifted_r (x % 2 ^ n) j (x / 2 ^ n) (high_lt n x h l)

  rotated_lt : (n x : ℕ) → x < 2 ^ w → ROTR w n x < 2 ^ w
  rotated_lt n x l =
      let h : x / 2 ^ n ≤ x = shr_le x n in
      or_lt w (x / 2 ^ n) ((x * 2 ^ (w - n)) % 2 ^ w) (omega arith) (mod-lt (x * 2 ^ (w - n)) (pow_pos w))

  rotated_xor : (n x y : ℕ) → n ≤ w → x < 2 ^ w → y < 2 ^ w → ROTR w n (bit_xor x y) ≡ bit_xor (ROTR w n x) (ROTR w n y)
  rotated_xor n x y h i j =
      rotated n (bit_xor x y) h (xor_lt w x y i j) ∙ ap₂ (λ (a b : ℕ). a * 2 ^ (w - n) + b) (xor_mod x y n) (xor_shr x y n)
      ∙ sym (xor_block (w - n) (x % 2 ^ n) (y % 2 ^ n) (x / 2 ^ n) (y / 2 ^ n) (high_lt n x h i) (high_lt n y h j))
      ∙ ap₂ bit_xor (sym (rotated n x h i)) (sym (rotated n y h j))

  rotated_twice : (m n x : ℕ) → m + n ≤ w → x < 2 ^ w → ROTR w m (ROTR w n x) ≡ ROTR w (m + n) x
  rotated_twice m n x h l =
      let A = 2 ^ m in
      let B = 2 ^ n in
      let C = 2 ^ (w - (m + n)) in
      let q = x / B in
      let r = x % B in
      let k : w - n ≡ w - (m + n) + m = omega arith in
      let j : w - m ≡ w - (m + n) + n = omega arith in
      let once : ROTR w n x ≡ r * C * A + q =
      rotated n x (omega arith) l ∙ ap (λ (u : ℕ). r * 2 ^ u + q) k ∙ rw (pow-add, mul_assoc) in
      let twice : ROTR w m (ROTR w n x) ≡ q % A * (C * B) + (r * C + q / A) =
      rotated m (ROTR w n x) (omega arith) (rotated_lt n x l)
      ∙ ap₂ (λ (a b : ℕ). a * 2 ^ (w - m) + b) (ap (λ (y : ℕ). y % A) once ∙ mul-add-mod_self_right (r * C) A q) (ap (λ (y : ℕ). y / A) once ∙ mul-add-div_right (pow_pos m) (r * C) q)
      ∙ ap (λ (u : ℕ). q % A * 2 ^ u + (r * C + q / A)) j ∙ rw pow-add in
      let whole : ROTR w (m + n) x ≡ (q % A * B + r) * C + q / A =
      rotated (m + n) x h l ∙ ap₂ (λ (a b : ℕ). a * C + b) (mod-pow-add x m n) (ap (λ (u : ℕ). x / 2 ^ u) (add_comm m n) ∙ sym (shr-shr x n m)) in
      twice ∙ sym (whole ∙ rw (add-mul, mul_assoc, mul_comm B C, add_assoc))

  -- the big sigmas, with a rotation on top of the one before it
  pub nested_rotations : (a b c x : ℕ) → a ≤ b → b ≤ c → c ≤ w → x < 2 ^ w
      → ROTR w a (bit_xor (ROTR w (b - a) (bit_xor (ROTR w (c - b) x) x)) x) ≡ three_rotations w a b c x
  nested_rotations a b c x i j k l =
      let u = bit_xor (ROTR w (c - b) x) x in
      let lu : u < 2 ^ w = xor_lt w (ROTR w (c - b) x) x (rotated_lt (c - b) x l) l in
      let e : b + (c - b) ≡ c = omega arith in
      let f : a + (b - a) ≡ b = omega arith in
      let inner : ROTR w b u ≡ bit_xor (ROTR w c x) (ROTR w b x) =
      rotated_xor b (ROTR w (c - b) x) x (omega arith) (rotated_lt (c - b) x l) l
      ∙ ap (λ (v : ℕ). bit_xor v (ROTR w b x)) (rotated_twice b (c - b) x (omega arith) l ∙ ap (λ (n : ℕ). ROTR w n x) e) in
      let outer : ROTR w a (bit_xor (ROTR w (b - a) u) x) ≡ bit_xor (bit_xor (ROTR w c x) (ROTR w b x)) (ROTR w a x) =
      rotated_xor a (ROTR w (b - a) u) x (omega arith) (rotated_lt (b - a) u lu) l
      ∙ ap (λ (v : ℕ). bit_xor v (ROTR w a x)) (rotated_twice a (b - a) u (omega arith) lu ∙ ap (λ (n : ℕ). ROTR w n u) f ∙ inner) in
      outer ∙ xor_comm (bit_xor (ROTR w c x) (ROTR w b x)) (ROTR w a x) ∙ ap (bit_xor (ROTR w a x)) (xor_comm (ROTR w c x) (ROTR w b x))
      ∙ sym (xor_assoc w (ROTR w a x) (ROTR w b x) (ROTR w c x) (rotated_lt a x l) (rotated_lt b x l) (rotated_lt c x l))
