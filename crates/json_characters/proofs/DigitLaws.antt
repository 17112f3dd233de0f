-- Laws of digits that are read one by one, as the tails of a form and the digits of an escape are; and of the room that they need.
use Rattle.std.specs.Prelude.{Some, None}
use mathlib.Core.Path.{◌≡◌}
use mathlib.Core.Bool.{Bool, true, false}
use mathlib.Core.List.{List}
use Prim.Native.Nat.{ℕ, zero, suc, ◌+◌, ◌-◌, ◌*◌, ◌/◌, ◌≤◌, ◌<◌}
use native.Mathlib.Nat.{suc-mul, mul-le-mul_right, div-mul-le_self, div-le_self}
use native.Mathlib.Omega.{arith}
use lib.ListN.{length, get_or}
use Rattle.json_characters.specs.Characters.{Scan}
use Rattle.json_characters.specs.Steps.{ScanAt, read_digits}
use Rattle.json_characters.proofs.ScanLaws.{scan_got, scan_one, scan_not, scan_out}

module _ (p q : ℕ → Bool) (b : ℕ) (v : ℕ → ℕ) (s : List ℕ) (at : ℕ) where
  pub digits_more : (n x y : ℕ) (r : Scan) → 0 < n → at < length s → p (get_or s at 0) ≡ true → y ≡ v (get_or s at 0)
      → ScanAt (read_digits q q b v (n - 1) (x * b + y)) s (at + 1) r → ScanAt (read_digits p q b v n x) s at r
  unfolding read_digits
  digits_more zero x y r o h e f rest = absurd (omega arith)
  digits_more (suc n) x y r o h e f rest =
      let m : suc n - 1 ≡ n = omega arith in
      scan_one p (λ c l. read_digits q q b v n (x * b + v c) l) s at r h e (rw (← f) (rw m at rest))

  pub digits_not : (n x : ℕ) → 0 < n → at < length s → p (get_or s at 0) ≡ false → ScanAt (read_digits p q b v n x) s at None
  unfolding read_digits
  digits_not zero x o h e = absurd (omega arith)
  digits_not (suc n) x o h e = scan_not p (λ c l. read_digits q q b v n (x * b + v c) l) s at h e

  pub digits_out : (n x : ℕ) → 0 < n → length s ≤ at → ScanAt (read_digits p q b v n x) s at None
  unfolding read_digits
  digits_out zero x o h = absurd (omega arith)
  digits_out (suc n) x o h = scan_out p (λ c l. read_digits q q b v n (x * b + v c) l) s at h

  pub digits_done : (n x : ℕ) → n ≤ 0 → at ≤ length s → ScanAt (read_digits p q b v n x) s at (Some (x, at))
  unfolding read_digits
  digits_done zero x o h = scan_got s at x h
  digits_done (suc n) x o h = absurd (omega arith)

-- the numbers that stay below top with n more digits to the base b
abbrev pub room : ℕ → ℕ → ℕ → ℕ
room top b zero = top
room top b (suc n) = room top b n / b

below_room : (top b n : ℕ) → room top b (suc n) ≤ top / b
below_room top b zero = omega arith
below_room top b (suc n) = omega (arith, below_room top b n, div-le_self (room top b (suc n)) b)

pub room_small : (top b n x : ℕ) → 0 < n → x < room top b n → x < top / b
room_small top b zero x o h = absurd (omega arith)
room_small top b (suc n) x o h = omega (arith, below_room top b n)

pub room_step : (top b n x y : ℕ) → 0 < n → x < room top b n → y < b → x * b + y < room top b (n - 1)
room_step top b zero x y o h k = absurd (omega arith)
room_step top b (suc n) x y o h k =
    let m : suc n - 1 ≡ n = omega arith in
    rw m (omega (arith, suc-mul x b, mul-le-mul_right b h, div-mul-le_self (room top b n) b))
