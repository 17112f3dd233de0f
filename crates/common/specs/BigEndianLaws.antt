-- The length and the bytes of a number in bytes, and a number in a part of a list.
use Rattle.std.specs.Prelude.{◌≡◌, refl, List, [], ◌∷◌, ℕ, zero, suc, ◌+◌, ◌*◌, ◌/◌, ◌%◌, ◌≤◌, length, get_or, take, drop}
use Rattle.std.proofs.Common.{ap, ap₂, ◌∙◌, arith, add-one, length-append, get_or-take, get_or-drop}
use Rattle.common.specs.Bytes.{Bytes, none, more}
use Rattle.common.specs.BytesLaws.{bytes_append}
use Rattle.common.specs.BigEndian.{big_endian, number_at}

pub length_big_endian : (n x : ℕ) → length (big_endian n x) ≡ n
unfolding big_endian
length_big_endian zero x = refl
length_big_endian (suc n) x =
    length-append (big_endian n (x / 256)) (x % 256 ∷ []) ∙ ap (λ (k : ℕ). k + 1) (length_big_endian n (x / 256)) ∙ add-one n

pub bytes_big_endian : (n x : ℕ) → Bytes (big_endian n x)
unfolding big_endian
bytes_big_endian zero x = none
bytes_big_endian (suc n) x = bytes_append (bytes_big_endian n (x / 256)) (more (omega arith) none)

pub number_in_part : (n : ℕ) (s : List ℕ) (from size i : ℕ) → i + n ≤ size → number_at n (take size (drop from s)) i ≡ number_at n s (from + i)
number_in_part zero s from size i h = refl
number_in_part (suc zero) s from size i h = get_or-take size (drop from s) i 0 (omega arith) ∙ get_or-drop from s i 0
number_in_part (suc (suc n)) s from size i h =
    let e : from + (i + suc n) ≡ from + i + suc n = omega arith in
    ap₂ (λ (x y : ℕ). x * 256 + y) (number_in_part (suc n) s from size i (omega arith))
    (get_or-take size (drop from s) (i + suc n) 0 (omega arith) ∙ get_or-drop from s (i + suc n) 0 ∙ ap (λ (k : ℕ). get_or s k 0) e)
