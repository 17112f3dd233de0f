-- The last blocks of a message: its last bytes and the padding, as they are written into a buffer of zeros.
use Rattle.std.specs.Prelude.{◌≡◌, refl, Bool, true, false, List, ◌∷◌, ◌++◌, ℕ, zero, suc, ◌+◌, ◌-◌, ◌*◌, ◌/◌, ◌%◌, ◌^◌, ◌≤◌, ◌<◌, ltb, length, take, set, replicate}
use Rattle.std.proofs.Common.{ap, sym, ◌∙◌, append_assoc, mul_assoc, mod-lt, mod-eq_of_lt, arith, ltb-true, ltb-false, length-append}
use Rattle.std.proofs.Math.Nat.{pow-succ', mod-eq-sub-mod, mod-add-div, div-eq_of_lt-le}
use Rattle.std.proofs.lemmas.List.{length-replicate}
use Rattle.std.proofs.Math.Seq.{paste, take-append-add, set-append_seam}
use Rattle.common.specs.BigEndian.{big_endian}
use Rattle.common.specs.BigEndianLaws.{length_big_endian}
use Rattle.common.specs.BufferLaws.{take_replicate}
use Rattle.common.specs.Laid.{copied_zeros}
use Rattle.sha2_rules.specs.Parameters.{Parameters}
use Rattle.sha2_rules.specs.Hash.{block_bytes, length_bytes, zeros, padding}
use Rattle.sha2_rules.proofs.ListLaws.{copied}
use Rattle.sha2_rules.proofs.PaddingLaws.{length_padding}

-- only the lowest n bytes of a number count
lowest : (n x z : ℕ) → big_endian n (x + 256 ^ n * z) ≡ big_endian n x
unfolding big_endian
lowest zero x z = refl
lowest (suc n) x z =
    let y = 256 ^ n * z in
    let e : 256 ^ suc n * z ≡ 256 * y = rw (pow-succ', mul_assoc) in
    let q : (x + 256 * y) / 256 ≡ x / 256 + y = omega arith in
    let r : (x + 256 * y) % 256 ≡ x % 256 = omega arith in
    rw (e, q, r, lowest n (x / 256) z)

pub modulo : (n x : ℕ) → big_endian n (x % 256 ^ n) ≡ big_endian n x
modulo n x = sym (lowest n (x % 256 ^ n) (x / 256 ^ n)) ∙ ap (big_endian n) (mod-add-div x (256 ^ n))

-- zeros, with r written over their start and then the byte a
marked : (N a : ℕ) (r : List ℕ) → length r < N
    → set (paste (replicate N 0) 0 r (length r)) (length r) a ≡ r ++ (a ∷ replicate (N - 1 - length r) 0)
marked N a r h =
    let e : N - length r ≡ suc (N - 1 - length r) = omega arith in
    rw (copied_zeros, e, set-append_seam)

-- .. and then, past z zeros, the list b
written : (N a z : ℕ) (r b : List ℕ) → length r + suc z + length b ≤ N
    → take (length r + suc z + length b) (paste (set (paste (replicate N 0) 0 r (length r)) (length r) a) (length r + suc z) b (length b))
    ≡ r ++ ((a ∷ replicate z 0) ++ b)
written N a z r b h =
    let k = N - 1 - length r in
    let d : List ℕ = r ++ (a ∷ replicate k 0) in
    let l : length d ≡ length r + suc k = length-append r (a ∷ replicate k 0) ∙ ap (λ (x : ℕ). length r + suc x) (length-replicate k 0) in
    let front : take (length r + suc z) d ≡ r ++ (a ∷ replicate z 0) =
    take-append-add r (a ∷ replicate k 0) (suc z) ∙ ap (λ (x : List ℕ). r ++ (a ∷ x)) (take_replicate 0 z k (omega arith)) in
    rw (marked N a r (omega arith)) (copied (r ++ (a ∷ replicate z 0)) d b (length r + suc z) (length b) refl (omega arith) front ∙ append_assoc r (a ∷ replicate z 0) b)

-- x bytes, a byte for the bit 1 and L for the length, filled up to one block of B bytes or to two
fills : (B L x : ℕ) → x < B → L < B → x + (1 + (2 * B - (x + 1 + L)) % B + L) ≡ (x + (B + L)) / B * B
fills B L x h k = go (ltb (x + L) B) refl
  where
    go : (t : Bool) → ltb (x + L) B ≡ t → x + (1 + (2 * B - (x + 1 + L)) % B + L) ≡ (x + (B + L)) / B * B
    go true e =
        let l = ltb-true (x + L) B e in
        let r : (2 * B - (x + 1 + L)) % B ≡ 2 * B - (x + 1 + L) - B = mod-eq-sub-mod (omega arith) ∙ mod-eq_of_lt (omega arith) in
        let q : (x + (B + L)) / B ≡ 1 = div-eq_of_lt-le B (omega arith) (omega arith) in
        rw (r, q) (omega arith)
    go false e =
        let l = ltb-false (x + L) B e in
        let r : (2 * B - (x + 1 + L)) % B ≡ 2 * B - (x + 1 + L) = mod-eq_of_lt (omega arith) in
        let q : (x + (B + L)) / B ≡ 2 = div-eq_of_lt-le B (omega arith) (omega arith) in
        rw (r, q) (omega arith)

-- where the last block ends, after the last bytes r of a message of n bytes
pub ends : (P : Parameters) (r : List ℕ) (n : ℕ) → zero < block_bytes P → length r ≡ n % block_bytes P
    → length (r ++ padding P n) ≡ (length r + (block_bytes P + length_bytes P)) / block_bytes P * block_bytes P
ends P r n z h =
    let l : length r < block_bytes P = rw h (mod-lt n z) in
    length-append r (padding P n) ∙ rw (length_padding P n, ← h) (fills (block_bytes P) (length_bytes P) (length r) l (omega arith))

-- the last blocks of a message of n bytes, in a buffer d of N bytes
pub last : (P : Parameters) (N n at end : ℕ) (r b d d₂ : List ℕ) → end ≡ length (r ++ padding P n) → end ≤ N → at ≡ end - length_bytes P
    → b ≡ big_endian (length_bytes P) (n * 8) → d ≡ paste (replicate N 0) 0 r (length r) → d₂ ≡ paste (set d (length r) 128) at b (length b)
    → take end d₂ ≡ r ++ padding P n
unfolding padding
last P N n at end r b d d₂ l h f eb ed ed₂ =
    let lb : length b ≡ length_bytes P = ap length eb ∙ length_big_endian (length_bytes P) (n * 8) in
    let le : end ≡ length r + suc (zeros P n) + length b = l ∙ length-append r (padding P n) ∙ omega (arith, length_padding P n) in
    let la : at ≡ length r + suc (zeros P n) = omega arith in
    rw (ed₂, ed, la, le) (written N 128 (zeros P n) r b (omega arith) ∙ rw eb)
