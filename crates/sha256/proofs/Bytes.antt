-- The bytes of a number, as std has them and as the definition does.
use Rattle.std.proofs.Common.{◌≡◌, List, [], ◌∷◌, ◌++◌, ℕ, zero, suc, ◌/◌, ◌%◌, ◌^◌, refl, ap, sym, ◌∙◌}
use Rattle.std.proofs.Math.Nat.{div-div-eq-div-mul, pow-succ'}
use Rattle.std.specs.Int.{byte_at, bytes_high_first}
use Rattle.common.specs.BigEndian.{big_endian}

shifted : (n x : ℕ) → byte_at n (x / 256) ≡ byte_at (suc n) x
shifted zero x = refl
shifted (suc n) x =
    ap (λ (q : ℕ). q % 256) (div-div-eq-div-mul x 256 (256 ^ suc n) ∙ ap (λ (p : ℕ). x / p) (sym (pow-succ' 256 (suc n))))

highest_first : (n x : ℕ) → big_endian (suc n) x ≡ byte_at n x ∷ big_endian n x
unfolding big_endian
highest_first zero x = refl
highest_first (suc n) x =
    ap (λ (l : List ℕ). l ++ (x % 256 ∷ [])) (highest_first n (x / 256)) ∙ ap (λ (b : ℕ). b ∷ (big_endian n (x / 256) ++ (x % 256 ∷ []))) (shifted n x)

pub bytes_of : (n x : ℕ) → bytes_high_first n x ≡ big_endian n x
unfolding big_endian
bytes_of zero x = refl
bytes_of (suc n) x = ap (λ (l : List ℕ). byte_at n x ∷ l) (bytes_of n x) ∙ sym (highest_first n x)
