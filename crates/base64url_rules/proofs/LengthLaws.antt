-- How long a text and its bytes are.
use Rattle.std.specs.Prelude.{◌≡◌, refl, Bool, true, false, cond, List, [], ◌∷◌, ℕ, suc, ◌+◌, ◌*◌, ◌/◌, ◌%◌, ◌<◌, eqb, length}
use Rattle.std.proofs.Common.{pos_of_ne-zero, arith, eqb-true}
use Rattle.std.proofs.lemmas.Bool.{eqb-false}
use Rattle.base64url_rules.specs.Base64url.{encode, decode, encoded_length, decoded_length}

pub length_decode : (s : List ℕ) → length (decode s) ≡ decoded_length (length s)
unfolding decode
length_decode [] = refl
length_decode (a ∷ []) = refl
length_decode (a ∷ b ∷ []) = refl
length_decode (a ∷ b ∷ c ∷ []) = refl
length_decode (a ∷ b ∷ c ∷ d ∷ s) = omega (arith, length_decode s)

pub length_encode : (s : List ℕ) → length (encode s) ≡ encoded_length (length s)
unfolding encode
length_encode [] = refl
length_encode (x ∷ []) = refl
length_encode (x ∷ y ∷ []) = refl
length_encode (x ∷ y ∷ z ∷ s) =
    let n = length s in
    let rest : suc (suc (suc n)) % 3 ≡ n % 3 = omega arith in
    let groups : suc (suc (suc n)) / 3 ≡ suc (n / 3) = omega arith in
    rw (rest, groups) (omega (arith, length_encode s))

-- the same as one quotient
pub encoded_length_lem : (n : ℕ) → encoded_length n ≡ (4 * n + 2) / 3
encoded_length_lem n = go (eqb (n % 3) 0) refl
  where
    go : (t : Bool) → eqb (n % 3) 0 ≡ t → 4 * (n / 3) + cond t 0 (n % 3 + 1) ≡ (4 * n + 2) / 3
    go true e = let h = eqb-true (n % 3) 0 e in omega arith
    go false e = let h : 0 < n % 3 = pos_of_ne-zero (eqb-false (n % 3) 0 e) in omega arith
