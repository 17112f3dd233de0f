-- A list of known length, element by element.
use Rattle.std.specs.Prelude.{◌≡◌, refl, List, ℕ, zero, suc, length, get_or}
use Rattle.std.proofs.Common.{ap, sym, ◌∙◌, arith, ext_get_or}
use Rattle.base64url_rules.proofs.Tables.{entries, entry}

pub length_entries : {A : Type 0} (f : ℕ → A) (i n : ℕ) → length (entries f i n) ≡ n
unfolding entries
length_entries f i zero = refl
length_entries f i (suc n) = ap suc (length_entries f (suc i) n)

-- with a numeral for n, the left side computes to `get_or s 0 0 ∷ get_or s 1 0 ∷ ..`
pub as_entries : (s : List ℕ) (n : ℕ) → length s ≡ n → entries (λ i. get_or s i 0) 0 n ≡ s
as_entries s n h =
    let f : ℕ → ℕ = λ i. get_or s i 0 in
    let e = length_entries f 0 n in
    ext_get_or 0 (entries f 0 n) s (e ∙ sym h) (λ i k. entry 0 f n i (omega arith))
