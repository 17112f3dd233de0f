-- A group more, and a rest of at most two bytes, filled up with 0.
use mathlib.Core.Path.{◌≡◌, refl, ap, sym, ◌∙◌}
use mathlib.Core.List.{List, [], ◌∷◌}
use Prim.Native.Nat.{ℕ, ◌+◌, ◌*◌, ◌%◌, ◌≤◌}
use native.Mathlib.Omega.{arith}
use lib.ListN.{length, get_or, take, drop, set, length-drop}
use lib.Seq.{length-take-le}
use Rattle.common.specs.Buffer.{laid}
use Rattle.common.specs.Laid.{four_stores, laid_stores}
use Rattle.base64url_rules.specs.Base64url.{encode}
use Rattle.base64url_rules.proofs.Grouping.{encode_grouping, part_more}
use Rattle.base64url_rules.proofs.LengthLaws.{length_encode, encoded_length_lem}
use Rattle.base64url_rules.proofs.Listed.{as_entries}
use Rattle.base64url_rules.proofs.Tables.{entries}

-- after i groups comes the next, and its text is stored behind theirs
pub group_more : (s out₀ : List ℕ) (i : ℕ) {out group text : List ℕ} → i * 3 + 3 ≤ length s → i * 4 + 4 ≤ length out₀ → group ≡ take 3 (drop (i * 3) s)
    → out ≡ laid (encode (take (i * 3) s)) out₀ → text ≡ encode (get_or group 0 0 ∷ get_or group 1 0 ∷ get_or group 2 0 ∷ [])
    → set (set (set (set out (i * 4) (get_or text 0 0)) (i * 4 + 1) (get_or text 1 0)) (i * 4 + 2) (get_or text 2 0)) (i * 4 + 3) (get_or text 3 0)
    ≡ laid (encode (take ((i + 1) * 3) s)) out₀
unfolding entries
group_more s out₀ i {out} {group} {text} h k g e f =
    let three : length group ≡ 3 = ap length g ∙ length-take-le 3 (drop (i * 3) s) (rw (length-drop (i * 3) s) (omega arith)) in
    let whole : encode group ≡ text = ap encode (sym (as_entries group 3 three)) ∙ sym f in
    let four : length text ≡ 4 = omega (arith, ap length whole, length_encode group, encoded_length_lem (length group)) in
    four_stores out (i * 4) (get_or text 0 0) (get_or text 1 0) (get_or text 2 0) (get_or text 3 0)
    ∙ part_more encode_grouping s out₀ (i * 3) (i * 4) (omega arith) (omega arith) (omega arith) 3 ((i + 1) * 3) (omega arith) (omega arith) e
    (ap encode (sym g) ∙ whole ∙ sym (as_entries text 4 four))

-- n bytes, by these one by one
pub as_listed : (s : List ℕ) (n : ℕ) (out₀ : List ℕ) {out : List ℕ} → length s ≡ n → out ≡ laid (encode (entries (λ i. get_or s i 0) 0 n)) out₀ → out ≡ laid (encode s) out₀
as_listed s n out₀ h e = e ∙ ap (λ (l : List ℕ). laid (encode l) out₀) (as_entries s n h)

-- one byte and two, by the characters of their group
pub one_byte : (x : ℕ) (out : List ℕ) {text : List ℕ} → text ≡ encode (x ∷ 0 ∷ 0 ∷ []) → 2 ≤ length out
    → set (set out 0 (get_or text 0 0)) 1 (get_or text 1 0) ≡ laid (encode (x ∷ [])) out
unfolding encode
one_byte x out e h =
    let zero_bits_lem : x % 4 * 16 + 0 ≡ x % 4 * 16 = omega arith in
    rw (e, zero_bits_lem) (laid_stores [] out 0 refl (encode (x ∷ [])) h)

pub two_bytes : (x y : ℕ) (out : List ℕ) {text : List ℕ} → text ≡ encode (x ∷ y ∷ 0 ∷ []) → 3 ≤ length out
    → set (set (set out 0 (get_or text 0 0)) 1 (get_or text 1 0)) 2 (get_or text 2 0) ≡ laid (encode (x ∷ y ∷ [])) out
unfolding encode
two_bytes x y out e h =
    let zero_bits_lem : y % 16 * 4 + 0 ≡ y % 16 * 4 = omega arith in
    rw (e, zero_bits_lem) (laid_stores [] out 0 refl (encode (x ∷ y ∷ [])) h)
