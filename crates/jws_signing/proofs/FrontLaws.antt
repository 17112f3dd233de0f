-- A buffer whose front is written, segment after segment.
use mathlib.Core.Path.{◌≡◌, ap, sym, ◌∙◌}
use mathlib.Core.List.{List, [], ◌∷◌, ◌++◌, append_assoc}
use Prim.Native.Nat.{ℕ, ◌+◌, ◌-◌, ◌≤◌}
use native.Mathlib.Numerals.{add-one}
use native.Mathlib.Omega.{arith}
use lib.ListN.{length, take, drop, set, length-append, length-drop, length-set}
use lib.Seq.{take-suc-set, drop-set-lt, drop-drop, drop-append-add, length-take-le}
use borrow.Rule.Slice.PartMut.{put_mid}
use Rattle.common.specs.Buffer.{laid, Front}
use Rattle.common.specs.Laid.{part_from, put_from, front_is}
use Rattle.base64url_rules.specs.Base64url.{encode, encoded_length}
use Rattle.base64url_rules.proofs.LengthLaws.{length_encode}
use Rattle.base64url_rules.specs.Outcome.{Encoded, Encoding, encoded_to, encoding}
use Rattle.base64url_rules.proofs.OutcomeLaws.{roomy}
use Rattle.hmac.specs.Hmac.{HMACSHA256}
use Rattle.jws_rules.specs.Segments.{period, ◌dot◌}
use Rattle.jws_rules.proofs.SegmentLaws.{length_dot}
use Rattle.jws_rules.specs.Token.{token_of}

-- the text of s in a buffer that has room for it
text_laid : (s out : List ℕ) {r : Encoded} {buffer : List ℕ} → encoded_to r buffer ≡ encoding s out → length (encode s) ≤ length out → buffer ≡ laid (encode s) out
text_laid s out e h = ap (λ (x : Encoding). x.buffer) (e ∙ sym (roomy s out h))

-- the length that `encoded_len` gives
size_is : (s : List ℕ) {n : ℕ} → n ≡ encoded_length (length s) → n ≡ length (encode s)
size_is s e = e ∙ sym (length_encode s)

pub text_front : (s token₀ : List ℕ) {n : ℕ} {r : Encoded} {token : List ℕ} → length (encode s) ≤ length token₀
    → encoded_to r token ≡ encoding s token₀ → n ≡ encoded_length (length s) → Front (encode s) token₀ n token
text_front s token₀ h e f = record { size = size_is s f; buffer = text_laid s token₀ e h }

-- A SEGMENT BEHIND A FRONT

-- a period stored at `at`
abbrev pub dotted : List ℕ → ℕ → List ℕ
dotted token at = set token at period

-- .. and a text laid into the part behind it
module _ (s token : List ℕ) (at : ℕ) (fits : at + 1 + length (encode s) ≤ length token) where
  segment_size : at + 1 + length (encode s) ≡ length (take at token dot encode s)
  segment_size = omega (arith, length_dot (take at token) (encode s), length-take-le at token (omega arith))

  segment_laid : (part : List ℕ) → part ≡ laid (encode s) (drop (at + 1) (dotted token at)) → take (at + 1) (dotted token at) ++ part ≡ laid (take at token dot encode s) token
  segment_laid part e =
      let before : take (at + 1) (dotted token at) ≡ take at token ++ (period ∷ []) = rw (add-one at) (take-suc-set token at period (omega arith)) in
      let behind : drop (at + 1) (dotted token at) ≡ drop (at + 1) token = drop-set-lt (at + 1) token at period (omega arith) in
      let rest : drop (length (encode s)) (drop (at + 1) token) ≡ drop (length (take at token dot encode s)) token =
      drop-drop (length (encode s)) (at + 1) token ∙ ap (λ (k : ℕ). drop k token) segment_size in
      rw (e, before, behind, rest) (append_assoc (take at token) (period ∷ []) _ ∙ sym (append_assoc (take at token) (period ∷ encode s) _))

  pub segment_front : {n : ℕ} {r : Encoded} {part : List ℕ}
      → encoded_to r part ≡ encoding s (take (length (dotted token at) - (at + 1)) (drop (at + 1) (dotted token at)))
      → n ≡ encoded_length (length s)
      → Front (take at token dot encode s) token (at + 1 + n) (put_mid (at + 1) (length (dotted token at) - (at + 1)) (dotted token at) part)
  segment_front {part = part} e f =
      let out = take (length (dotted token at) - (at + 1)) (drop (at + 1) (dotted token at)) in
      let all : out ≡ drop (at + 1) (dotted token at) = part_from (at + 1) (dotted token at) in
      let room : length (encode s) ≤ length out = omega (arith, ap length all, length-drop (at + 1) (dotted token at), length-set token at period) in
      record {
        size = rw (size_is s f) segment_size;
        buffer = put_from (at + 1) (dotted token at) part ∙ segment_laid part (text_laid s out e room ∙ ap (laid (encode s)) all);
      }

-- what stands past the front is as it was
past : (s u token : List ℕ) → drop (length (s ++ u)) (laid s token) ≡ drop (length (s ++ u)) token
past s u token = rw (length-append s u) (drop-append-add s (drop (length s) token) (length u) ∙ drop-drop (length u) (length s) token)

-- a segment written behind a front is part of one front
pub front_more : (s u token₀ : List ℕ) {n m : ℕ} {token₁ token₂ : List ℕ}
    → Front s token₀ n token₁ → Front (take n token₁ dot u) token₁ m token₂ → Front (s dot u) token₀ m token₂
front_more s u token₀ f g =
    let e = front_is f in
    record {
      size = g.size ∙ rw e;
      buffer = g.buffer ∙ rw (e, f.buffer) (ap (λ (l : List ℕ). (s dot u) ++ l) (past s (period ∷ u) token₀));
    }

-- THE TOKEN

-- a MAC takes 43 characters
pub length_text : (mac : List ℕ) → length mac ≡ 32 → length (encode mac) ≡ 43
length_text mac e = length_encode mac ∙ rw e

pub token_laid : (secret h p token₀ mac : List ℕ) {n m : ℕ} {token₁ token₂ : List ℕ}
    → Front (encode h dot encode p) token₀ n token₁ → mac ≡ HMACSHA256 secret (take (n - 0) token₁) → Front (take n token₁ dot encode mac) token₁ m token₂
    → token₂ ≡ laid (token_of secret h p) token₀
token_laid secret h p token₀ mac {n} f e g =
    let k : n - 0 ≡ n = omega arith in
    let whole = (front_more (encode h dot encode p) (encode mac) token₀ f g).buffer in
    whole ∙ rw (append_assoc (encode h) (period ∷ encode p) (period ∷ encode mac), e, k, front_is f)
