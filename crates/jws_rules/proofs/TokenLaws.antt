-- Laws of a token that is made, and of one that is taken apart.
use Rattle.std.specs.Prelude.{◌≡◌, refl, Bool, true, false, cond, not, ◌&&◌, List, [], ◌∷◌, ℕ, suc, eqb, length}
use Rattle.std.proofs.Common.{ap, ◌∙◌, arith}
use Rattle.std.proofs.lemmas.Bool.{false≢true}
use Rattle.common.specs.Bytes.{Bytes}
use Rattle.base64url_rules.specs.Base64url.{encode, decode, strict}
use Rattle.base64url_rules.proofs.LengthLaws.{length_encode}
use Rattle.base64url_rules.proofs.RoundTrip.{decode_encode, encode_decode}
use Rattle.base64url_rules.proofs.TextLaws.{lacks, no_period, alphabetic_encode}
use Rattle.hmac.specs.Hmac.{HMACSHA256}
use Rattle.hmac.specs.HmacLaws.{length_HMACSHA256, bytes_HMACSHA256}
use Rattle.jws_rules.specs.Segments.{period, periods, front, back, ◌dot◌}
use Rattle.jws_rules.proofs.SegmentLaws.{length_dot, periods_dot, front_dot, back_dot, split}
use Rattle.jws_rules.specs.Token.{mac_of, token_of, finished_length, header_of, payload_of, signature_of, sent_input}

-- no period stands in an encoded text
lacking : (s : List ℕ) → lacks period s ≡ true → periods s ≡ 0
unfolding lacks periods
lacking [] e = refl
lacking (x ∷ s) e = go (eqb x period) e (lacking s)
  where
    go : (q : Bool) → not q && lacks period s ≡ true → (lacks period s ≡ true → periods s ≡ 0) → cond q (suc (periods s)) (periods s) ≡ 0
    go true e ih = absurd (false≢true e)
    go false e ih = ih e

pub periods_encode : {s : List ℕ} → Bytes s → periods (encode s) ≡ 0
periods_encode {s} b = lacking (encode s) (no_period (encode s) (alphabetic_encode b))

-- the MAC's length and bytes
length_mac : (secret h p : List ℕ) → length (encode (mac_of secret h p)) ≡ 43
length_mac secret h p = length_encode (mac_of secret h p) ∙ rw length_HMACSHA256

pub mac_bytes : (secret h p : List ℕ) → Bytes (mac_of secret h p)
mac_bytes secret h p = bytes_HMACSHA256 _ _

pub length_token : (secret h p : List ℕ) → length (token_of secret h p) ≡ finished_length h p
length_token secret h p =
    let m = encode (mac_of secret h p) in
    omega (arith, length_dot (encode h) (encode p dot m), length_dot (encode p) m, length_mac secret h p)

-- A TOKEN THAT IS MADE of a header, a payload and a signature m has their segments, and these the bytes, of which it was made.

pub record Parts (t h p m : List ℕ) : Type 0 where
  pub two : periods t ≡ 2
  pub segment1 : front t ≡ encode h
  pub segment2 : front (back t) ≡ encode p
  pub segment3 : back (back t) ≡ encode m
  pub header : header_of t ≡ h
  pub payload : payload_of t ≡ p
  pub signature : signature_of t ≡ m

pub parts : {t h p m : List ℕ} → t ≡ (encode h dot encode p dot encode m) → Bytes h → Bytes p → Bytes m → Parts t h p m
parts {t} {h} {p} {m} e hb pb mb =
    let rest = encode p dot encode m in
    let hc = periods_encode hb in
    let pc = periods_encode pb in
    let s1 : front t ≡ encode h = ap front e ∙ front_dot (encode h) rest hc in
    let b : back t ≡ rest = ap back e ∙ back_dot (encode h) rest hc in
    let s2 : front (back t) ≡ encode p = ap front b ∙ front_dot (encode p) (encode m) pc in
    let s3 : back (back t) ≡ encode m = ap back b ∙ back_dot (encode p) (encode m) pc in
    record {
      two = ap periods e ∙ omega (arith, periods_dot (encode h) rest, periods_dot (encode p) (encode m), hc, pc, periods_encode mb);
      segment1 = s1;
      segment2 = s2;
      segment3 = s3;
      header = ap decode s1 ∙ decode_encode hb;
      payload = ap decode s2 ∙ decode_encode pb;
      signature = ap decode s3 ∙ decode_encode mb;
    }

-- A TOKEN THAT IS TAKEN APART, at two periods and by strict segments, is made of its parts.
pub whole : (t secret : List ℕ) → periods t ≡ 2 → strict (front t) ≡ true → strict (front (back t)) ≡ true → strict (back (back t)) ≡ true
    → signature_of t ≡ HMACSHA256 secret (sent_input t) → t ≡ token_of secret (header_of t) (payload_of t)
whole t secret two f1 f2 f3 signature =
    let s1 = split t (omega arith) in
    let s2 = split (back t) (omega (arith, periods_dot (front t) (back t), ap periods s1.0)) in
    let e1 = encode_decode (front t) f1 in
    let e2 = encode_decode (front (back t)) f2 in
    let e3 = encode_decode (back (back t)) f3 in
    cc (s1.0, s2.0, e1, e2, e3, signature)
