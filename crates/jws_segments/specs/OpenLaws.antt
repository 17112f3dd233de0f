-- Laws of the segments: what decoding leaves in the buffers.
use Rattle.std.specs.Prelude.{◌≡◌, refl, Bool, true, false, cond, ◌&&◌, List, ℕ, ◌≤◌, eqb, length, take, replicate, Some, None, Result, Ok, Err}
use Rattle.std.specs.Bool.{then_some}
use Rattle.std.proofs.Common.{sym, ap, ◌∙◌, subst, append-nil, arith, eqb-true}
use Rattle.std.proofs.lemmas.Bool.{eqb-false}
use Rattle.common.specs.Buffer.{laid}
use Rattle.common.proofs.Decided.{test_false}
use Rattle.common.specs.Laid.{take_laid}
use Rattle.common.specs.Same.{same}
use Rattle.common.specs.Truth.{both}
use Rattle.common.proofs.SameLaws.{decides_same}
use Rattle.base64url_rules.specs.Base64url.{decode, strict, decoded_length}
use Rattle.base64url_rules.proofs.LengthLaws.{length_decode}
use Rattle.base64url_rules.specs.Outcome.{Decoded, Decoding, decoded_to, decoding}
use Rattle.base64url_rules.proofs.OutcomeLaws.{Answered, written, faulty, short, judge, accepted}
use Rattle.jws_segments.specs.declared.opening.Opened.{Opened}
use Rattle.jws_segments.specs.declared.opening.Segments.{Segments}
use Rattle.jws_segments.specs.Opening.{segment_of, decoded_out, signature_in, is_mac, whole_of, segments_of, joined, strict_parts, Opening, opened_to, opening}

-- ONE SEGMENT

-- the length, by the answer; k is that of a text whose bytes don't fit, or that isn't strict
abbrev pub length_by : Decoded → ℕ → Result ℕ ℕ
length_by (Decoded.Bytes n) k = Ok n
length_by (Decoded.Fault place) k = Err k
length_by Decoded.Short k = Ok k

-- what decoding answers and leaves in the buffer, as the segment
pub segment_is : (s out : List ℕ) {buffer : List ℕ} (d : Decoded) (k : ℕ) → decoded_to d buffer ≡ decoding s out → k ≡ decoded_length (length s)
    → (length_by d k ≡ segment_of s) × (buffer ≡ decoded_out s out)
segment_is s out d k e f = (go (judge s out e), ap (λ (d : Decoding). d.buffer) e)
  where
    go : {buffer : List ℕ} {d : Decoded} → Answered s out d buffer → length_by d k ≡ segment_of s
    go (written h l) = rw h
    go (faulty h e) = rw (h, f, length_decode s)
    go (short h l) = rw (h, f, length_decode s)

-- a strict segment that fits stands at the buffer's front
decoded_fits : (s out : List ℕ) → strict s ≡ true → length (decode s) ≤ length out → decoded_out s out ≡ laid (decode s) out
decoded_fits s out h k = ap (λ (d : Decoding). d.buffer) (sym (accepted s out h k))

decoded_front : (s out : List ℕ) → strict s ≡ true → length (decode s) ≤ length out → take (length (decode s)) (decoded_out s out) ≡ decode s
decoded_front s out h k = ap (take (length (decode s))) (decoded_fits s out h k) ∙ take_laid (decode s) out (length (decode s)) refl

-- THE SIGNATURE

-- 32 bytes fill the buffer
signature_bytes : (z : List ℕ) → strict z ≡ true → length (decode z) ≡ 32 → decoded_out z (replicate 32 0) ≡ decode z
signature_bytes z h e = decoded_fits z (replicate 32 0) h (omega arith) ∙ rw e (append-nil (decode z))

-- a signature of 32 bytes is compared whole, and one of another length differs
pub compared : (z mac : List ℕ) → length mac ≡ 32 → is_mac (signature_in z) mac ≡ same (decode z) mac
compared z mac l = go (eqb (length (decode z)) 32) refl
  where
    go : (w : Bool) → eqb (length (decode z)) 32 ≡ w → is_mac (cond w (Some (decode z)) None) mac ≡ same (decode z) mac
    go true e = refl
    go false e = sym (test_false (decides_same (decode z) mac) (λ d. eqb-false _ _ e (ap length d ∙ l)))

-- THE THREE SEGMENTS

-- what opening answers and leaves in the buffers, by what decoding each segment does
pub opening_is : (x y z h p : List ℕ) {hb pb bytes : List ℕ} {u v w : Result ℕ ℕ}
    → (u ≡ segment_of x) × (hb ≡ decoded_out x h) → (v ≡ segment_of y) × (pb ≡ decoded_out y p) → (w ≡ segment_of z) × (bytes ≡ decoded_out z (replicate 32 0))
    → opened_to (record { header = u; payload = v; signature = w; bytes = bytes }) hb pb ≡ opening x y z h p
unfolding opening
opening_is x y z h p (e, i) (f, j) (g, k) = rw (e, f, g, i, j, k) refl

-- the third segment: its signature, by the length and the buffer
pub signature_is : (z : List ℕ) {n : Result ℕ ℕ} {bytes : List ℕ} → (n ≡ segment_of z) × (bytes ≡ decoded_out z (replicate 32 0))
    → whole_of n bytes ≡ cond (strict z) (Some (signature_in z)) None
signature_is z (g, k) = rw (g, k) (go (strict z) refl)
  where
    signature : (t : Bool) → strict z ≡ true → eqb (length (decode z)) 32 ≡ t → then_some t (decoded_out z (replicate 32 0)) ≡ cond t (Some (decode z)) None
    signature true h e = ap Some (signature_bytes z h (eqb-true (length (decode z)) 32 e))
    signature false h e = refl

    go : (c : Bool) → strict z ≡ c
        → whole_of (cond c (Ok (length (decode z))) (Err (length (decode z)))) (decoded_out z (replicate 32 0)) ≡ cond c (Some (signature_in z)) None
    go true e = ap Some (signature (eqb (length (decode z)) 32) e refl)
    go false e = refl

-- what is opened of a token: all three segments, if each is strict
abbrev parts_of : List ℕ → List ℕ → List ℕ → Opened
parts_of x y z = record { header_length = length (decode x); payload_length = length (decode y); signature = signature_in z }

parts_are : (x y z : List ℕ) → strict_parts (segments_of x y z) ≡ cond (strict x && (strict y && strict z)) (Some (parts_of x y z)) None
parts_are x y z =
    ap (joined (segment_of x) (segment_of y)) (signature_is z {n = segment_of z} {bytes = decoded_out z (replicate 32 0)} (refl, refl)) ∙ go (strict x) (strict y) (strict z)
  where
    go : (a b c : Bool)
        → joined
        (cond a (Ok (length (decode x))) (Err (length (decode x))))
        (cond b (Ok (length (decode y))) (Err (length (decode y))))
        (cond c (Some (signature_in z)) None)
        ≡ cond (a && (b && c)) (Some (parts_of x y z)) None
    go true true true = refl
    go true true false = refl
    go true false c = refl
    go false b c = refl

-- s is what was found of the segments, hb and pb are the buffers then, of hr and pr bytes: of each segment by itself
pub record Finds (x y z : List ℕ) (hr pr : ℕ) (s : Segments) (hb pb : List ℕ) : Type 0 where
  pub is : s ≡ segments_of x y z
  pub header_front : strict x ≡ true → length (decode x) ≤ hr → take (length (decode x)) hb ≡ decode x
  pub payload_front : strict y ≡ true → length (decode y) ≤ pr → take (length (decode y)) pb ≡ decode y

-- .. and o is what was opened, where each is strict: what a caller goes by
pub record Opens (x y z : List ℕ) (hr pr : ℕ) (o : Opened) (hb pb : List ℕ) : Type 0 where
  pub strict1 : strict x ≡ true
  pub strict2 : strict y ≡ true
  pub strict3 : strict z ≡ true
  pub header : o.header_length ≡ length (decode x)
  pub payload : o.payload_length ≡ length (decode y)
  pub signature : o.signature ≡ signature_in z
  pub header_front : length (decode x) ≤ hr → take (length (decode x)) hb ≡ decode x
  pub payload_front : length (decode y) ≤ pr → take (length (decode y)) pb ≡ decode y

module _ (x y z h p : List ℕ) {s : Segments} {hb pb : List ℕ} (e : opened_to s hb pb ≡ opening x y z h p) where
  pub finds : Finds x y z (length h) (length p) s hb pb
  unfolding opening
  finds =
      subst (λ (q : Opening). Finds x y z (length h) (length p) q.gives q.header q.payload) (sym e)
      (record { is = refl; header_front = decoded_front x h; payload_front = decoded_front y p })

  parts : strict_parts s ≡ cond (strict x && (strict y && strict z)) (Some (parts_of x y z)) None
  parts = ap strict_parts finds.is ∙ parts_are x y z

  pub opens : {o : Opened} → Some o ≡ strict_parts s → Opens x y z (length h) (length p) o hb pb
  opens {o} i = go (strict x && (strict y && strict z)) refl (i ∙ parts)
    where
      go : (t : Bool) → strict x && (strict y && strict z) ≡ t → Some o ≡ cond t (Some (parts_of x y z)) None → Opens x y z (length h) (length p) o hb pb
      go true k e =
          let a = both (strict x) (strict y && strict z) k in
          let b = both (strict y) (strict z) a.1 in
          let is : o ≡ parts_of x y z = cc in
          record {
            strict1 = a.0;
            strict2 = b.0;
            strict3 = b.1;
            header = ap (λ (o : Opened). o.header_length) is;
            payload = ap (λ (o : Opened). o.payload_length) is;
            signature = ap (λ (o : Opened). o.signature) is;
            header_front = finds.header_front a.0;
            payload_front = finds.payload_front b.0;
          }
      go false k e = cc

  pub not_opened : None ≡ strict_parts s → strict x && (strict y && strict z) ≡ false
  not_opened i = go (strict x && (strict y && strict z)) refl (i ∙ parts)
    where
      go : (t : Bool) → strict x && (strict y && strict z) ≡ t → None ≡ cond t (Some (parts_of x y z)) None → strict x && (strict y && strict z) ≡ false
      go true k e = cc
      go false k e = k
