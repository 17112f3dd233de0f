-- What a caller learns from an answer and the buffer (`judge`, `fitted`), and which answer the facts lead to.
use Rattle.std.specs.Prelude.{◌≡◌, Bool, List, ℕ, ◌≤◌, ◌<◌, length}
use Rattle.std.proofs.Math.Path.{refl, subst}
use Rattle.std.proofs.Common.{sym, arith}
use Rattle.std.proofs.Math.Bool.{true, false, cond}
use Rattle.std.proofs.Math.Option.{Option, none, some}
use Rattle.std.proofs.Math.Dec.{leb}
use borrow.Author.Tests.{le-leb, lt-leb, leb-true, leb-false}
use Rattle.common.specs.Buffer.{laid, cleared}
use Rattle.base64url_rules.specs.Base64url.{encode, decode, strict}
use Rattle.base64url_rules.specs.Fault.{fault}
use Rattle.base64url_rules.proofs.FaultLaws.{strict_faultless}
use Rattle.base64url_rules.specs.Outcome.{Decoded, Encoded, Decoding, Encoding, decoded_to, encoded_to, refusal, judged, decoding, encoding}

-- decoding: a text and a buffer, the answer and the buffer afterwards
pub data Answered (text out : List ℕ) : Decoded → List ℕ → Type 0 where
  written : strict text ≡ true → length (decode text) ≤ length out → Answered text out (Decoded.Bytes (length (decode text))) (laid (decode text) out)
  faulty : {place : ℕ} → strict text ≡ false → fault text ≡ some place → Answered text out (Decoded.Fault place) (cleared out)
  short : strict text ≡ true → length out < length (decode text) → Answered text out Decoded.Short (cleared out)

-- a text with a fault is not strict
pub faulty_strict : (text : List ℕ) {place : ℕ} → fault text ≡ some place → strict text ≡ false
faulty_strict text {place} e = go (strict text) refl
  where
    go : (t : Bool) → strict text ≡ t → t ≡ false
    go false h = refl
    go true h = let n = (strict_faultless text).0 h in let z : ◌≡◌ {A = ℕ} 0 1 = cc in absurd (omega arith)

module _ (text out : List ℕ) where
  pub judged_right : Answered text out (decoding text out).answer (decoding text out).buffer
  unfolding decoding
  judged_right = go (fault text) refl
    where
      room : (t : Bool) → leb (length (decode text)) (length out) ≡ t → strict text ≡ true
          → let d = cond t (decoded_to (Decoded.Bytes (length (decode text))) (laid (decode text) out)) (decoded_to Decoded.Short (cleared out)) in
          Answered text out d.answer d.buffer
      room true e h = written h (leb-true _ _ e)
      room false e h = short h (leb-false _ _ e)

      go : (f : Option ℕ) → fault text ≡ f → Answered text out (judged f (decode text) out).answer (judged f (decode text) out).buffer
      go (some place) e = faulty (faulty_strict text e) e
      go none e = room (leb (length (decode text)) (length out)) refl ((strict_faultless text).1 e)

  -- what the contract of `decode` says, case by case
  pub judge : {r : Decoded} {buffer : List ℕ} → decoded_to r buffer ≡ decoding text out → Answered text out r buffer
  judge e = subst (λ (d : Decoding). Answered text out d.answer d.buffer) (sym e) judged_right

  pub accepted : strict text ≡ true → length (decode text) ≤ length out
      → decoded_to (Decoded.Bytes (length (decode text))) (laid (decode text) out) ≡ decoding text out
  unfolding decoding
  accepted s h = rw ((strict_faultless text).0 s, le-leb _ _ h)

  pub refused : (strict text ≡ true → length out < length (decode text)) → decoded_to (refusal (fault text)) (cleared out) ≡ decoding text out
  unfolding decoding
  refused h = go (fault text) refl
    where
      go : (f : Option ℕ) → fault text ≡ f → decoded_to (refusal f) (cleared out) ≡ judged f (decode text) out
      go (some place) e = refl
      go none e = rw (lt-leb _ _ (h ((strict_faultless text).1 e)))

-- encoding: bytes and a buffer, the answer and the buffer afterwards
pub data Fitted (s out : List ℕ) : Encoded → List ℕ → Type 0 where
  fits : length (encode s) ≤ length out → Fitted s out (Encoded.Text (length (encode s))) (laid (encode s) out)
  lacks_room : length out < length (encode s) → Fitted s out Encoded.Short (cleared out)

module _ (s out : List ℕ) where
  -- what the contract of `encode` says, case by case
  pub fitted : {r : Encoded} {buffer : List ℕ} → encoded_to r buffer ≡ encoding s out → Fitted s out r buffer
  unfolding encoding
  fitted e = subst (λ (d : Encoding). Fitted s out d.answer d.buffer) (sym e) (go (leb (length (encode s)) (length out)) refl)
    where
      go : (t : Bool) → leb (length (encode s)) (length out) ≡ t
          → let d = cond t (encoded_to (Encoded.Text (length (encode s))) (laid (encode s) out)) (encoded_to Encoded.Short (cleared out)) in
          Fitted s out d.answer d.buffer
      go true e = fits (leb-true _ _ e)
      go false e = lacks_room (leb-false _ _ e)

  pub roomy : length (encode s) ≤ length out → encoded_to (Encoded.Text (length (encode s))) (laid (encode s) out) ≡ encoding s out
  unfolding encoding
  roomy h = rw (le-leb _ _ h)

  pub tight : length out < length (encode s) → encoded_to Encoded.Short (cleared out) ≡ encoding s out
  unfolding encoding
  tight h = rw (lt-leb _ _ h)
