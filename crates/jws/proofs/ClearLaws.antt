-- What clearing the buffers past the record's lengths leads to: what verifying gives.
use mathlib.Core.Path.{◌≡◌, refl, sym, ap, ◌∙◌}
use mathlib.Core.List.{List}
use Prim.Native.Nat.{ℕ, ◌-◌, ◌≤◌}
use native.Mathlib.Nat.{sub-zero}
use native.Mathlib.Omega.{arith}
use lib.ListN.{length, take, drop, replicate, length-take}
use borrow.Rule.Slice.PartMut.{put_mid}
use Rattle.common.specs.Buffer.{filled}
use Rattle.common.specs.First.{first}
use Rattle.common.proofs.FirstLaws.{settle_good, settle_bad}
use Rattle.common.specs.Laid.{cleared_from}
use Rattle.jws_rules.specs.Outcomes.{Verified}
use Rattle.jws_rules.specs.Calls.{VerifyCall}
use Rattle.jws_rules.specs.Token.{header_of, payload_of}
use Rattle.jws_rules.specs.Outcomes.{given, refused}
use Rattle.jws_rules.specs.Tests.{verify_tests, verified}
use Rattle.jws.specs.Judging.{Judged, refusing, accepting}

-- the record's lengths are within the buffers
pub header_within : {q : VerifyCall} {hb pb : List ℕ} {n : ℕ} {r : Verified} → Judged q hb pb n r → r.details.header_length ≤ length hb
header_within (refusing z) = omega arith
header_within {q} {hb = hb} (accepting h p) = omega (arith, ap length h, length-take (length (header_of q.token)) hb)

pub payload_within : {q : VerifyCall} {hb pb : List ℕ} {n : ℕ} {r : Verified} → Judged q hb pb n r → r.details.payload_length ≤ length pb
payload_within (refusing z) = omega arith
payload_within {q} {pb = pb} (accepting h p) = omega (arith, ap length p, length-take (length (payload_of q.token)) pb)

module _ (q : VerifyCall) (hb pb : List ℕ) where
  -- what is given, by the number that stands
  settled : {n : ℕ} {r : Verified} → first (verify_tests q) ≡ n → Judged q hb pb n r
      → given r (filled q.header_room (take r.details.header_length hb)) (filled q.payload_room (take r.details.payload_length pb)) ≡ verified q
  unfolding verified
  settled e (refusing z) =
      rw (sub-zero q.header_room, sub-zero q.payload_room)
      (sym (settle_bad (first (verify_tests q)) _ (λ n. refused n q) (λ k. z (sym e ∙ k)) ∙ ap (λ (n : ℕ). refused n q) e))
  settled e (accepting h p) = rw (h, p) (sym (settle_good _ _ _ e))

  pub verified_is : {zh zp : List ℕ} {r : Verified} → let n = r.details.header_length in let m = r.details.payload_length in
      Judged q hb pb (first (verify_tests q)) r → length hb ≡ q.header_room → length pb ≡ q.payload_room
      → zh ≡ replicate (length (take (length hb - n) (drop n hb))) 0 → zp ≡ replicate (length (take (length pb - m) (drop m pb))) 0
      → given r (put_mid n (length hb - n) hb zh) (put_mid m (length pb - m) pb zp) ≡ verified q
  verified_is {zh} {zp} {r} j k l e f =
      rw (cleared_from r.details.header_length q.header_room hb zh k (header_within j) e, cleared_from r.details.payload_length q.payload_room pb zp l (payload_within j) f)
      (settled refl j)
