-- The format as a small number, from 1 to 8: whether a key lacks it.
use Rattle.std.specs.Prelude.{◌≡◌, refl, Bool, true, false, cond, not, ◌||◌, ℕ, ◌≤◌, ℤ, pos, negsuc, nat_abs, Some, None}
use Rattle.std.proofs.Common.{true≢false, arith, ltb-false}
use Rattle.std.proofs.Math.Option.{Option, none, some}
use Rattle.std.specs.Int.Signed.{lt_z}
use Rattle.common.specs.Options.{given, or_else}
use Rattle.keytable_rules.specs.Key.{Key, allows_format}
use Rattle.jose_rules.specs.declared.Said.{Said}
use Rattle.jose_rules.specs.Facts.{is_wrong, format_by, lacking}
use Rattle.jose_judging.specs.Judging.{small_of}

low : (z : ℤ) → lt_z z (pos 1) ≡ false → 1 ≤ nat_abs z
low (pos m) e = ltb-false m 1 e
low (negsuc m) e = absurd (true≢false e)

high : (z : ℤ) → lt_z (pos 8) z ≡ false → lt_z z (pos 1) ≡ false → nat_abs z ≤ 8
high (pos m) e f = ltb-false 8 m e
high (negsuc m) e f = absurd (true≢false f)

-- no small number: whichever the key
pub lacks : (k : Key) (x : Said ℤ) → is_wrong x ≡ false → None ≡ small_of (format_by x) → given (lacking k) (format_by x) ≡ true
unfolding small_of lacking
lacks k Said.Absent w e = cc
lacks k Said.Wrong w e = absurd (true≢false w)
lacks k (Said.Is z) w e = go (lt_z z (pos 1)) (lt_z (pos 8) z) e
  where
    go : (a b : Bool) → None ≡ cond a None (cond b None (Some (nat_abs z))) → a || (b || not (allows_format k (nat_abs z))) ≡ true
    go true b e = refl
    go false true e = refl
    go false false e = cc

-- a small number: as the key's bits say
pub record Small (o : Option ℤ) (f : ℕ) : Type 0 where
  pub least : 1 ≤ f
  pub most : f ≤ 8
  pub is : f ≡ nat_abs (or_else o (pos 0))
  pub lacks_it : (k : Key) → given (lacking k) o ≡ not (allows_format k f)

pub small : (o : Option ℤ) {f : ℕ} → Some f ≡ small_of o → Small o f
unfolding small_of lacking
small none e = cc
small (some z) {f} e = go (lt_z z (pos 1)) refl (lt_z (pos 8) z) refl e
  where
    go : (a : Bool) → lt_z z (pos 1) ≡ a → (b : Bool) → lt_z (pos 8) z ≡ b → Some f ≡ cond a None (cond b None (Some (nat_abs z))) → Small (some z) f
    go true d b e c = cc
    go false d true e c = cc
    go false d false e c =
        let n : f ≡ nat_abs z = cc in
        record {
          least = let l = low z d in omega arith;
          most = let h = high z e d in omega arith;
          is = n;
          lacks_it = λ k. rw (d, e, n);
        }
