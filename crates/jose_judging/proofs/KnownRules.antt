-- What rules 9 to 11 leave to the rules on the key, and the verdict by the two.
use Rattle.std.specs.Prelude.{◌≡◌, refl, Bool, false, ◌||◌, List, ℕ, zero, suc}
use Rattle.std.proofs.Common.{sym, ap, ◌∙◌}
use Rattle.common.specs.First.{first}
use Rattle.common.proofs.FirstLaws.{first_within, first_after, all_pass, passed}
use Rattle.common.specs.Truth.{neither}
use Rattle.keytable_rules.specs.Key.{Key}
use Rattle.jose_rules.specs.declared.Facts.{Facts}
use Rattle.jose_rules.specs.Verdict.{Verdict}
use Rattle.jose_rules.specs.Facts.{is_missing, is_wrong, missing_or_wrong, known_tests, key_tests, verdict_by, verdict}
use Rattle.jose_judging.specs.Judging.{key_verdict}

-- the last of six
last_fine : (a b c d e g : Bool) → a || (b || (c || (d || (e || g)))) ≡ false → g ≡ false
last_fine a b c d e g h = (neither e g (neither d _ (neither c _ (neither b _ (neither a _ h).1).1).1).1).1

-- past them, the format is a number, or absent
pub format_fine : (f u : Facts) → first (known_tests f u) ≡ 0 → is_wrong f.fmt ≡ false
unfolding missing_or_wrong
format_fine f u e =
    last_fine (is_missing f.alg) (is_wrong f.kid) (is_wrong f.typ) (is_wrong f.cty) (is_wrong f.crit) (is_wrong f.fmt)
    (passed (known_tests f u) (all_pass (known_tests f u) refl e) 9)

-- THE VERDICT

refused : (n : ℕ) (f : Facts) → (n ≡ 0 → ⊥) → Verdict.Refused n ≡ verdict_by n f
refused zero f z = absurd (z refl)
refused (suc n) f z = refl

module _ (f u : Facts) (ks : List Key) where
  pub verdict_known : {n : ℕ} → n ≡ first (known_tests f u) → (n ≡ 0 → ⊥) → Verdict.Refused n ≡ verdict f u ks
  unfolding verdict
  verdict_known {n} e z =
      refused n f z ∙ ap (λ (m : ℕ). verdict_by m f) (e ∙ sym (first_within (known_tests f u) (key_tests f ks) (λ g. z (e ∙ g))))

  pub verdict_key : first (known_tests f u) ≡ 0 → {v : Verdict} → v ≡ key_verdict f ks → v ≡ verdict f u ks
  unfolding verdict key_verdict
  verdict_key e c = c ∙ ap (λ (m : ℕ). verdict_by m f) (sym (first_after (known_tests f u) (key_tests f ks) refl e))
