-- Rules 12 to 14, by the facts and the keys.
use Rattle.std.specs.Prelude.{◌≡◌, Bool, true, false, List, ℕ}
use Rattle.std.proofs.Common.{ap, ◌∙◌}
use Rattle.std.proofs.Math.Option.{none, some}
use Rattle.common.specs.First.{first}
use Rattle.common.specs.Options.{given}
use Rattle.keytable_rules.specs.Key.{Key, key, allows_hs256}
use Rattle.jose_rules.specs.declared.Facts.{Facts}
use Rattle.jose_rules.specs.Verdict.{Verdict}
use Rattle.jose_rules.specs.Facts.{is_there, chosen_key, format_by, lacking, key_tests, index_by, number_by, verdict_by}
use Rattle.jose_judging.specs.Judging.{key_verdict}

module _ (f : Facts) (ks : List Key) where
  pub key_12 : none ≡ chosen_key f.kid → Verdict.Refused 12 ≡ key_verdict f ks
  unfolding key_verdict
  key_12 e = rw (← e)

  module _ {i : ℕ} (e : some i ≡ chosen_key f.kid) where
    pub key_13 : allows_hs256 (key ks i) ≡ false → Verdict.Refused 13 ≡ key_verdict f ks
    unfolding key_verdict
    key_13 a = rw (← e, a)

    module _ (a : allows_hs256 (key ks i) ≡ true) where
      pub key_14 : given (lacking (key ks i)) (format_by f.fmt) ≡ true → Verdict.Refused 14 ≡ key_verdict f ks
      unfolding key_verdict
      key_14 l = rw (← e, a, l)

      pub key_taken : given (lacking (key ks i)) (format_by f.fmt) ≡ false → {b : Bool} → b ≡ is_there f.kid → {m : ℕ} → m ≡ number_by f
          → Verdict.Takes i b m ≡ key_verdict f ks
      unfolding key_verdict
      key_taken l {b} p {m} q = taken ∙ ap (λ (n : ℕ). verdict_by n f) passes
        where
          passes : 0 ≡ first (key_tests f ks)
          passes = rw (← e, a, l)

          taken : Verdict.Takes i b m ≡ Verdict.Takes (index_by f) (is_there f.kid) (number_by f)
          taken = rw (← e, p, q)
