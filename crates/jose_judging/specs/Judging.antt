-- How facts are judged.
use Rattle.std.specs.Prelude.{◌≡◌, cond, List, ℕ, ◌<◌, ℤ, pos, nat_abs, length, Option as Perhaps, Some, None}
use Rattle.std.proofs.Math.Option.{Option, none, some}
use Rattle.std.specs.Int.Signed.{lt_z}
use Rattle.common.specs.First.{first}
use Rattle.keytable_rules.specs.Key.{Key}
use Rattle.jose_rules.specs.declared.Facts.{Facts}
use Rattle.jose_rules.specs.Verdict.{Verdict}
use Rattle.jose_rules.specs.Facts.{chosen_key, key_tests, verdict_by}

-- the chosen key is one of the keys
pub record KeyWithin (f : Facts) (ks : List Key) : Type 0 where
  pub within : (i : ℕ) → some i ≡ chosen_key f.kid → i < length ks

-- rules 12 to 14 alone
unfoldable pub key_verdict : Facts → List Key → Verdict
key_verdict f ks = verdict_by (first (key_tests f ks)) f

-- a number from 1 to 8; any other is none
unfoldable pub small_of : Option ℤ → Perhaps ℕ
small_of none = None
small_of (some z) = cond (lt_z z (pos 1)) None (cond (lt_z (pos 8) z) None (Some (nat_abs z)))
