-- What the facts decide: the number of the first rule that refuses; or the key's index, whether `kid` is there, and the format.
use Rattle.std.specs.Prelude.{Bool, ℕ, Result, Ok, Err}
use Rattle.answers.specs.declared.refusal.Refusal.{Refusal}
use Rattle.answers.specs.Numbers.{number}
use Rattle.jose_rules.specs.declared.Taken.{Taken}

pub data Verdict : Type 0 where
  Refused : ℕ → Verdict
  Takes : ℕ → Bool → ℕ → Verdict

-- as the code answers it
abbrev pub judged : Result Taken Refusal → Verdict
judged (Ok t) = Verdict.Takes t.key_index t.kid_present t.format
judged (Err r) = Verdict.Refused (number r)
