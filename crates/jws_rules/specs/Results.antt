-- What the code's results stand for: the number of the answer, and zeros after a refusal.
use Rattle.std.specs.Prelude.{ℕ, Result, Ok, Err}
use Rattle.answers.specs.declared.refusal.Refusal.{Refusal}
use Rattle.answers.specs.Numbers.{number}
use Rattle.jws_rules.specs.declared.Record.{Record}
use Rattle.jws_rules.specs.Outcomes.{Verified, Signed, zero_record}

abbrev pub verify_result : Result Record Refusal → Verified
verify_result (Ok r) = record { answer = 0; details = r }
verify_result (Err e) = record { answer = number e; details = zero_record }

abbrev pub sign_result : Result ℕ Refusal → Signed
sign_result (Ok n) = record { answer = 0; length = n }
sign_result (Err e) = record { answer = number e; length = 0 }
