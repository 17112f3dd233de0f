-- Laws of what the code answers: its number is that of what is shown.
use Rattle.std.specs.Prelude.{◌≡◌, refl, Result, Ok, Err}
use Rattle.answers.specs.declared.refusal.Refusal.{Refusal as Reason}
use Rattle.answers.specs.Numbers.{answer}
use Rattle.json_rules.specs.declared.Member.{Member as Found}
use Rattle.json_rules.specs.Answers.{number_of}
use Rattle.json_rules.specs.Shown.{found, shown}

-- the number of what is shown is that of the answer
number_found : (m : Found) → number_of (found m) ≡ 0
unfolding number_of
number_found (Found.String n v) = refl
number_found (Found.Number n v) = refl
number_found (Found.True n v) = refl
number_found (Found.False n v) = refl
number_found (Found.Null n v) = refl
number_found (Found.Array n v) = refl
number_found (Found.Object n v) = refl

pub number_shown : (r : Result Found Reason) → number_of (shown r) ≡ answer r
unfolding number_of
number_shown (Ok m) = number_found m
number_shown (Err r) = refl
