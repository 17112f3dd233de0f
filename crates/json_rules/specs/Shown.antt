-- What the code answers, as the definitions have it.
use Rattle.std.specs.Prelude.{Result, Ok, Err}
use Rattle.answers.specs.declared.refusal.Refusal.{Refusal as Reason}
use Rattle.answers.specs.Numbers.{number}
use Rattle.json_rules.specs.declared.Member.{Member as Found}
use Rattle.json_rules.specs.Answers.{Member, String, Number, True, False, Null, Array, Object, Refused}

abbrev pub found : Found → Member
found (Found.String n v) = String n v
found (Found.Number n v) = Number n v
found (Found.True n v) = True n v
found (Found.False n v) = False n v
found (Found.Null n v) = Null n v
found (Found.Array n v) = Array n v
found (Found.Object n v) = Object n v

-- a member, or the refusal's number
abbrev pub shown : Result Found Reason → Member
shown (Ok m) = found m
shown (Err r) = Refused (number r)
