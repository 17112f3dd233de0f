-- The number of each answer, as docs/SPECIFICATION.md has it.
use Rattle.std.specs.Prelude.{ℕ, Result, Ok, Err}
use Rattle.answers.specs.declared.refusal.Refusal.{Refusal}

abbrev pub number : Refusal → ℕ
number Refusal.TokenTooLong = 1
number Refusal.BadTable = 2
number Refusal.NotTwoPeriods = 3
number Refusal.NotBase64url = 4
number Refusal.HeaderTooLong = 5
number Refusal.BufferTooShort = 6
number Refusal.NotDerived = 7
number Refusal.NameTwice = 8
number Refusal.WrongKind = 9
number Refusal.Critical = 10
number Refusal.WrongAlg = 11
number Refusal.NoKey = 12
number Refusal.AlgNotAllowed = 13
number Refusal.FormatNotAllowed = 14
number Refusal.SignatureDiffers = 15
number Refusal.NoSuchMember = 16

-- 0 is "done"
abbrev pub answer : {A : Type 0} → Result A Refusal → ℕ
answer (Ok a) = 0
answer (Err r) = number r
