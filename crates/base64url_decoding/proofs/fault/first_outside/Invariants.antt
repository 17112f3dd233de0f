-- `first_outside`: the characters before i are of the alphabet.
use Rattle.std.specs.Prelude.{nat_le}
use Rattle.base64url_rules.specs.Alphabet.{value}
use Rattle.base64url_rules.proofs.Searches.{Unmet}
use Rattle.base64url_decoding.proofs.fault.first_outside.Given as goal

abbrev pub invariant-loop-i : goal.invariant-loop-i
invariant-loop-i l = Unmet (λ c. nat_le 64 (value c)) l.text 0 l.i
