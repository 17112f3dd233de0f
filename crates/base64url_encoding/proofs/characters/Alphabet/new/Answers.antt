-- The constant is the list that the definition computes.
use mathlib.Core.Path.{refl}
use Rattle.base64url_rules.specs.Alphabet.{character}
use Rattle.base64url_rules.proofs.Tables.{entries, characters}
use Rattle.base64url_encoding.proofs.characters.Alphabet.new.Goals as goal

pub invariant_of-result : goal.invariant_of-result
unfolding characters entries character
invariant_of-result c = record { right = refl }
