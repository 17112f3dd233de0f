-- The constant is the list that the definition computes.
use mathlib.Core.Path.{refl}
use Rattle.common.specs.Ranges.{within}
use Rattle.base64url_rules.specs.Alphabet.{value}
use Rattle.base64url_rules.proofs.Tables.{entries, signed, values}
use Rattle.base64url_words.proofs.values.Values.new.Goals as goal

pub invariant_of-result : goal.invariant_of-result
unfolding values entries within value signed
invariant_of-result c = record { right = refl }
