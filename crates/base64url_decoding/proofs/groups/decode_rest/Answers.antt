-- `decode_rest` meets its contract, by the number of characters.
use mathlib.Core.Path.{sym, ◌∙◌}
use native.Mathlib.Omega.{arith}
use Rattle.base64url_rules.proofs.Tables.{entries}
use Rattle.base64url_decoding.proofs.DecodeLaws.{nothing}
use Rattle.base64url_decoding.proofs.RestLaws.{as_listed, alone, two_bad, two_judged, three_bad, three_judged}
use Rattle.base64url_decoding.proofs.groups.decode_rest.Goals as goal

pub returns-in-empty : goal.returns-in-empty
unfolding entries
returns-in-empty c = as_listed _ 0 (omega arith) (nothing _)

pub returns-in-len1 : goal.returns-in-len1
unfolding entries
returns-in-len1 c = as_listed _ 1 (omega arith) (alone _ _)

pub returns-in_default : goal.returns-in_default
unfolding entries
returns-in_default c = as_listed _ 2 (omega arith) (two_bad _ _ _ (sym c.in_default.is ∙ c.group.ensures))

pub returns-in-Some : goal.returns-in-Some
unfolding entries
returns-in-Some c = as_listed _ 2 (omega arith) (two_judged _ _ _ (sym c.in-Some.is ∙ c.group.ensures) (omega arith))

pub returns-in_default-group : goal.returns-in_default-group
unfolding entries
returns-in_default-group c = as_listed _ 3 (omega arith) (three_bad _ _ _ _ (sym c.in_default-group.is ∙ c.group-in-len3-up.ensures))

pub returns-in-Some-group : goal.returns-in-Some-group
unfolding entries
returns-in-Some-group c = as_listed _ 3 (omega arith) (three_judged _ _ _ _ (sym c.in-Some-group.is ∙ c.group-in-len3-up.ensures) (omega arith))
