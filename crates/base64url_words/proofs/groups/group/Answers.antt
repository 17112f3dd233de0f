-- `group` meets its contract: the group by its word.
use mathlib.Core.Path.{ap, sym, ◌∙◌}
use Rattle.std.specs.Prelude.{option_map}
use Rattle.base64url_words.proofs.WordLaws.{one, one_group}
use Rattle.base64url_words.proofs.groups.group.Goals as goal

pub returns-in_err-word : goal.returns-in_err-word
returns-in_err-word c =
    c.from_residual.ensures ∙ ap (option_map one) (sym c.in_err-word.was ∙ c.both.ensures) ∙ one_group c.word.result _ _ _ _ c.word.ensures

pub returns : goal.returns
returns c = rw c.bytes3.ensures (ap (option_map one) (sym c.in_ok-word.was ∙ c.both.ensures) ∙ one_group c.word.result _ _ _ _ c.word.ensures)
