-- `two_groups` meets its contract, by the words.
use mathlib.Core.Path.{ap, sym, ◌∙◌}
use native.Mathlib.Omega.{arith}
use Rattle.std.specs.Prelude.{option_map}
use Rattle.base64url_words.proofs.WordLaws.{two, two_groups}
use Rattle.base64url_words.proofs.groups.two_groups.Goals as goal

pub returns-in_err-first : goal.returns-in_err-first
returns-in_err-first g c =
    c.from_residual.ensures ∙ ap (option_map two) (sym c.in_err-first.was ∙ c.both.ensures) ∙ two_groups c.word.result c.word-2.result c.args.text.now (omega arith) c.word.ensures c.word-2.ensures

pub returns : goal.returns
returns g c =
    rw (c.bytes3.ensures, c.bytes3-2.ensures)
    (ap (option_map two) (sym c.in_ok-first.was ∙ c.both.ensures) ∙ two_groups c.word.result c.word-2.result c.args.text.now (omega arith) c.word.ensures c.word-2.ensures)
