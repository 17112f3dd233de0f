-- `is_unescaped1` meets its contract.
use mathlib.Core.Path.{sym, ◌∙◌}
use Rattle.json_characters.proofs.ClassLaws.{unescaped_1, unescaped_2, unescaped_3}
use Rattle.json_characters.proofs.classes.is_unescaped1.Goals as goal

pub returns-then-between : goal.returns-then-between
returns-then-between c = unescaped_1 _ (sym c.between.ensures ∙ c.if-between.true)

pub returns-then-between-2 : goal.returns-then-between-2
returns-then-between-2 c =
    unescaped_2 _ (sym c.between.ensures ∙ c.if-between.false) (sym c.between-2.ensures ∙ c.if-between-2.true)

pub returns : goal.returns
returns c =
    c.between-3.ensures ∙ unescaped_3 _ (sym c.between.ensures ∙ c.if-between.false) (sym c.between-2.ensures ∙ c.if-between-2.false)
