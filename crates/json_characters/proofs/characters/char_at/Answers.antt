-- `char_at` meets its contract.
use mathlib.Core.Path.{sym, ◌∙◌}
use native.Mathlib.Omega.{arith}
use Rattle.json_characters.specs.CharacterLaws.{char_is, char_plain}
use Rattle.json_characters.proofs.CharLaws.{char_out, char_escape, char_form}
use Rattle.json_characters.proofs.characters.char_at.Goals as goal

pub returns-then-at-s : goal.returns-then-at-s
returns-then-at-s c = char_out _ _ c.if-at-s.true

pub returns-then-is_unescaped1 : goal.returns-then-is_unescaped1
returns-then-is_unescaped1 c = char_is _ _ _ (char_plain _ _ c.if-at-s.false _ (sym c.is_unescaped1.ensures ∙ c.if-is_unescaped1.true) c.from.ensures)

pub returns-then-b-eq92 : goal.returns-then-b-eq92
returns-then-b-eq92 c = char_escape _ _ c.if-at-s.false _ c.if-b-eq92.true c.escape.ensures

pub form-requires : goal.form-requires
form-requires c = (omega arith, sym c.is_unescaped1.ensures ∙ c.if-is_unescaped1.false, c.if-b-eq92.false)

pub returns : goal.returns
returns c = char_form _ _ c.if-at-s.false _ c.form.ensures
