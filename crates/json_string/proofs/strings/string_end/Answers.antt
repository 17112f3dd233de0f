-- `string_end` meets its contract. The loop's invariant: the rest of the string ends where the string does.
use mathlib.Core.Path.{refl, sym, ◌∙◌}
use native.Mathlib.Omega.{arith}
use Rattle.json_characters.specs.CharacterLaws.{scanned, char_after}
use Rattle.json_string.specs.TextLaws.{text_out, text_wrong_lem, text_step, text_plain}
use Rattle.json_string.proofs.TextPaths.{end_none, end_quote, end_on}
use Rattle.json_string.proofs.strings.string_end.Goals as goal

pub loop-at-preserved-then-is_unescaped1 : goal.loop-at-preserved-then-is_unescaped1
loop-at-preserved-then-is_unescaped1 c =
    end_on _ _ _ _ (text_plain _ _ c.loop-at-test.true _ (sym c.is_unescaped1.ensures ∙ c.if-is_unescaped1.true) refl) ∙ c.loop-at.invariant

pub returns-then-b-eq34 : goal.returns-then-b-eq34
returns-then-b-eq34 c = end_quote _ _ c.loop-at-test.true c.if-b-eq34.true ∙ c.loop-at.invariant

pub returns-in_err-next : goal.returns-in_err-next
returns-in_err-next c =
    c.from_residual.ensures ∙ end_none _ _ (text_wrong_lem _ _ c.loop-at-test.true c.if-b-eq34.false (scanned _ _ _ _ c.char_at.ensures c.in_err-next.was)) ∙ c.loop-at.invariant

pub loop-at-smaller : goal.loop-at-smaller
loop-at-smaller c =
    omega (arith, c.loop-at-test.true, char_after _ _ _ _ (scanned _ _ _ _ c.char_at.ensures c.in_ok-next.was))

pub loop-at-preserved : goal.loop-at-preserved
loop-at-preserved c =
    end_on _ _ _ _ (text_step _ _ c.loop-at-test.true c.if-b-eq34.false _ _ (scanned _ _ _ _ c.char_at.ensures c.in_ok-next.was)) ∙ c.loop-at.invariant

pub returns : goal.returns
returns c = end_none _ _ (text_out _ _ c.loop-at-test.false) ∙ c.loop-at.invariant
