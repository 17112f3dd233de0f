-- `fingerprint` meets its contract. The loop's invariant: mixing the rest of the string into what is mixed so far gives the fingerprint.
use mathlib.Core.Path.{sym, ◌∙◌}
use native.Mathlib.Omega.{arith}
use Rattle.json_characters.specs.CharacterLaws.{scanned, char_after}
use Rattle.json_string.specs.TextLaws.{text_out, text_quote, text_wrong_lem, text_step, text_plain}
use Rattle.json_string.proofs.TextPaths.{mixed_none, mixed_all, mixed_on}
use Rattle.json_string.proofs.compare.fingerprint.Goals as goal

pub loop-at-preserved-then-is_unescaped1 : goal.loop-at-preserved-then-is_unescaped1
loop-at-preserved-then-is_unescaped1 c =
    mixed_on _ _ _ _ _ _ (text_plain _ _ c.loop-at-test.true _ (sym c.is_unescaped1.ensures ∙ c.if-is_unescaped1.true) c.from.ensures) c.mixed-h.ensures
    ∙ c.loop-at.invariant

pub returns-then-b-eq34 : goal.returns-then-b-eq34
returns-then-b-eq34 c = mixed_all _ _ _ (text_quote _ _ c.loop-at-test.true c.if-b-eq34.true) ∙ c.loop-at.invariant

pub returns-in_default : goal.returns-in_default
returns-in_default c =
    mixed_none _ _ _ (text_wrong_lem _ _ c.loop-at-test.true c.if-b-eq34.false (scanned _ _ _ _ c.char_at.ensures c.in_default.is)) ∙ c.loop-at.invariant

pub loop-at-smaller : goal.loop-at-smaller
loop-at-smaller c =
    omega (arith, c.loop-at-test.true, char_after _ _ _ _ (scanned _ _ _ _ c.char_at.ensures c.in-Some.is))

pub loop-at-preserved : goal.loop-at-preserved
loop-at-preserved c =
    mixed_on _ _ _ _ _ _ (text_step _ _ c.loop-at-test.true c.if-b-eq34.false _ _ (scanned _ _ _ _ c.char_at.ensures c.in-Some.is)) c.mixed-h-else-is_unescaped1.ensures
    ∙ c.loop-at.invariant

pub returns : goal.returns
returns c = mixed_none _ _ _ (text_out _ _ c.loop-at-test.false) ∙ c.loop-at.invariant
