-- `same_text_lem` meets its contract. The loop's invariant: the rests of both strings compare as the strings do.
use native.Mathlib.Omega.{arith}
use mathlib.Core.Path.{◌∙◌}
use Rattle.json_characters.specs.CharacterLaws.{scanned, char_after}
use Rattle.json_string.specs.TextLaws.{text_out, text_wrong_lem}
use Rattle.json_string.proofs.TextPaths.{same_none_i, same_none_j, same_quote_i, same_quote_j, same_step, same_differ}
use Rattle.json_string.proofs.compare.same_text.Goals as goal

pub returns-then-a-eq34 : goal.returns-then-a-eq34
returns-then-a-eq34 c =
    same_quote_i _ _ _ _ c.loop-i-test.true c.if-j-t.true c.if-a-eq34.true ∙ c.loop-i.invariant

pub returns-then-b-eq34 : goal.returns-then-b-eq34
returns-then-b-eq34 c =
    same_quote_j _ _ _ _ c.loop-i-test.true c.if-j-t.true c.if-a-eq34.false c.if-b-eq34.true ∙ c.loop-i.invariant

pub returns-in_default : goal.returns-in_default
returns-in_default c =
    same_none_i _ _ _ _ (text_wrong_lem _ _ c.loop-i-test.true c.if-a-eq34.false (scanned _ _ _ _ c.char_at.ensures c.in_default.is)) ∙ c.loop-i.invariant

pub returns-in_default-char_at : goal.returns-in_default-char_at
returns-in_default-char_at c =
    same_none_j _ _ _ _ (text_wrong_lem _ _ c.if-j-t.true c.if-b-eq34.false (scanned _ _ _ _ c.char_at-then-j-t.ensures c.in_default-char_at.is)) ∙ c.loop-i.invariant

pub loop-i-smaller : goal.loop-i-smaller
loop-i-smaller c =
    omega (arith, c.loop-i-test.true, char_after _ _ _ _ (scanned _ _ _ _ c.char_at.ensures c.in-Some.is))

pub loop-i-preserved : goal.loop-i-preserved
loop-i-preserved c =
    let x = scanned _ _ _ _ c.char_at.ensures c.in-Some.is in
    let y = scanned _ _ _ _ c.char_at-then-j-t.ensures c.in-Some-char_at.is in
    same_step _ _ _ _ c.loop-i-test.true c.if-j-t.true c.if-a-eq34.false c.if-b-eq34.false _ _ _ _ x y c.if-x-y.true ∙ c.loop-i.invariant

pub returns-else-x-y : goal.returns-else-x-y
returns-else-x-y c =
    same_differ _ _ _ _ c.loop-i-test.true c.if-j-t.true c.if-a-eq34.false c.if-b-eq34.false _ _ _ _ (scanned _ _ _ _ c.char_at.ensures c.in-Some.is) (scanned _ _ _ _ c.char_at-then-j-t.ensures c.in-Some-char_at.is) c.if-x-y.false ∙ c.loop-i.invariant

pub returns-else-j-t : goal.returns-else-j-t
returns-else-j-t c = same_none_j _ _ _ _ (text_out _ _ c.if-j-t.false) ∙ c.loop-i.invariant

pub returns : goal.returns
returns c = same_none_i _ _ _ _ (text_out _ _ c.loop-i-test.false) ∙ c.loop-i.invariant
