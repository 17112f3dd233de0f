-- `text_is` meets its contract. The loop's invariant: the rests of the string and of the word compare as both do.
use native.Mathlib.Omega.{arith}
use mathlib.Core.Path.{refl, sym, ◌∙◌}
use Rattle.json_characters.specs.CharacterLaws.{scanned, char_after, char_most, plain_octets}
use Rattle.json_string.specs.TextLaws.{text_out, text_wrong_lem, text_step, text_plain}
use Rattle.json_string.proofs.OctetLaws.{octet_ended, octet_differs, octet_here}
use Rattle.json_string.proofs.TextPaths.{word_ended, word_after, is_none, is_quote, is_step, is_differ}
use Rattle.json_string.proofs.compare.text_is.Goals as goal

pub returns-then-b-eq34 : goal.returns-then-b-eq34
returns-then-b-eq34 c =
    is_quote _ _ _ _ c.loop-i-test.true c.if-b-eq34.true c.loop-i.invariant.0 ∙ c.loop-i.invariant.1

pub returns-then-word-k : goal.returns-then-word-k
returns-then-word-k c =
    let p = sym c.is_unescaped1.ensures ∙ c.if-is_unescaped1.true in
    is_differ _ _ _ _ _ _ (text_plain _ _ c.loop-i-test.true _ p refl) (octet_ended _ _ _ (plain_octets _ p) c.if-word-k.true) ∙ c.loop-i.invariant.1

pub returns-then-word-k-2 : goal.returns-then-word-k-2
returns-then-word-k-2 c =
    let p = sym c.is_unescaped1.ensures ∙ c.if-is_unescaped1.true in
    is_differ _ _ _ _ _ _ (text_plain _ _ c.loop-i-test.true _ p refl) (octet_differs _ _ _ (plain_octets _ p) c.if-word-k.false c.if-word-k-2.true) ∙ c.loop-i.invariant.1

pub loop-i-preserved-then-is_unescaped1 : goal.loop-i-preserved-then-is_unescaped1
loop-i-preserved-then-is_unescaped1 c =
    let p = sym c.is_unescaped1.ensures ∙ c.if-is_unescaped1.true in
    let o = octet_here _ _ _ (plain_octets _ p) c.if-word-k.false c.if-word-k-2.false in
    (word_after _ _ _ _ o, is_step _ _ _ _ _ _ (text_plain _ _ c.loop-i-test.true _ p refl) _ o ∙ c.loop-i.invariant.1)

pub returns-in_default : goal.returns-in_default
returns-in_default c =
    is_none _ _ _ (text_wrong_lem _ _ c.loop-i-test.true c.if-b-eq34.false (scanned _ _ _ _ c.char_at.ensures c.in_default.is)) ∙ c.loop-i.invariant.1

pub octets_end-requires : goal.octets_end-requires
octets_end-requires c = (omega arith, char_most _ _ _ _ (scanned _ _ _ _ c.char_at.ensures c.in-Some.is))

pub returns-in_default-octets_end : goal.returns-in_default-octets_end
returns-in_default-octets_end c =
    is_differ _ _ _ _ _ _ (text_step _ _ c.loop-i-test.true c.if-b-eq34.false _ _ (scanned _ _ _ _ c.char_at.ensures c.in-Some.is)) (word_ended _ _ _ _ _ c.octets_end.ensures c.in_default-octets_end.is) ∙ c.loop-i.invariant.1

pub loop-i-smaller : goal.loop-i-smaller
loop-i-smaller c =
    omega (arith, c.loop-i-test.true, char_after _ _ _ _ (scanned _ _ _ _ c.char_at.ensures c.in-Some.is))

pub loop-i-preserved : goal.loop-i-preserved
loop-i-preserved c =
    let x = scanned _ _ _ _ c.char_at.ensures c.in-Some.is in
    let o = word_ended _ _ _ _ _ c.octets_end.ensures c.in-Some-octets_end.is in
    (word_after _ _ _ _ o, is_step _ _ _ _ _ _ (text_step _ _ c.loop-i-test.true c.if-b-eq34.false _ _ x) _ o ∙ c.loop-i.invariant.1)

pub returns : goal.returns
returns c = is_none _ _ _ (text_out _ _ c.loop-i-test.false) ∙ c.loop-i.invariant.1
