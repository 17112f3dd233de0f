-- `form` meets its contract.
use mathlib.Core.Path.{ap}
use native.Mathlib.Omega.{arith}
use Rattle.json_grammar_rules.specs.Bytes.{within}
use Rattle.json_grammar_rules.specs.Reader.{is_unescaped1, char_lead}
use Rattle.json_grammar_rules.proofs.ByteLaws.{within_is}
use Rattle.json_characters.proofs.ClassLaws.{not_within}
use Rattle.json_characters.proofs.FormLaws.{three_row, four_row, form_two, form_three, form_four, form_none}
use Rattle.json_characters.proofs.utf8.form.Goals as goal

pub returns-in-224 : goal.returns-in-224
unfolding char_lead is_unescaped1 within
returns-in-224 c = three_row _ _ _ 0xA0 0xBF _ _ (ap char_lead c.in-224.is) (omega arith) c.tails.ensures

pub returns-in-237 : goal.returns-in-237
unfolding char_lead is_unescaped1 within
returns-in-237 c = three_row _ _ _ 0x80 0x9F _ _ (ap char_lead c.in-237.is) (omega arith) c.tails-in-237.ensures

pub returns-in-240 : goal.returns-in-240
unfolding char_lead is_unescaped1 within
returns-in-240 c = four_row _ _ _ 0x90 0xBF _ _ (ap char_lead c.in-240.is) (omega arith) c.tails-in-240.ensures

pub returns-in-244 : goal.returns-in-244
unfolding char_lead is_unescaped1 within
returns-in-244 c = four_row _ _ _ 0x80 0x8F _ _ (ap char_lead c.in-244.is) (omega arith) c.tails-in-244.ensures

pub returns-in-194-to-223 : goal.returns-in-194-to-223
returns-in-194-to-223 c = form_two _ _ _ _ _ (within_is 0xC2 0xDF c.args.b (omega arith) (omega arith)) c.from.ensures c.tails-in-194-to-223.ensures

pub returns-in-225-to-239 : goal.returns-in-225-to-239
returns-in-225-to-239 c =
    form_three _ _ _ _ _ (λ e. omega arith) (within_is 0xE1 0xEF c.args.b (omega arith) (omega arith)) c.from-in-225-to-239.ensures c.tails-in-225-to-239.ensures

pub returns-in-241-to-243 : goal.returns-in-241-to-243
returns-in-241-to-243 c = form_four _ _ _ _ _ (within_is 0xF1 0xF3 c.args.b (omega arith) (omega arith)) c.from-in-241-to-243.ensures c.tails-in-241-to-243.ensures

pub returns-in_default : goal.returns-in_default
returns-in_default c =
    form_none _ _ _ c.requires.1 c.requires.2 (not_within _ _ _ (λ l. omega arith)) (λ e. omega arith) (λ e. omega arith) (not_within _ _ _ (λ l. omega arith)) (λ e. omega arith) (λ e. omega arith) (not_within _ _ _ (λ l. omega arith))

pub returns-in_default-2 : goal.returns-in_default-2
returns-in_default-2 c =
    form_none _ _ _ c.requires.1 c.requires.2 (not_within _ _ _ (λ l. omega arith)) (λ e. omega arith) (λ e. omega arith) (not_within _ _ _ (λ l. omega arith)) (λ e. omega arith) (λ e. omega arith) (not_within _ _ _ (λ l. omega arith))
