-- `low` meets its contract.
use mathlib.Core.Path.{refl}
use native.Mathlib.Omega.{arith}
use Rattle.json_grammar_rules.specs.Bytes.{is_low, pair_code}
use Rattle.json_grammar_rules.specs.Reader.{read_hex}
use Rattle.json_grammar_rules.proofs.ByteLaws.{within_is}
use Rattle.json_characters.proofs.ClassLaws.{not_within}
use Rattle.json_characters.proofs.ScanLaws.{scanned}
use Rattle.json_characters.proofs.EscapeLaws.{pair_high, low_short, low_no_escape, low_no_u, low_no_hex, low_is, low_not}
use Rattle.json_characters.proofs.escapes.low.Goals as goal

pub returns-then-s-at-lt2 : goal.returns-then-s-at-lt2
returns-then-s-at-lt2 c = low_short _ _ _ c.if-s-at-lt2.true

pub returns-then-s-at-ne92 : goal.returns-then-s-at-ne92
returns-then-s-at-ne92 c = low_no_escape _ _ _ (omega (arith, c.if-s-at-lt2.false)) c.if-s-at-ne92.true

pub returns-then-s-at-ne117 : goal.returns-then-s-at-ne117
returns-then-s-at-ne117 c = low_no_u _ _ _ (omega (arith, c.if-s-at-lt2.false)) c.if-s-at-ne92.false c.if-s-at-ne117.true

pub returns-in_err-x : goal.returns-in_err-x
returns-in_err-x c =
    rw c.from_residual.ensures (low_no_hex _ _ _ (omega (arith, c.if-s-at-lt2.false)) c.if-s-at-ne92.false c.if-s-at-ne117.false (scanned read_hex _ _ _ _ c.hex.ensures c.in_err-x.was))

pub overflow_sub-result : goal.overflow_sub-result
overflow_sub-result c = (pair_high _ c.requires.1).0

pub overflow_mul-result : goal.overflow_mul-result
overflow_mul-result c = omega (arith, pair_high _ c.requires.1)

pub overflow_add-result : goal.overflow_add-result
overflow_add-result c = omega (arith, pair_high _ c.requires.1)

pub overflow_add-result-in-56320-to-57343 : goal.overflow_add-result-in-56320-to-57343
overflow_add-result-in-56320-to-57343 c = omega (arith, pair_high _ c.requires.1)

pub returns-in-56320-to-57343 : goal.returns-in-56320-to-57343
unfolding is_low pair_code
returns-in-56320-to-57343 c =
    low_is _ _ _ (omega (arith, c.if-s-at-lt2.false)) c.if-s-at-ne92.false c.if-s-at-ne117.false _ _ _ (scanned read_hex _ _ _ _ c.hex.ensures c.in_ok-x.was) (within_is 0xDC00 0xDFFF c.in_ok-x.x (omega arith) (omega arith)) refl

pub returns-in_default : goal.returns-in_default
unfolding is_low
returns-in_default c =
    low_not _ _ _ (omega (arith, c.if-s-at-lt2.false)) c.if-s-at-ne92.false c.if-s-at-ne117.false _ _ (scanned read_hex _ _ _ _ c.hex.ensures c.in_ok-x.was) (not_within 0xDC00 0xDFFF c.in_ok-x.x (λ l. omega arith))

pub returns-in_default-2 : goal.returns-in_default-2
unfolding is_low
returns-in_default-2 c =
    low_not _ _ _ (omega (arith, c.if-s-at-lt2.false)) c.if-s-at-ne92.false c.if-s-at-ne117.false _ _ (scanned read_hex _ _ _ _ c.hex.ensures c.in_ok-x.was) (not_within 0xDC00 0xDFFF c.in_ok-x.x (λ l. omega arith))
