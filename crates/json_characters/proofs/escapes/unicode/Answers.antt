-- `unicode` meets its contract.
use native.Mathlib.Omega.{arith}
use Rattle.json_grammar_rules.specs.Bytes.{is_high, is_low}
use Rattle.json_grammar_rules.specs.Reader.{read_hex}
use Rattle.json_grammar_rules.proofs.ByteLaws.{within_is}
use Rattle.json_characters.proofs.ClassLaws.{not_within}
use Rattle.json_characters.proofs.ScanLaws.{scanned, scan_after}
use Rattle.json_characters.proofs.EscapeLaws.{unicode_no_hex, unicode_high, unicode_low, unicode_is}
use Rattle.json_characters.proofs.escapes.unicode.Goals as goal

pub returns-in_err-x : goal.returns-in_err-x
returns-in_err-x c = rw c.from_residual.ensures (unicode_no_hex _ _ (scanned read_hex _ _ _ _ c.hex.ensures c.in_err-x.was))

pub low-requires : goal.low-requires
unfolding is_high
low-requires c =
    ((scan_after read_hex _ _ _ _ (scanned read_hex _ _ _ _ c.hex.ensures c.in_ok-x.was)).1, within_is 0xD800 0xDBFF c.in_ok-x.x (omega arith) (omega arith))

pub returns-in-55296-to-56319 : goal.returns-in-55296-to-56319
unfolding is_high
returns-in-55296-to-56319 c =
    unicode_high _ _ _ _ (scanned read_hex _ _ _ _ c.hex.ensures c.in_ok-x.was) _ (within_is 0xD800 0xDBFF c.in_ok-x.x (omega arith) (omega arith)) c.low.ensures

pub returns-in-56320-to-57343 : goal.returns-in-56320-to-57343
unfolding is_high is_low
returns-in-56320-to-57343 c =
    unicode_low _ _ _ _ (scanned read_hex _ _ _ _ c.hex.ensures c.in_ok-x.was) (not_within 0xD800 0xDBFF c.in_ok-x.x (λ l. omega arith)) (within_is 0xDC00 0xDFFF c.in_ok-x.x (omega arith) (omega arith))

pub returns-in_default : goal.returns-in_default
unfolding is_high is_low
returns-in_default c =
    unicode_is _ _ _ _ (scanned read_hex _ _ _ _ c.hex.ensures c.in_ok-x.was) (not_within 0xD800 0xDBFF c.in_ok-x.x (λ l. omega arith)) (not_within 0xDC00 0xDFFF c.in_ok-x.x (λ l. omega arith))

pub returns-in_default-2 : goal.returns-in_default-2
unfolding is_high is_low
returns-in_default-2 c =
    unicode_is _ _ _ _ (scanned read_hex _ _ _ _ c.hex.ensures c.in_ok-x.was) (not_within 0xD800 0xDBFF c.in_ok-x.x (λ l. omega arith)) (not_within 0xDC00 0xDFFF c.in_ok-x.x (λ l. omega arith))
