-- `hmac::key_block` meets its contract.
use Rattle.std.proofs.Common.{◌∙◌, arith}
use Rattle.sha2_rules.specs.Hash.{SHA256}
use Rattle.hmac.proofs.KeyLaws.{short_key, long_key}
use Rattle.hmac.proofs.key_block.Goals as goal

pub copy_at-requires-2 : goal.copy_at-requires-2
copy_at-requires-2 c = omega arith

pub returns-then-key-gt64 : goal.returns-then-key-gt64
returns-then-key-gt64 c =
    c.copy_at.ensures ∙ long_key SHA256 64 c.args.key.now c.sha256.result c.sha256.ensures c.if-key-gt64.true

pub returns : goal.returns
returns c =
    c.copy_at-2.ensures ∙ short_key SHA256 64 c.args.key.now c.if-key-gt64.false
