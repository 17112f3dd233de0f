-- `sha256::padding::last_blocks` meets its contract.
use Rattle.std.proofs.Common.{◌-◌, ◌*◌, length, refl, ap, ◌∙◌, arith, length-set}
use Rattle.common.specs.BigEndianLaws.{length_big_endian}
use Rattle.sha2_rules.specs.Parameters.{sha_256}
use Rattle.sha2_rules.proofs.PaddedLaws.{modulo, ends, last}
use Rattle.sha256.proofs.Bytes.{bytes_of}
use Rattle.sha256.proofs.padding.last_blocks.Goals as goal

pub overflow_sub-end : goal.overflow_sub-end
overflow_sub-end c =
    omega (arith, ends sha_256 c.args.rest.now c.args.total (omega arith) c.requires.0)

pub copy_at-requires-2 : goal.copy_at-requires-2
copy_at-requires-2 c =
    simp length-set (omega (arith, ends sha_256 c.args.rest.now c.args.total (omega arith) c.requires.0, ap length (c.to_be_bytes.ensures ∙ bytes_of 8 _) ∙ length_big_endian 8 _))

pub returns : goal.returns
returns c =
    last sha_256 128 c.args.total (c.args.end - 8) c.args.end c.args.rest.now _ _ _ c.requires.1 (omega (arith, ends sha_256 c.args.rest.now c.args.total (omega arith) c.requires.0)) refl
    (c.to_be_bytes.ensures ∙ bytes_of 8 _ ∙ modulo 8 (c.args.total * 8)) c.copy_at.ensures c.copy_at-2.ensures
