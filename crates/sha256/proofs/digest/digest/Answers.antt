-- `sha256::digest::digest` meets its contract.
use Rattle.std.proofs.Common.{◌≡◌, ◌*◌, length, refl, ap, sym, ◌∙◌, arith, take_all}
use Rattle.std.proofs.Math.Seq.{length-paste}
use Rattle.common.specs.BigEndianLaws.{length_big_endian}
use Rattle.sha2_rules.specs.Hash.{word_bytes}
use Rattle.sha2_rules.proofs.ValueLaws.{one_word_bytes}
use Rattle.sha256.proofs.Bytes.{bytes_of}
use Rattle.sha256.proofs.digest.digest.Goals as goal

pub loop-i-init : goal.loop-i-init
unfolding word_bytes
loop-i-init c = record { size = omega arith; words = refl }

pub loop-i-preserved : goal.loop-i-preserved
loop-i-preserved c =
    let b = c.to_be_bytes.result in
    let e = c.to_be_bytes.ensures ∙ bytes_of 4 _ in
    let l : length b ≡ 4 = ap length e ∙ length_big_endian 4 _ in
    record {
      size = ap length c.copy_at.ensures ∙ length-paste c.loop-i.digest (c.loop-i.i * 4) b (length b) (omega arith) (omega arith) ∙ c.loop-i.invariant.size;
      words = one_word_bytes 4 _ b c.loop-i.digest _ c.loop-i.i (omega arith) c.loop-i.invariant.words e c.copy_at.ensures;
    }

pub returns : goal.returns
returns c =
    let e : c.loop-i.i ≡ 8 = omega arith in
    sym (take_all 32 c.loop-i.digest (omega arith)) ∙ (rw e at c.loop-i.invariant.words)
