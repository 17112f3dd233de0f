-- `encode_groups` meets its contract: up to i, the text of the groups is written.
use mathlib.Core.Path.{refl}
use native.Mathlib.Omega.{arith}
use Rattle.base64url_rules.specs.Base64url.{encode}
use Rattle.base64url_rules.proofs.Grouping.{chunk_at}
use Rattle.base64url_encoding.proofs.EncodeLaws.{group_more}
use Rattle.base64url_encoding.proofs.groups.encode_groups.Goals as goal

pub loop-i-init : goal.loop-i-init
unfolding encode
loop-i-init c = refl

pub loop-i-preserved : goal.loop-i-preserved
loop-i-preserved c =
    let group = chunk_at 3 _ c.loop-i.i c.args.bytes.now c.as_chunks.ensures.front (omega arith) in
    group_more c.args.bytes.now c.args.out.now c.loop-i.i (omega arith) (omega arith) group c.loop-i.invariant c.encode_group.ensures
