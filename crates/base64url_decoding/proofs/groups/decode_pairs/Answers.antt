-- `decode_pairs` meets its contract: up to i, the pairs of groups are strict and their bytes are written.
use mathlib.Core.Path.{ap, sym, ◌∙◌}
use Prim.Native.Nat.{◌+◌, ◌-◌, ◌*◌}
use native.Mathlib.Omega.{arith}
use Rattle.base64url_rules.proofs.Grouping.{chunk_at}
use Rattle.base64url_words.specs.Words.{grouped}
use Rattle.base64url_decoding.proofs.DecodeLaws.{nothing, one_more, refused}
use Rattle.base64url_decoding.proofs.groups.decode_pairs.Goals as goal

pub loop-i-init : goal.loop-i-init
loop-i-init g c = nothing _

pub returns-in_default : goal.returns-in_default
returns-in_default g c =
    let pair = chunk_at 8 _ c.loop-i.i c.args.text.now c.as_chunks.ensures.front (omega arith) in
    refused c.args.text.now c.args.out.now c.loop-i.out c.loop-i.i (omega arith) c.loop-i.invariant (sym c.in_default.is ∙ c.two_groups.ensures ∙ ap grouped pair)

pub loop-i-preserved : goal.loop-i-preserved
loop-i-preserved g c =
    let pair = chunk_at 8 _ c.loop-i.i c.args.text.now c.as_chunks.ensures.front (omega arith) in
    one_more c.args.text.now c.args.out.now c.loop-i.out c.loop-i.i (omega arith) c.loop-i.invariant (omega arith) (sym c.in-Some.is ∙ c.two_groups.ensures ∙ ap grouped pair)
