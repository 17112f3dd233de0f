-- `sign` meets its contract: past the result's length the buffer is cleared.
use mathlib.Core.Path.{◌≡◌, ◌∙◌}
use Rattle.jws_rules.specs.Calls.{sign_call}
use Rattle.jws_rules.specs.Results.{sign_result}
use Rattle.jws_rules.specs.Tests.{signed}
use Rattle.jws_signing.proofs.WrittenLaws.{reaches, settled}
use Rattle.jws_signing.proofs.sign.Goals as goal

pub returns : goal.returns
returns c =
    let e : c.unwrap_or-n.result ≡ (sign_result c.make-made.result).length = c.unwrap_or-n.ensures ∙ reaches c.make-made.result in
    rw e
    (settled (signed (sign_call c.args.header.now c.args.payload.now c.args.table.now c.args.token.now)) c.args.token.now c.make-made.new.token c.zero.new.b
    c.make-made.ensures (rw e at c.zero.ensures))
