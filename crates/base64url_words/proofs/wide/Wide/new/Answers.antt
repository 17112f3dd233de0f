-- `Wide::new`: up to i, both halves of the table are filled.
use mathlib.Core.Path.{refl}
use native.Mathlib.Omega.{arith}
use native.Mathlib.Nat.{not-suc-le-zero}
use Rattle.base64url_words.proofs.SignLaws.{from_32}
use Rattle.base64url_words.proofs.WideLaws.{one_more, filled}
use Rattle.base64url_words.proofs.wide.Wide.new.Goals as goal

pub loop-i-init : goal.loop-i-init
loop-i-init c = record { size = refl; values = λ k h. absurd (not-suc-le-zero h); shifts = λ k h. absurd (not-suc-le-zero h) }

pub loop-i-preserved : goal.loop-i-preserved
loop-i-preserved c =
    one_more c.loop-i.entries c.loop-i.i c.loop-i.invariant (omega arith) (rw c.signed-value.ensures (from_32 c.loop-i.i)) (rw c.signed-value.ensures)

pub invariant_of-result : goal.invariant_of-result
invariant_of-result c = record { right = filled _ c.loop-i.invariant (omega arith) }
