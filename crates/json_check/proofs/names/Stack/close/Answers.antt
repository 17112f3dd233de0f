-- `close` meets its contract.
use mathlib.Core.Path.{refl}
use native.Mathlib.Omega.{arith}
use Rattle.json_check.proofs.StackLaws.{around_none, around_some}
use Rattle.json_check.proofs.names.Stack.close.Goals as goal

pub returns-then-self-eq0 : goal.returns-then-self-eq0
returns-then-self-eq0 c = (refl, around_none _ c.if-self-eq0.true, omega (arith, c.if-self-eq0.true))

pub returns-else-self-eq0 : goal.returns-else-self-eq0
returns-else-self-eq0 c = (refl, around_some _ c.if-self-eq0.false, refl)
