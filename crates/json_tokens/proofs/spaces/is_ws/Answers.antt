-- `is_ws` meets its contract.
use Rattle.std.proofs.Common.{rules}
use Rattle.std.proofs.lemmas.Grind.{common_steps}
use native.Mathlib.Omega.{arith}
use Rattle.json_tokens.proofs.SkipLaws.{ws_yes, ws_no}
use Rattle.json_tokens.proofs.spaces.is_ws.Goals as goal

pub returns-in-32 : goal.returns-in-32
returns-in-32 c = ws_yes _ (λ n m l. omega arith)

pub returns-in-32-2 : goal.returns-in-32-2
returns-in-32-2 c = ws_yes _ (λ n m l. omega arith)

pub returns-in_default : goal.returns-in_default
returns-in_default c = ws_no _ (λ e. omega arith) (λ e. omega arith) (λ e. omega arith) (λ e. omega arith)

pub returns-in_default-2 : goal.returns-in_default-2
returns-in_default-2 c = ws_no _ (λ e. grind (arith, common_steps)) (λ e. omega arith) (λ e. omega arith) (λ e. search rules)
