-- `make` meets its contract: the header and the table decide, and then the finished length.
use mathlib.Core.Path.{refl, ap, ◌∙◌}
use mathlib.Core.List.{List}
use Prim.Native.Nat.{ℕ}
use lib.ListN.{length}
use Rattle.std.proofs.lemmas.Result.{err_from_is_err_and}
use Rattle.jws_rules.specs.Calls.{sign_call}
use Rattle.jws_signing.specs.Written.{finished}
use Rattle.jws_signing.proofs.SignLaws.{head_refuses, head_passes}
use Rattle.jws_signing.proofs.WrittenLaws.{refuse, same_outcome}
use Rattle.jws_signing.proofs.making.make.Goals as goal

pub returns-in_err-choice : goal.returns-in_err-choice
returns-in_err-choice c =
    let e = head_refuses (sign_call c.args.header.now c.args.payload.now c.args.table.now c.args.token.now) (rw c.in_err-choice.was at c.decide.ensures) in
    let p = err_from_is_err_and c.from_residual.result c.from_residual.ensures.1 in
    rw (p.1, p.2) (refuse _ e refl refl)

pub invariant_of-table : goal.invariant_of-table
invariant_of-table c =
    let p = head_passes (sign_call c.args.header.now c.args.payload.now c.args.table.now c.args.token.now) (rw c.in_ok-choice.was at c.decide.ensures) in
    record { in_order = p.table }

pub key-requires : goal.key-requires
key-requires c = (head_passes (sign_call c.args.header.now c.args.payload.now c.args.table.now c.args.token.now) (rw c.in_ok-choice.was at c.decide.ensures)).index

pub finish-requires : goal.finish-requires
finish-requires c = (head_passes (sign_call c.args.header.now c.args.payload.now c.args.table.now c.args.token.now) (rw c.in_ok-choice.was at c.decide.ensures)).short

pub returns : goal.returns
returns c =
    let p = head_passes (sign_call c.args.header.now c.args.payload.now c.args.table.now c.args.token.now) (rw c.in_ok-choice.was at c.decide.ensures) in
    same_outcome
    (ap (λ (s : List ℕ). finished s c.args.header.now c.args.payload.now (length c.args.token.now)) (rw (c.key.ensures.1, c.key.ensures.0) at c.secret.ensures) ∙ p.left)
    c.finish.ensures
