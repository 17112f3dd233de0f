-- `parse`: the answer is that of the digits after the sign.
use Rattle.std.proofs.Common.{rules, ap, ◌≡◌, ◌∙◌, Some, arith, w64, get_or}
use mir.ValLaws.{to_z-of_z, to_z_pos}
use Rattle.decimal.proofs.Laws.{with_minus, without, empty, at_most}
use Rattle.decimal.proofs.parse.Goals.{in_default-via-then-text-lt1, in_default-via-else-text-lt1+in_default-1}
use Rattle.decimal.proofs.parse.Goals as goal

pub returns-in_err-m : goal.returns-in_err-m
returns-in_err-m c = rw c.from_residual.ensures (with_minus _ (search rules) (search rules) c.in_err-m.ensures)

pub negated-requires : goal.negated-requires
negated-requires c = at_most _ _ c.in_ok-m.ensures

pub returns-in_err-m-2 : goal.returns-in_err-m-2
returns-in_err-m-2 c =
    let other : get_or c.args.text.now 0 0 ≡ 45 → ⊥ =
    elim c.in_default.branch [ in_default-via-then-text-lt1 w ↦ search (rules, empty) | in_default-via-else-text-lt1+in_default-1 w ↦ search rules ] in
    rw c.from_residual-in_err-m-2.ensures (without _ other c.in_err-m-2.ensures)

pub overflow_cast-result : goal.overflow_cast-result
overflow_cast-result c = let h = at_most _ _ c.in_ok-m-2.ensures in search rules

pub returns-in_ok-m : goal.returns-in_ok-m
returns-in_ok-m c =
    ap Some (to_z-of_z w64 _ (record { sfits = c.negated.type_inv }) ∙ c.negated.ensures)
    ∙ with_minus _ (search rules) (search rules) c.in_ok-m.ensures

pub returns-in_ok-m-2 : goal.returns-in_ok-m-2
returns-in_ok-m-2 c =
    let h = at_most _ _ c.in_ok-m-2.ensures in
    let other : get_or c.args.text.now 0 0 ≡ 45 → ⊥ =
    elim c.in_default.branch [ in_default-via-then-text-lt1 w ↦ search (rules, empty) | in_default-via-else-text-lt1+in_default-1 w ↦ search rules ] in
    ap Some (to_z_pos w64 _ (omega arith)) ∙ without _ other c.in_ok-m-2.ensures
