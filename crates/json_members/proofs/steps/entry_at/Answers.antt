-- `entry_at` meets its contract.
use mathlib.Core.Path.{sym, ◌∙◌}
use native.Mathlib.Omega.{arith}
use Rattle.json_string.specs.StringLaws.{stringed}
use Rattle.json_members.proofs.StepPaths as law
use Rattle.json_members.proofs.steps.entry_at.Goals as goal

pub returns-then-s-p-ne34 : goal.returns-then-s-p-ne34
returns-then-s-p-ne34 c = law.no_quote _ _ _ (omega arith) c.if-s-p-ne34.true

pub returns-in_err-q : goal.returns-in_err-q
returns-in_err-q c = c.from_residual.ensures ∙ law.no_name _ _ _ (omega arith) c.if-s-p-ne34.false (stringed _ _ c.in_err-q.was c.string_end.ensures)

pub returns-in_err-f : goal.returns-in_err-f
returns-in_err-f c =
    c.from_residual-in_err-f.ensures ∙ law.no_value _ _ _ (omega arith) c.if-s-p-ne34.false _ (stringed _ _ c.in_ok-q.was c.string_end.ensures) (sym c.in_err-f.was ∙ c.value_span.ensures)

pub spanned-next-requires : goal.spanned-next-requires
spanned-next-requires c = law.span_within _ _ _ (sym c.in_ok-f.was ∙ c.value_span.ensures)

pub overflow_sub-result : goal.overflow_sub-result
overflow_sub-result c =
    let k = law.name_end_lem _ _ 0 (omega arith) c.if-s-p-ne34.false _ (stringed _ _ c.in_ok-q.was c.string_end.ensures) in
    omega (arith, k.0)

pub returns : goal.returns
returns c =
    law.entry_is _ _ _ (omega arith) c.if-s-p-ne34.false _ (stringed _ _ c.in_ok-q.was c.string_end.ensures) (sym c.in_ok-f.was ∙ c.value_span.ensures) c.spanned-next.ensures
