-- `names_from`. The loop's invariant: what is right for the elements from p on is right for all of them.
use mathlib.Core.Path.{sym, ◌∙◌}
use native.Mathlib.Omega.{arith}
use Rattle.common.specs.Ascii.{ascii}
use Rattle.json_members.specs.StepLaws.{item_at_lem}
use Rattle.jose_rules.specs.Names.{fmt}
use Rattle.jose_facts.proofs.CriticalNames.{names_next, names_last, names_wrong, names_nothing}
use Rattle.jose_facts.proofs.critical.names_from.Goals as goal

pub returns-in_default : goal.returns-in_default
returns-in_default c = c.loop-item.invariant.1 _ (names_nothing (sym c.in_default.is ∙ c.item_at.ensures))

pub returns-then-differ : goal.returns-then-differ
returns-then-differ c =
    c.loop-item.invariant.1 _ (names_wrong (item_at_lem _ _ _ (sym c.in-Some.is ∙ c.item_at.ensures)) (c.differ.ensures.apart c.if-differ.true))

pub loop-item-smaller : goal.loop-item-smaller
loop-item-smaller c =
    let l = (item_at_lem _ _ _ (sym c.in-Some.is ∙ c.item_at.ensures)).later _ c.in-Some-next.is in
    omega arith

pub loop-item-preserved : goal.loop-item-preserved
unfolding ascii fmt
loop-item-preserved c =
    let it = item_at_lem _ _ _ (sym c.in-Some.is ∙ c.item_at.ensures) in
    let y = c.differ.ensures.alike c.if-differ.false in
    ((it.later _ c.in-Some-next.is).1, λ r w. c.loop-item.invariant.1 r (names_next it y c.is_word.ensures _ c.after-listed.ensures c.in-Some-next.is w))

pub returns-in_default-next : goal.returns-in_default-next
unfolding ascii fmt
returns-in_default-next c =
    let it = item_at_lem _ _ _ (sym c.in-Some.is ∙ c.item_at.ensures) in
    let y = c.differ.ensures.alike c.if-differ.false in
    c.loop-item.invariant.1 _ (names_last it y c.is_word.ensures _ c.after-listed.ensures c.in_default-next.is)
