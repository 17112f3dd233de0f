-- `nth_member` meets its contract. The loop's invariant: what is right for the members left is right for all.
use mathlib.Core.Path.{◌≡◌, sym, ◌∙◌}
use Prim.Native.Nat.{◌-◌}
use native.Mathlib.Omega.{arith}
use Rattle.std.proofs.lemmas.Result.{err_from_is_err_and}
use Rattle.json_members.specs.StepLaws.{entry_at_lem}
use Rattle.json_header.proofs.HeaderLaws as law
use Rattle.json_header.proofs.header.nth_member.Goals as goal

pub loop-init : goal.loop-init
loop-init c = (c.requires, λ r h. let z : c.args.k - 0 ≡ c.args.k = omega arith in rw z at h)

pub entry_at-requires : goal.entry_at-requires
entry_at-requires c = c.loop.invariant.0

pub returns-in_err-passed : goal.returns-in_err-passed
returns-in_err-passed c =
    c.loop.invariant.1 _ (law.pick_nothing _ _ _ _ ((law.none_of _ _ c.ok_or.ensures.value c.in_err-passed.was).0 ∙ c.entry_at.ensures))

pub returns-in_err-p : goal.returns-in_err-p
returns-in_err-p c =
    let p = err_from_is_err_and c.from_residual-in_err-p.result c.from_residual-in_err-p.ensures.1 in
    let e = entry_at_lem _ _ _ (law.some_of _ _ c.ok_or.ensures.value c.in_ok-passed.was ∙ c.entry_at.ensures) in
    let n = law.none_of _ _ c.ok_or-in-loop.ensures.value c.in_err-p.was in
    rw (p.1, p.2, n.1) (c.loop.invariant.1 _ (law.pick_none _ e _ (omega (arith, c.loop-test.true)) n.0))

pub loop-preserved : goal.loop-preserved
loop-preserved c =
    let e = entry_at_lem _ _ _ (law.some_of _ _ c.ok_or.ensures.value c.in_ok-passed.was ∙ c.entry_at.ensures) in
    let n = law.some_of _ _ c.ok_or-in-loop.ensures.value c.in_ok-p.was in
    ((e.later _ (sym n)).1, λ r h. c.loop.invariant.1 r (law.pick_next _ e _ _ (omega (arith, c.loop-test.true)) n h))

pub entry_at-requires-2 : goal.entry_at-requires-2
entry_at-requires-2 c = c.loop.invariant.0

pub returns-in_err-m : goal.returns-in_err-m
returns-in_err-m c =
    c.loop.invariant.1 _ (law.pick_nothing _ _ _ _ ((law.none_of _ _ c.ok_or-2.ensures.value c.in_err-m.was).0 ∙ c.entry_at-2.ensures))

pub returns : goal.returns
returns c =
    let e = entry_at_lem _ _ _ (law.some_of _ _ c.ok_or-2.ensures.value c.in_ok-m.was ∙ c.entry_at-2.ensures) in
    c.loop.invariant.1 _ (law.pick_here _ e (omega arith) c.by_kind.ensures)
