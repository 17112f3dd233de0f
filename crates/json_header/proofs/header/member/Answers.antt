-- `member` meets its contract.
use mathlib.Core.Path.{refl, sym, ◌∙◌}
use Rattle.std.proofs.lemmas.Result.{err_from_is_err_and}
use Rattle.json_members.specs.StepLaws.{top_members_lem}
use Rattle.json_header.proofs.HeaderLaws as law
use Rattle.json_header.proofs.header.member.Goals as goal

pub returns-in_err-check : goal.returns-in_err-check
returns-in_err-check c =
    let p = err_from_is_err_and c.from_residual.result c.from_residual.ensures.1 in
    rw (p.1, p.2) (law.member_refused _ _ _ refl c.in_err-check.ensures)

pub returns-in_err-first : goal.returns-in_err-first
returns-in_err-first c =
    let p = err_from_is_err_and c.from_residual-in_err-first.result c.from_residual-in_err-first.ensures.1 in
    let n = law.none_of _ _ c.ok_or.ensures.value c.in_err-first.was in
    rw (p.1, p.2, n.1) (law.member_none _ _ c.in_ok-check.ensures (law.tops _ (n.0 ∙ c.top_members.ensures)))

pub nth_member-requires : goal.nth_member-requires
nth_member-requires c = (top_members_lem _ c.top_members.ensures).within _ (sym (law.some_of _ _ c.ok_or.ensures.value c.in_ok-first.was))

pub returns : goal.returns
returns c =
    law.member_picked _ _ c.in_ok-check.ensures (law.tops _ (law.some_of _ _ c.ok_or.ensures.value c.in_ok-first.was ∙ c.top_members.ensures)) c.nth_member.ensures
