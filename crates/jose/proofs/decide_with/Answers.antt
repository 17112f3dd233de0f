-- `decide_with`: the header is read, and its facts are judged.
use Rattle.std.proofs.Common.{sym, arith}
use Rattle.std.proofs.lemmas.Result.{err_from_is_err_and}
use Rattle.jose_judging.specs.JudgingLaws.{key_within}
use Rattle.jose.proofs.HeaderLaws.{decision_unread, decision_judged}
use Rattle.jose.proofs.decide_with.Goals as goal

pub returns-in_err-known : goal.returns-in_err-known
returns-in_err-known c =
    let p = err_from_is_err_and c.from_residual.result c.from_residual.ensures.1 in
    rw (p.1, p.2) (decision_unread _ _ _ c.in_err-known.ensures.refused)

pub facts_of-facts-requires : goal.facts_of-facts-requires
facts_of-facts-requires c = (omega arith, record { members = _; shows = c.in_ok-known.ensures.shown })

pub judge-requires : goal.judge-requires
judge-requires c = key_within _ _ (c.facts_of-facts.ensures.is _ c.in_ok-known.ensures.shown)

pub returns-in_err-taken : goal.returns-in_err-taken
returns-in_err-taken c =
    let p = err_from_is_err_and c.from_residual-in_err-taken.result c.from_residual-in_err-taken.ensures.1 in
    let facts = c.facts_of-facts.ensures.is _ c.in_ok-known.ensures.shown in
    rw (p.1, p.2) (decision_judged _ _ (sym c.in_ok-known.ensures.refused) c.in_ok-known.ensures.shown facts c.in_err-taken.ensures)

pub returns : goal.returns
returns c =
    let facts = c.facts_of-facts.ensures.is _ c.in_ok-known.ensures.shown in
    rw (c.raw.ensures, c.raw-2.ensures) (decision_judged _ _ (sym c.in_ok-known.ensures.refused) c.in_ok-known.ensures.shown facts c.in_ok-taken.ensures)
