-- `judge`: 9 to 11, then 12 to 14.
use Rattle.std.proofs.Common.{sym}
use Rattle.std.proofs.lemmas.Result.{err_from_is_err_and}
use Rattle.answers.proofs.NumberLaws.{not_done}
use Rattle.jose_judging.proofs.KnownRules.{verdict_known, verdict_key, format_fine}
use Rattle.jose_judging.proofs.judging.judge.Goals as goal

pub returns-in_err-check_known : goal.returns-in_err-check_known
returns-in_err-check_known c =
    let p = err_from_is_err_and c.from_residual.result c.from_residual.ensures.1 in
    rw (p.1, p.2) (verdict_known _ _ _ c.in_err-check_known.ensures (not_done _))

pub judge_key-requires : goal.judge_key-requires
judge_key-requires c = (c.requires, format_fine _ _ (sym c.in_ok-check_known.ensures))

pub returns : goal.returns
returns c = verdict_key _ _ _ (sym c.in_ok-check_known.ensures) c.judge_key.ensures
