-- `judge_segments` meets its contract: rules 4 to 6 refuse, or the header is judged.
use mathlib.Core.Path.{◌≡◌, refl}
use Rattle.std.proofs.Common.{◌∙◌, sym}
use Rattle.std.proofs.lemmas.Result.{err_from_is_err_and}
use Rattle.answers.specs.Numbers.{number}
use Rattle.answers.proofs.NumberLaws.{not_done}
use Rattle.common.specs.First.{first}
use Rattle.jws_rules.specs.Calls.{verify_call}
use Rattle.jws_segments.specs.OpenLaws.{opens, not_opened}
use Rattle.jws.specs.Judging.{tests_of}
use Rattle.jws.proofs.JudgeLaws as law
use Rattle.jws.proofs.judging.judge_segments.Goals as goal

pub returns-in_default : goal.returns-in_default
returns-in_default c =
    let v = verify_call c.args.token.now c.args.table.bytes.now c.args.header.now c.args.payload.now in
    law.refused_strict v (law.parts_not v c.requires (not_opened _ _ _ _ _ c.open_segments-segments.ensures (sym c.in_default.is ∙ c.strict.ensures))) refl

pub returns-in_err-lengths_fit : goal.returns-in_err-lengths_fit
returns-in_err-lengths_fit c =
    let v = verify_call c.args.token.now c.args.table.bytes.now c.args.header.now c.args.payload.now in
    let s = law.parts_open v c.requires (opens _ _ _ _ _ c.open_segments-segments.ensures (sym c.in-Some.is ∙ c.strict.ensures)) in
    let n : number c.in_err-lengths_fit.field-0.0 ≡ first (tests_of c.in-Some.opened v.header_room v.payload_room) =
    rw (← c.open_segments-segments.auto.header, ← c.open_segments-segments.auto.payload) c.in_err-lengths_fit.ensures in
    let p = err_from_is_err_and c.from_residual.result c.from_residual.ensures.1 in
    rw (p.1, p.2) (law.refused_segments v s n (not_done c.in_err-lengths_fit.field-0.0) refl)

pub returns : goal.returns
returns c =
    let v = verify_call c.args.token.now c.args.table.bytes.now c.args.header.now c.args.payload.now in
    let s = law.parts_open v c.requires (opens _ _ _ _ _ c.open_segments-segments.ensures (sym c.in-Some.is ∙ c.strict.ensures)) in
    let n : 0 ≡ first (tests_of c.in-Some.opened v.header_room v.payload_room) =
    rw (← c.open_segments-segments.auto.header, ← c.open_segments-segments.auto.payload) c.in_ok-lengths_fit.ensures in
    law.judged_header v s n refl c.requires c.judge_header.ensures
