-- `split` meets its contract: each search says whether there is a further period, and what follows it.
use mathlib.Core.Path.{◌≡◌, ap, sym, ◌∙◌}
use native.Mathlib.Omega.{arith}
use Rattle.jws_rules.specs.Segments.{periods}
use Rattle.jws_segments.specs.SplitLaws.{found, no_period, some_found, not_found, rest_is, is_two, not_two}
use Rattle.jws_segments.proofs.periods.split.Goals as goal

pub returns-in_err-first : goal.returns-in_err-first
returns-in_err-first c =
    let none = no_period c.args.token.now (sym c.in_err-first.was ∙ c.first_period.ensures.place) in
    c.from_residual.ensures ∙ not_two c.args.token.now (λ e. omega arith)

pub returns-in_err-second : goal.returns-in_err-second
returns-in_err-second c =
    let first = found c.args.token.now (sym c.in_ok-first.was ∙ c.first_period.ensures.place) in
    let none = no_period _ (sym c.in_err-second.was ∙ c.first_period-2.ensures.place) in
    c.from_residual-in_err-second.ensures ∙ not_two c.args.token.now (λ e. omega (arith, ap periods (rest_is c.args.token.now first)))

pub returns-then-is_some : goal.returns-then-is_some
returns-then-is_some c =
    let first = found c.args.token.now (sym c.in_ok-first.was ∙ c.first_period.ensures.place) in
    let second = found _ (sym c.in_ok-second.was ∙ c.first_period-2.ensures.place) in
    let third = some_found _ c.first_period-3.ensures.place (sym c.is_some.ensures ∙ c.if-is_some.true) in
    not_two c.args.token.now (λ e. omega (arith, ap periods (rest_is c.args.token.now first), ap periods (rest_is _ second)))

pub returns : goal.returns
returns c =
    let first = found c.args.token.now (sym c.in_ok-first.was ∙ c.first_period.ensures.place) in
    let second = found _ (sym c.in_ok-second.was ∙ c.first_period-2.ensures.place) in
    let none = not_found _ c.first_period-3.ensures.place (sym c.is_some.ensures ∙ c.if-is_some.false) in
    let rest = rest_is c.args.token.now first in
    let two : periods c.args.token.now ≡ 2 = omega (arith, ap periods rest, ap periods (rest_is _ second)) in
    rw (first.place, second.place, rest) (is_two c.args.token.now two)
