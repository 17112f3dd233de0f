-- `find`: no key before i has the id.
use Rattle.std.proofs.Common.{sym, ◌∙◌, arith, below_more}
use Rattle.common.proofs.Decided.{when_true, when_false}
use Rattle.keytable_rules.specs.Key.{first, none}
use Rattle.keytable_rules.proofs.KeyLaws.{finds, finds_one}
use Rattle.keytable.proofs.KeyTable.find.Goals as goal

pub returns-then-same : goal.returns-then-same
returns-then-same c =
    let here = rw (c.key.ensures.1, c.key.ensures.0) at c.id.ensures in
    finds_one (first (record { within = omega arith; is = sym here ∙ when_true c.same.ensures c.if-same.true }) c.loop-i.invariant) (finds _ _)

pub loop-i-preserved : goal.loop-i-preserved
loop-i-preserved c =
    let here = rw (c.key.ensures.1, c.key.ensures.0) at c.id.ensures in
    below_more _ _ c.loop-i.invariant (λ e. when_false c.same.ensures c.if-same.false (here ∙ e))

pub returns : goal.returns
returns c = finds_one (none (λ j n. c.loop-i.invariant j (omega (arith, n.within)) n.is)) (finds _ _)
