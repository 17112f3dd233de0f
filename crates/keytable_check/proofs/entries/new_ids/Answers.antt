-- `new_ids`: the ids before j differ.
use Rattle.std.proofs.Common.{sym, arith}
use Rattle.keytable_rules.proofs.TableLaws.{below_none, below_next, below_whole, below_fails}
use Rattle.keytable_check.proofs.entries.new_ids.Goals as goal

pub loop-j-init : goal.loop-j-init
loop-j-init c = below_none _

pub new_id-requires : goal.new_id-requires
new_id-requires c = (omega arith, omega arith, rw (← c.requires.0) c.requires.2)

pub returns-then-not-new_id : goal.returns-then-not-new_id
returns-then-not-new_id c = sym (below_fails _ c.loop-j-test.true (sym c.if-not-new_id.ensures))

pub loop-j-preserved : goal.loop-j-preserved
loop-j-preserved c = below_next _ c.loop-j.invariant (sym c.if-not-new_id.ensures)

pub returns : goal.returns
returns c = below_whole _ c.loop-j.invariant c.loop-j.auto.j-end c.loop-j-test.false
