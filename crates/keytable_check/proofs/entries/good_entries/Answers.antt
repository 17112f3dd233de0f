-- `good_entries`: the entries before i are good.
use Rattle.std.proofs.Common.{sym}
use Rattle.keytable_rules.proofs.TableLaws.{below_none, below_next, below_whole, below_fails}
use Rattle.keytable_check.proofs.entries.good_entries.Goals as goal

pub loop-i-init : goal.loop-i-init
loop-i-init c = below_none _

pub returns-then-not-good_entry : goal.returns-then-not-good_entry
returns-then-not-good_entry c = sym (below_fails _ c.loop-i-test.true (sym c.if-not-good_entry.ensures))

pub loop-i-preserved : goal.loop-i-preserved
loop-i-preserved c = below_next _ c.loop-i.invariant (sym c.if-not-good_entry.ensures)

pub returns : goal.returns
returns c = below_whole _ c.loop-i.invariant c.loop-i.auto.i-end c.loop-i-test.false
