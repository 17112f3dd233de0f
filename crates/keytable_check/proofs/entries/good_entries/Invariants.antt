-- `good_entries`: the entries before i are good.
use Rattle.std.proofs.Common.{◌≡◌, true}
use Rattle.keytable_rules.specs.Table.{below, is_good_entry}
use Rattle.keytable_check.proofs.entries.good_entries.Given as goal

abbrev pub invariant-loop-i : goal.invariant-loop-i
invariant-loop-i l = true ≡ below l.i (is_good_entry l.table)
