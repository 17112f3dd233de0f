-- `new_ids`: the ids before j differ.
use Rattle.std.proofs.Common.{◌≡◌, true}
use Rattle.keytable_rules.specs.Table.{below, is_new_id}
use Rattle.keytable_check.proofs.entries.new_ids.Given as goal

abbrev pub invariant-loop-j : goal.invariant-loop-j
invariant-loop-j l = true ≡ below l.j (is_new_id l.table)
