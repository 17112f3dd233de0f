-- `new_id`: the ids before i differ from id j.
use Rattle.std.proofs.Common.{◌≡◌, true, not}
use Rattle.common.specs.Same.{same}
use Rattle.keytable_rules.specs.Table.{below, id_of}
use Rattle.keytable_check.proofs.entries.new_id.Given as goal

abbrev pub invariant-loop-i : goal.invariant-loop-i
invariant-loop-i l = (true ≡ below l.i (λ k. not (same (id_of l.table k) (id_of l.table l.j)))) × (l.id ≡ id_of l.table l.j)
