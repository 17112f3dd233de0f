-- `byte`: the entry lies within the table.
use native.Mathlib.Omega.{arith}
use Rattle.keytable_rules.proofs.TableLaws.{entry}
use Rattle.keytable.proofs.KeyEntry.byte.Goals as goal

pub entry_at-requires : goal.entry_at-requires
entry_at-requires c = omega (arith, (entry _ c.args.self.table.in_order _ c.args.self.counted).within)

pub overflow_add-result : goal.overflow_add-result
overflow_add-result c = omega (arith, (entry _ c.args.self.table.in_order _ c.args.self.counted).within)

pub bounds-self-entry_at : goal.bounds-self-entry_at
bounds-self-entry_at c = omega (arith, (entry _ c.args.self.table.in_order _ c.args.self.counted).within)
