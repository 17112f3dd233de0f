-- `allows_format`: bit f - 1 of the entry's byte 9.
use mathlib.Core.Path.{sym, ap}
use Rattle.keytable_rules.specs.Key.{allows_format}
use Rattle.keytable_rules.proofs.TableLaws.{entry}
use Rattle.keytable.proofs.KeyEntry.allows_format.Goals as goal

pub returns : goal.returns
unfolding allows_format
returns c =
    rw c.byte.ensures (ap (λ k. allows_format k c.args.f) (sym (entry _ c.args.self.table.in_order _ c.args.self.counted).means))
