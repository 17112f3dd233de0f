-- `secret`: the area four bytes into the entry.
use mathlib.Core.Path.{sym, ap, ◌∙◌}
use native.Mathlib.Omega.{arith}
use Rattle.keytable_rules.specs.Key.{Key}
use Rattle.keytable_rules.proofs.TableLaws.{entry}
use Rattle.keytable.proofs.KeyEntry.secret.Goals as goal

pub entry_at-requires : goal.entry_at-requires
entry_at-requires c = omega (arith, (entry _ c.args.self.table.in_order _ c.args.self.counted).within)

pub area-requires : goal.area-requires
area-requires c =
    let n = entry _ c.args.self.table.in_order _ c.args.self.counted in
    rw c.entry_at.ensures (omega (arith, n.within), n.good.secret.ends)

pub returns : goal.returns
returns c =
    let n = entry _ c.args.self.table.in_order _ c.args.self.counted in
    rw c.entry_at.ensures at c.area.ensures ∙ ap (λ (k : Key). k.secret) (sym n.means)
