-- `id`: that of the entry.
use mathlib.Core.Path.{sym, ap, ◌∙◌}
use native.Mathlib.Omega.{arith}
use Rattle.keytable_rules.specs.Key.{Key}
use Rattle.keytable_rules.proofs.TableLaws.{entry}
use Rattle.keytable.proofs.KeyEntry.id.Goals as goal

pub id_of-requires : goal.id_of-requires
id_of-requires c = let n = entry _ c.args.self.table.in_order _ c.args.self.counted in (omega (arith, n.within), n.good.id.ends)

pub returns : goal.returns
returns c = c.id_of.ensures ∙ ap (λ (k : Key). k.id) (sym (entry _ c.args.self.table.in_order _ c.args.self.counted).means)
