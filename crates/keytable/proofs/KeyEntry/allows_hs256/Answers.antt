-- `allows_hs256`: bit 0 of the entry's byte 8.
use mathlib.Core.Path.{sym, ap, ◌∙◌}
use Prim.Native.Nat.{◌%◌}
use native.Mathlib.Nat.{div-one}
use lib.Dec.{eqb}
use Rattle.keytable_rules.specs.Key.{allows_hs256}
use Rattle.keytable_rules.proofs.TableLaws.{entry}
use Rattle.keytable.proofs.KeyEntry.allows_hs256.Goals as goal

pub returns : goal.returns
unfolding allows_hs256
returns c =
    ap (λ x. eqb (x % 2) 1) (c.byte.ensures ∙ sym (div-one _)) ∙ ap allows_hs256 (sym (entry _ c.args.self.table.in_order _ c.args.self.counted).means)
