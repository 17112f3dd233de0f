-- `good`: the eight bytes before the entries are there.
use Rattle.std.proofs.Common.{sym, arith, leb-true, length}
use Rattle.common.specs.Truth.{both}
use Rattle.keytable_check.proofs.good.Goals as goal

pub number4_at-total-requires : goal.number4_at-total-requires
number4_at-total-requires c = let h = both _ _ (sym c.if-not-hold.ensures) in omega (arith, leb-true _ (length c.args.table.now) h.0)
