-- `count`: the number in bytes 2 and 3.
use mathlib.Core.Path.{sym, ◌∙◌}
use native.Mathlib.Omega.{arith}
use Rattle.keytable_rules.proofs.TableLaws.{wellformed, length_keys}
use Rattle.keytable.proofs.KeyTable.count.Goals as goal

pub number2_at-requires : goal.number2_at-requires
number2_at-requires c = omega (arith, (wellformed _ c.args.self.in_order).long)

pub returns : goal.returns
returns c = c.number2_at.ensures.0 ∙ sym (length_keys _)
