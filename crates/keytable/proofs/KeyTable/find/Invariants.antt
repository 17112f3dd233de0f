-- `find`: no key before i has the id.
use Rattle.std.proofs.Common.{◌≡◌, ℕ, ◌<◌}
use Rattle.keytable_rules.specs.Key.{key}
use Rattle.keytable_rules.specs.Table.{keys}
use Rattle.keytable.proofs.KeyTable.find.Given as goal

abbrev pub invariant-loop-i : goal.invariant-loop-i
invariant-loop-i l = (k : ℕ) → k < l.i → (key (keys l.self.bytes.now) k).id ≡ l.wanted → ⊥
