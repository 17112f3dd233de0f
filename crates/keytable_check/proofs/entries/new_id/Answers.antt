-- `new_id`: the ids before i differ from id j.
use Rattle.std.proofs.Common.{◌≡◌, Bool, not, List, ℕ, sym, ap, ◌∙◌, arith}
use Rattle.common.specs.First.{Decides}
use Rattle.common.specs.Same.{same}
use Rattle.common.proofs.Decided.{decided}
use Rattle.common.proofs.SameLaws.{decides_same}
use Rattle.keytable_rules.proofs.TableLaws.{below_none, below_next, below_whole, below_fails, entries_good}
use Rattle.keytable_check.proofs.entries.new_id.Goals as goal

-- equal bytes, as the table's test
told : {a b x y : List ℕ} {r : Bool} → Decides (a ≡ b) r → a ≡ x → b ≡ y → r ≡ same x y
told d e f = rw (← e, ← f) (decided d (decides_same _ _))

pub id_of-id-requires : goal.id_of-id-requires
id_of-id-requires c = (omega arith, (entries_good _ _ c.requires.2 _ c.requires.0).id.ends)

pub loop-i-init : goal.loop-i-init
loop-i-init c = (below_none _, c.id_of-id.ensures)

pub id_of-requires : goal.id_of-requires
id_of-requires c = (omega arith, (entries_good _ _ c.requires.2 c.loop-i.i (omega arith)).id.ends)

pub returns-then-same : goal.returns-then-same
returns-then-same c = sym (below_fails _ c.loop-i-test.true (ap not (sym (told c.same.ensures c.id_of.ensures c.loop-i.invariant.1) ∙ c.if-same.true)))

pub loop-i-preserved : goal.loop-i-preserved
loop-i-preserved c = (below_next _ c.loop-i.invariant.0 (ap not (sym (told c.same.ensures c.id_of.ensures c.loop-i.invariant.1) ∙ c.if-same.false)), c.loop-i.invariant.1)

pub returns : goal.returns
returns c = below_whole _ c.loop-i.invariant.0 c.loop-i.auto.i-end c.loop-i-test.false
