-- `octets_end` meets its contract. The loop's invariant: the octets passed are those of the word.
use mathlib.Core.Path.{sym, ◌∙◌}
use native.Mathlib.Omega.{arith}
use Rattle.json_characters.specs.Octets.{octets_in_lem}
use Rattle.json_string.proofs.OctetLaws.{passed_none, passed_next, octet_at, octets_short, octets_differ, octets_all}
use Rattle.json_string.proofs.compare.octets_end.Goals as goal

pub returns-then-w-at : goal.returns-then-w-at
returns-then-w-at c = octets_short _ _ _ (omega (arith, (octets_in_lem c.octets_of-o.ensures).long))

pub loop-i-init : goal.loop-i-init
loop-i-init c = (omega arith, passed_none _ _ _)

pub bounds-bytes-i : goal.bounds-bytes-i
bounds-bytes-i c = omega (arith, (octets_in_lem c.octets_of-o.ensures).few)

pub returns-then-w-at-2 : goal.returns-then-w-at-2
returns-then-w-at-2 c =
    octets_differ _ _ _ _ c.loop-i.invariant.1 (omega (arith, (octets_in_lem c.octets_of-o.ensures).long)) (omega arith) (λ e. c.if-w-at-2.true (e ∙ (octet_at _ _ _ _ (octets_in_lem c.octets_of-o.ensures).are c.loop-i-test.true)))

pub loop-i-preserved : goal.loop-i-preserved
loop-i-preserved c =
    (omega arith, passed_next _ _ _ _ c.loop-i.invariant.1 (omega (arith, (octets_in_lem c.octets_of-o.ensures).long)) (omega arith) (c.if-w-at-2.false ∙ sym (octet_at _ _ _ _ (octets_in_lem c.octets_of-o.ensures).are c.loop-i-test.true)))

pub returns : goal.returns
returns c = octets_all _ _ _ _ c.loop-i.invariant.1 _ (omega arith) (octets_in_lem c.octets_of-o.ensures).long (omega arith)
