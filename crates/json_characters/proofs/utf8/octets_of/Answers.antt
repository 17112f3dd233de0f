-- `octets_of` meets its contract.
use mathlib.Core.Path.{refl, ap}
use Rattle.json_characters.specs.Octets.{holding}
use Rattle.json_characters.proofs.OctetLaws.{one_octet, two_octets, three_octets, four_octets}
use Rattle.json_characters.proofs.utf8.octets_of.Goals as goal

pub returns-then-c-le127 : goal.returns-then-c-le127
returns-then-c-le127 c = let e = one_octet _ _ c.if-c-le127.true refl in ap holding e

pub returns-then-c-le2047 : goal.returns-then-c-le2047
returns-then-c-le2047 c = let e = two_octets _ _ _ c.if-c-le127.false c.if-c-le2047.true refl c.tail_octet.ensures in ap holding e

pub returns-then-c-le65535 : goal.returns-then-c-le65535
returns-then-c-le65535 c =
    let e = three_octets _ _ _ _ c.if-c-le2047.false c.if-c-le65535.true refl c.tail_octet-then-c-le65535.ensures c.tail_octet-then-c-le65535-2.ensures in ap holding e

pub returns : goal.returns
returns c =
    let e = four_octets _ _ _ _ _ c.if-c-le65535.false refl c.tail_octet-2.ensures c.tail_octet-3.ensures c.tail_octet-4.ensures in ap holding e
