-- `hex` meets its contract. The loop's invariant: what is right for the digits left is right for all four.
use Prim.Native.Nat.{◌+◌, ◌-◌, ◌<◌}
use Rattle.json_characters.specs.Characters.{Scan}
use Rattle.json_characters.specs.Steps.{ScanAt}
use Rattle.json_grammar_rules.specs.Reader.{read_hex}
use Rattle.json_characters.proofs.DigitLaws.{room}
use Rattle.json_characters.proofs.EscapeLaws.{read_hexes}
use Rattle.json_characters.proofs.escapes.hex.Given as goal

abbrev pub invariant-loop-at : goal.invariant-loop-at
invariant-loop-at l =
    (l.code < room 65536 16 (l.from + 4 - l.at)) × ((r : Scan) → ScanAt (read_hexes (l.from + 4 - l.at) l.code) l.s l.at r → ScanAt read_hex l.s l.from r)
