-- `tails` meets its contract. The loop's invariant: what is right for the octets left is right for all; the bits so far leave room for those left.
use Prim.Native.Nat.{◌+◌, ◌-◌, ◌≤◌, ◌<◌}
use lib.ListN.{length}
use Rattle.json_characters.specs.Characters.{Scan}
use Rattle.json_characters.specs.Steps.{ScanAt, read_tails}
use Rattle.json_characters.proofs.DigitLaws.{room}
use Rattle.json_characters.proofs.utf8.tails.Given as goal

abbrev pub invariant-loop-at : goal.invariant-loop-at
invariant-loop-at l =
    (l.at ≤ length l.s) × (0x80 ≤ l.low) × (l.high ≤ 0xBF) × (l.code < room 8388608 64 (l.from + l.n - l.at))
    × ((r : Scan) → ScanAt (read_tails (l.from + l.n - l.at) l.low l.high l.code) l.s l.at r → ScanAt (read_tails l.n l.lo l.hi l.x) l.s l.from r)
