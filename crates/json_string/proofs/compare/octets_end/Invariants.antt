-- `octets_end` meets its contract. The loop's invariant: the octets passed are those of the word.
use Prim.Native.Nat.{◌≤◌}
use Rattle.json_characters.specs.Utf8.{octets}
use Rattle.json_string.proofs.OctetLaws.{Passed}
use Rattle.json_string.proofs.compare.octets_end.Given as goal

abbrev pub invariant-loop-i : goal.invariant-loop-i
invariant-loop-i l = (l.i ≤ l.n) × Passed l.w l.at (octets l.c) l.i
