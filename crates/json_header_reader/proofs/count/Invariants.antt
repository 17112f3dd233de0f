-- The reader holds the header, and stands at a member or where they end.
use Rattle.std.proofs.Common.{◌≡◌, ◌-◌, ◌≤◌}
use Rattle.json_header_reader.specs.CountLaws.{total}
use Rattle.json_header_reader.proofs.count.Given as goal

abbrev pub invariant-loop-refusal : goal.invariant-loop-refusal
invariant-loop-refusal l = (l.reader.header.now ≡ l.header) × (l.reader.at ≤ total l.header)

abbrev pub decreases-loop-refusal : goal.decreases-loop-refusal
decreases-loop-refusal l = total l.header - l.reader.at
