-- The raw text of the member that a slot shows.
use Rattle.std.specs.Prelude.{Some, None}
use Rattle.json_rules.specs.Answers.{size_of}
use Rattle.json_members.specs.Slots.{Slot}
use Rattle.jose_rules.specs.declared.Part.{Part}
use Rattle.jose_rules.specs.Header.{nowhere}

abbrev pub raw_of : Slot → Part
raw_of None = nowhere
raw_of (Some v) = record { start = v.place.start; length = size_of v.place }
