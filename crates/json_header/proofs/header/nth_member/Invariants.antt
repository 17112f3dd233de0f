-- `nth_member` meets its contract. The loop's invariant: what is right for the members left is right for all.
use Prim.Native.Nat.{◌-◌, ◌<◌}
use lib.ListN.{length}
use Rattle.json_rules.specs.Answers.{Member}
use Rattle.json_header.specs.Picks.{Picks}
use Rattle.json_header.proofs.header.nth_member.Given as goal

abbrev pub invariant-loop : goal.invariant-loop
invariant-loop l = (l.p < length l.s) × ((r : Member) → Picks l.s l.p l.depth (l.k - l.counter) r → Picks l.s l.from l.depth l.k r)
