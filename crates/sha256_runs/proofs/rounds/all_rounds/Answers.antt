-- `sha256_runs::rounds::all_rounds` meets its contract.
use Rattle.std.proofs.Common.{◌≡◌, ◌+◌, ◌*◌, refl, arith}
use Rattle.sha2_rules.specs.Parameters.{sha_256}
use Rattle.sha2_rules.specs.Compression.{rounds}
use Rattle.sha2_rules.proofs.WovenLaws.{two_woven}
use Rattle.sha256_runs.proofs.rounds.all_rounds.Goals as goal

pub loop-turn-init : goal.loop-turn-init
unfolding rounds
loop-turn-init c = λ b h. refl

pub loop-turn-preserved : goal.loop-turn-preserved
loop-turn-preserved c = λ b h.
    let t = 2 * c.loop-turn.turn in
    let next : 2 * (c.loop-turn.turn + 1) ≡ t + 2 = omega arith in
    rw next (two_woven sha_256 b c.args.schedules.now.words c.args.value _ t c.args.l refl h c.requires (omega arith) (c.loop-turn.invariant b h) c.round_at-once.ensures c.round_at-twice.ensures)
