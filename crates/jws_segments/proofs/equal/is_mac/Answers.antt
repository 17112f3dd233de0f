-- `is_mac` meets its contract: nothing differs just where all bytes are equal.
use Rattle.common.proofs.Decided.{decided}
use Rattle.common.proofs.FirstLaws.{decides_eq, decides_iff}
use Rattle.common.proofs.SameLaws.{decides_same}
use Rattle.jws_segments.proofs.equal.is_mac.Goals as goal

pub returns-in-Some : goal.returns-in-Some
returns-in-Some c =
    rw c.in-Some.is
    (decided (decides_iff c.differences.ensures.0 c.differences.ensures.1 (decides_eq c.differences.result 0)) (decides_same c.in-Some.bytes c.args.mac.now))
