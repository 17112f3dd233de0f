-- `sha256_words::words::ch` meets its contract.
use native.Mathlib.Omega.{arith}
use Rattle.sha2_rules.proofs.WordLaws.{ch_choosing}
use Rattle.sha256_words.proofs.words.ch.Goals as goal

pub returns : goal.returns
returns c = ch_choosing 32 c.args.x c.args.y c.args.z (omega arith) (omega arith) (omega arith)
