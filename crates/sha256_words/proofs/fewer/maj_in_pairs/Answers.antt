-- `sha256_words::fewer::maj_in_pairs` meets its contract.
use native.Mathlib.Omega.{arith}
use Rattle.sha2_rules.proofs.WordLaws.{maj_pairs}
use Rattle.sha256_words.proofs.fewer.maj_in_pairs.Goals as goal

pub returns : goal.returns
returns c = maj_pairs 32 c.args.x c.args.y c.args.z (omega arith) (omega arith) (omega arith)
