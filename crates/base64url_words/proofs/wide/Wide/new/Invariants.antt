-- `Wide::new`: up to i, both halves of the table are filled.
use Rattle.base64url_words.proofs.WideLaws.{Filled}
use Rattle.base64url_words.proofs.wide.Wide.new.Given as goal

abbrev pub invariant-loop-i : goal.invariant-loop-i
invariant-loop-i l = Filled l.entries l.i
