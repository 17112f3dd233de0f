-- `Wide::word`: two of the entries are six bits up already.
use Rattle.base64url_words.proofs.WideLaws.{wide_word}
use Rattle.base64url_words.proofs.wide.WideTable.word.Goals as goal

pub returns : goal.returns
returns c = rw (c.up.ensures, c.low.ensures, c.up-2.ensures, c.low-2.ensures) (wide_word _ _ _ _)
