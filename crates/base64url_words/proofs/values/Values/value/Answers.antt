-- `value` meets its contract: the sign tells whether the character is of the alphabet.
use borrow.Author.Rules.{rules}
use mathlib.Core.Path.{◌∙◌}
use Rattle.base64url_words.proofs.SignLaws.{from_32, unsigned}
use Rattle.base64url_words.proofs.values.Values.value.Goals as goal

pub returns : goal.returns
returns c = c.unwrap_or.ensures ∙ unsigned c.args.c c.try_from.result (search rules) (rw (c.signed.ensures, from_32 c.args.c) at c.try_from.ensures)
