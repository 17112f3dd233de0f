-- An entry of the first half is the value of its place.
use borrow.Author.Rules.{rules}
use Rattle.base64url_words.proofs.SignLaws.{from_32}
use Rattle.base64url_words.proofs.WideLaws.{low}
use Rattle.base64url_words.proofs.wide.Wide.low.Goals as goal

pub returns : goal.returns
returns c = rw (c.args.self.now.right, c.from.ensures, low c.args.c (search rules)) (from_32 c.args.c)
