-- An entry of the second half is the value of its place, six bits up.
use borrow.Author.Rules.{rules}
use Rattle.base64url_words.proofs.WideLaws.{high, raised_32}
use Rattle.base64url_words.proofs.wide.Wide.up.Goals as goal

pub returns : goal.returns
returns c = rw (c.args.self.now.right, c.from.ensures, high c.args.c (search rules)) (raised_32 c.args.c)
