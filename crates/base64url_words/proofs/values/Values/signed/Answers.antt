-- An entry of the table is the value of its place.
use borrow.Author.Rules.{rules}
use mathlib.Core.Path.{◌≡◌}
use lib.IntN.{pos}
use lib.ListN.{get_or}
use Rattle.base64url_rules.proofs.Tables.{signed, values, entry}
use Rattle.base64url_words.proofs.SignLaws.{from_8, from_32}
use Rattle.base64url_words.proofs.values.Values.signed.Goals as goal

pub returns : goal.returns
unfolding values
returns c =
    let looked_up : get_or c.args.self.now.entries c.from.result (pos 0) ≡ signed c.args.c =
    rw (c.args.self.now.right, c.from.ensures) (entry (pos 0) signed 256 c.args.c (search rules)) in
    rw (c.from-2.ensures, looked_up, from_8 c.args.c) (from_32 c.args.c)
