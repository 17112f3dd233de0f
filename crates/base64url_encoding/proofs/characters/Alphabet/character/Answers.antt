-- An entry of the alphabet is the character of its place.
use borrow.Author.Rules.{rules}
use Rattle.base64url_rules.specs.Alphabet.{character}
use Rattle.base64url_rules.proofs.Tables.{characters, entry}
use Rattle.base64url_encoding.proofs.characters.Alphabet.character.Goals as goal

pub returns : goal.returns
unfolding characters
returns c = rw (c.args.self.now.right, c.from.ensures) (entry 0 character 64 c.args.value (search rules))
