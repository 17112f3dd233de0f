-- `both` meets its contract.
use borrow.Author.Rules.{rules}
use Prim.{tt}
use mir.Syntax.{w32}
use mir.ValLaws.{of_z_fits}
use Rattle.base64url_words.proofs.WordLaws.{both_refused, first_number, second_number, both_taken}
use Rattle.base64url_words.proofs.words.both.Goals as goal

pub returns-then-x-y-lt0 : goal.returns-then-x-y-lt0
returns-then-x-y-lt0 c = both_refused c.args.x c.args.y c.if-x-y-lt0.true

pub overflow_cast-result : goal.overflow_cast-result
overflow_cast-result c = rw (first_number c.args.x c.args.y c.if-x-y-lt0.false) (tt, of_z_fits w32 c.args.x (search rules))

pub overflow_cast-result-else-x-y-lt0 : goal.overflow_cast-result-else-x-y-lt0
overflow_cast-result-else-x-y-lt0 c = rw (second_number c.args.x c.args.y c.if-x-y-lt0.false) (tt, of_z_fits w32 c.args.y (search rules))

pub returns-else-x-y-lt0 : goal.returns-else-x-y-lt0
returns-else-x-y-lt0 c = both_taken c.args.x c.args.y c.if-x-y-lt0.false
