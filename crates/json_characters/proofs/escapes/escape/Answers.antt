-- `escape` meets its contract.
use Rattle.json_characters.proofs.EscapeLaws.{escape_u, escape_short, escape_out}
use Rattle.json_characters.proofs.escapes.escape.Goals as goal

pub returns-then-at-s : goal.returns-then-at-s
returns-then-at-s c = escape_out _ _ c.if-at-s.true

pub returns-then-b-eq117 : goal.returns-then-b-eq117
returns-then-b-eq117 c = escape_u _ _ _ c.if-at-s.false c.if-b-eq117.true c.unicode.ensures

pub short-requires : goal.short-requires
short-requires c = c.if-b-eq117.false

pub returns : goal.returns
returns c = escape_short _ _ _ c.if-at-s.false c.short.ensures
