-- `check` meets its contract.
use Rattle.json_header.proofs.HeaderLaws as law
use Rattle.json_header.proofs.header.check.Goals as goal

pub returns-then-header-gt-LONGEST : goal.returns-then-header-gt-LONGEST
returns-then-header-gt-LONGEST c = law.check_long _ c.if-header-gt-LONGEST.true

pub returns : goal.returns
returns c = law.check_short _ c.if-header-gt-LONGEST.false c.check_text.ensures
