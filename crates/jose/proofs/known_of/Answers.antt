-- `known_of`: the header is read, and its members are walked.
use Rattle.std.proofs.Common.{sym}
use Rattle.json_members.specs.StepLaws.{top_members_lem}
use Rattle.jose_facts.specs.KnownLaws.{all_shown}
use Rattle.jose.proofs.HeaderLaws.{top_within, at_top}
use Rattle.jose.proofs.known_of.Goals as goal

pub known_from-requires : goal.known_from-requires
known_from-requires c = top_within (top_members_lem _ c.top_members.ensures)

pub returns-clause-shown : goal.returns-clause-shown
returns-clause-shown c = all_shown _ (at_top (sym c.in_ok-check_text.ensures) (top_members_lem _ c.top_members.ensures)) c.known_from.ensures
