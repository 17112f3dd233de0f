-- `answer_of` meets its contract: in each case the definitions compute to what the arm writes.
use mathlib.Core.Path.{refl}
use Rattle.json_rules.specs.Answers.{number_of, values_of}
use Rattle.jws_words.specs.Words.{member_words, found_words}
use Rattle.jws_words.proofs.members.answer_of.Goals as goal

pub returns-in-Ok : goal.returns-in-Ok
returns-in-Ok c = rw c.in-Ok.is c.shown.ensures

pub returns-in-Err : goal.returns-in-Err
unfolding number_of member_words found_words values_of
returns-in-Err c = rw c.in-Err.is (c.into.ensures, refl)
