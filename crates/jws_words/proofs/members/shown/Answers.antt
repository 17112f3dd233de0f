-- `shown` meets its contract: in each case the definitions compute to what the arm writes.
use Rattle.json_rules.specs.Answers.{number_of, values_of, kind_number}
use Rattle.jws_words.specs.Words.{member_words, found_words}
use Rattle.jws_words.proofs.members.shown.Goals as goal

pub returns-in-String : goal.returns-in-String
unfolding number_of member_words found_words values_of kind_number
returns-in-String c = rw c.in-String.is c.found.ensures

pub returns-in-Number : goal.returns-in-Number
unfolding number_of member_words found_words values_of kind_number
returns-in-Number c = rw c.in-Number.is c.found-in-Number.ensures

pub returns-in-True : goal.returns-in-True
unfolding number_of member_words found_words values_of kind_number
returns-in-True c = rw c.in-True.is c.found-in-True.ensures

pub returns-in-False : goal.returns-in-False
unfolding number_of member_words found_words values_of kind_number
returns-in-False c = rw c.in-False.is c.found-in-False.ensures

pub returns-in-Null : goal.returns-in-Null
unfolding number_of member_words found_words values_of kind_number
returns-in-Null c = rw c.in-Null.is c.found-in-Null.ensures

pub returns-in-Array : goal.returns-in-Array
unfolding number_of member_words found_words values_of kind_number
returns-in-Array c = rw c.in-Array.is c.found-in-Array.ensures

pub returns-in-Object : goal.returns-in-Object
unfolding number_of member_words found_words values_of kind_number
returns-in-Object c = rw c.in-Object.is c.found-in-Object.ensures
