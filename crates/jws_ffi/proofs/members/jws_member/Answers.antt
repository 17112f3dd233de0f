-- `jws_member` meets its contract: the number and the words are those of the member reader's answer.
use Rattle.jws_ffi.proofs.members.jws_member.Goals as goal

pub returns : goal.returns
returns c = let a = rw c.member.ensures at c.answer_of-answer.ensures in record { number = a.0; words = a.1 }
