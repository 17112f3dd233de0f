-- `jws_verify` meets its contract: the number, the words and the buffers are those of jws's answer.
use Rattle.std.specs.Prelude.{Result, Ok, Err}
use mathlib.Core.Path.{◌≡◌, refl, ap}
use Rattle.answers.specs.declared.refusal.Refusal.{Refusal}
use Rattle.answers.specs.Numbers.{answer}
use Rattle.jws_rules.specs.declared.Record.{Record}
use Rattle.jws_rules.specs.Results.{verify_result}
use Rattle.jws_words.specs.Words.{verify_words}
use Rattle.jws_ffi.proofs.tokens.jws_verify.Goals as goal

number_is : (r : Result Record Refusal) → answer r ≡ (verify_result r).answer
number_is (Ok d) = refl
number_is (Err e) = refl

pub returns : goal.returns
returns c = rw (c.number.ensures, c.words_of.ensures, number_is c.verify-verified.result) (ap verify_words c.verify-verified.ensures)
