-- `refuse` meets its contract: the tests are those of `fault`, in its order.
use mathlib.Core.Path.{sym, ◌∙◌}
use Rattle.base64url_decoding.proofs.RefusalLaws.{unused_length, at_outside, at_end, no_fault, at_last}
use Rattle.base64url_decoding.proofs.fault.refuse.Goals as goal

pub returns-in-Some : goal.returns-in-Some
returns-in-Some c = at_outside c.args.text.now c.in-Some.place (sym c.in-Some.is ∙ c.first_outside.ensures)

pub overflow_sub-result : goal.overflow_sub-result
overflow_sub-result c = unused_length _ (λ e. c.if-unused_bits-eq0.false (c.unused_bits.ensures ∙ e))

pub returns-then-n-eq1 : goal.returns-then-n-eq1
returns-then-n-eq1 c = at_end c.args.text.now (sym c.in_default.is ∙ c.first_outside.ensures) c.if-n-eq1.true

pub returns-then-unused_bits-eq0 : goal.returns-then-unused_bits-eq0
returns-then-unused_bits-eq0 c =
    no_fault c.args.text.now (sym c.in_default.is ∙ c.first_outside.ensures) c.if-n-eq1.false _ c.unused_bits.ensures c.if-unused_bits-eq0.true

pub returns-else-unused_bits-eq0 : goal.returns-else-unused_bits-eq0
returns-else-unused_bits-eq0 c =
    at_last c.args.text.now (sym c.in_default.is ∙ c.first_outside.ensures) c.if-n-eq1.false _ c.unused_bits.ensures c.if-unused_bits-eq0.false
