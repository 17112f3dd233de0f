-- `first_outside`: the characters before i are of the alphabet.
use Rattle.std.proofs.Common.{arith, below_more, below_none}
use borrow.Author.Tests.{lt-leb, le-leb}
use Rattle.base64url_rules.proofs.Searches.{met, unmet}
use Rattle.base64url_decoding.proofs.fault.first_outside.Goals as goal

pub loop-i-init : goal.loop-i-init
loop-i-init c = below_none _

pub returns-then-value-ge64 : goal.returns-then-value-ge64
returns-then-value-ge64 c =
    met _ _ 0 c.loop-i.i c.loop-i.invariant c.loop-i-test.true (le-leb 64 _ (omega (arith, c.if-value-ge64.true, c.value.ensures)))

pub loop-i-preserved : goal.loop-i-preserved
loop-i-preserved c = below_more _ _ c.loop-i.invariant (lt-leb 64 _ (omega (arith, c.if-value-ge64.false, c.value.ensures)))

pub returns : goal.returns
returns c = unmet _ c.args.text.now 0 c.loop-i.invariant c.loop-i-test.false
