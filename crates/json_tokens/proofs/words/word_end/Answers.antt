-- `word_end` meets its contract. The loop's invariant: the whole word ends where its rest does, and what is passed stands in the text.
use mathlib.Core.Path.{◌≡◌, refl, sym, ◌∙◌}
use mathlib.Core.Logic.{inl, inr}
use Prim.Native.Nat.{◌+◌}
use native.Mathlib.Omega.{arith}
use lib.ListN.{length}
use Rattle.json_tokens.proofs.SkipLaws as law
use Rattle.json_tokens.proofs.words.word_end.Goals as goal

pub loop-i-init : goal.loop-i-init
loop-i-init c = let n : c.args.from + 0 ≡ c.args.from = omega arith in rw n (refl, inl refl)

pub returns-then-at-s : goal.returns-then-at-s
returns-then-at-s c = sym (c.loop-i.invariant.0 ∙ law.word_out _ _ _ _ c.loop-i-test.true c.if-at-s.true)

pub returns-then-s-at : goal.returns-then-s-at
returns-then-s-at c = sym (c.loop-i.invariant.0 ∙ law.word_other _ _ _ _ c.loop-i-test.true c.if-at-s.false c.if-s-at.true)

pub loop-i-preserved : goal.loop-i-preserved
loop-i-preserved c =
    let n : c.args.from + (c.loop-i.i + 1) ≡ c.args.from + c.loop-i.i + 1 = omega arith in
    rw n (c.loop-i.invariant.0 ∙ law.word_more _ _ _ _ c.loop-i-test.true c.if-at-s.false c.if-s-at.false, inr (omega arith))

pub returns : goal.returns
returns c =
    let e : c.args.from + length c.args.word.now ≡ c.args.from + c.loop-i.i = omega arith in
    rw e (sym (c.loop-i.invariant.0 ∙ law.word_done _ _ _ _ c.loop-i-test.false))
