-- `skip` meets its contract.
use mathlib.Core.Path.{sym, ◌∙◌}
use Rattle.std.proofs.Common.{rules}
use lib.ListN.{get_or}
use Rattle.json_tokens.proofs.SkipLaws.{skip_more, skip_stop, skip_end}
use Rattle.json_tokens.proofs.classes.skip.Goals as goal
use Rattle.json_tokens.proofs.classes.skip.Goals.{then-loop-at-test+else-class, else-loop-at-test}

pub loop-at-preserved : goal.loop-at-preserved
loop-at-preserved g c = λ p h.
    skip_more p _ _ c.loop-at-test.true (sym (h (get_or c.args.s.now c.loop-at.at 0) c.class.result (search rules) c.class.ensures) ∙ c.if-class.true) ∙ c.loop-at.invariant p h

pub returns : goal.returns
returns g c = λ p h. elim c.loop-at-test.branch [
  | then-loop-at-test+else-class w ↦ skip_stop p _ _ w.loop-at-test.true (sym (h (get_or c.args.s.now c.loop-at.at 0) w.class.result (search rules) w.class.ensures) ∙ w.if-class.false) ∙ c.loop-at.invariant p h
  | else-loop-at-test w ↦ skip_end p _ _ w.loop-at-test.false ∙ c.loop-at.invariant p h
]
