-- One byte more is copied.
use Rattle.std.proofs.Common.{◌≡◌, ℕ, ◌+◌, List, get_or, set, ap, sym, ◌∙◌, add-one, arith, length}
use Rattle.std.proofs.Math.Seq.{paste, paste-zero, paste-suc}
use Rattle.common.proofs.copy_at.Goals as goal

pub loop-i-init : goal.loop-i-init
loop-i-init c = paste-zero c.args.dst.now c.args.at c.args.src.now

pub loop-i-preserved : goal.loop-i-preserved
loop-i-preserved c =
    let a = c.args in
    let i = c.loop-i.i in
    ap (λ (x : List ℕ). set x (a.at + i) (get_or a.src.now i 0)) c.loop-i.invariant
    ∙ paste-suc a.dst.now a.at a.src.now i 0 (omega arith) (omega arith)
    ∙ ap (paste a.dst.now a.at a.src.now) (sym (add-one i))

pub returns : goal.returns
returns c =
    let e : c.loop-i.i ≡ length c.args.src.now = omega arith in
    c.loop-i.invariant ∙ ap (paste c.args.dst.now c.args.at c.args.src.now) e
