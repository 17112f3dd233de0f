-- `same`: the bytes before i agree, word by word; the last word begins at i or before it.
use borrow.Author.Rules.{rules}
use mathlib.Core.Path.{◌≡◌, refl, ap, sym, ◌∙◌}
use mathlib.Core.Bool.{Bool, true, false}
use mathlib.Core.List.{List}
use Prim.Native.Nat.{ℕ, ◌-◌}
use native.Mathlib.Omega.{arith}
use lib.ListN.{length}
use lib.Seq.{ext_get_or}
use borrow.Author.Count.{below_none}
use Rattle.std.proofs.lemmas.Bool.{false≢true}
use Rattle.std.proofs.lemmas.Bool.Decides.{Decides-eqb}
use Rattle.std.proofs.lemmas.Slice.Eq.{slice_eq-Decides}
use Rattle.common.specs.First.{Decides, holds, fails}
use Rattle.common.proofs.FirstLaws.{decides_eq}
use Rattle.common.proofs.Decided.{decides_by}
use Rattle.common.specs.BytesLaws.{bytes_of}
use Rattle.common.specs.LittleEndian.{word8, same_word8}
use Rattle.keytable_areas.proofs.same.Goals as goal

decides : {P : Type 0} (b : Bool) → (b ≡ true → P) × (P → b ≡ true) → Decides P b
decides true d = holds (d.0 refl)
decides false d = fails (λ p. false≢true (d.1 p))

pub returns-then-n-b : goal.returns-then-n-b
returns-then-n-b c = fails (λ e. omega (arith, ap length e))

pub returns-then-n-lt8 : goal.returns-then-n-lt8
returns-then-n-lt8 c = decides _ (slice_eq-Decides Decides-eqb c.args.a.now c.args.b.now _ c.eq.ensures)

pub loop-i-init : goal.loop-i-init
loop-i-init c = (omega arith, below_none _, bytes_of c.args.a.now (λ j. search rules), bytes_of c.args.b.now (λ j. search rules))

pub returns-then-word8_at : goal.returns-then-word8_at
returns-then-word8_at c =
    let i = c.loop-i.i in
    fails (λ e. c.if-word8_at.true (c.word8_at.ensures ∙ ap (λ (l : List ℕ). word8 l i) e ∙ sym c.word8_at-in-loop-i.ensures))

pub loop-i-preserved : goal.loop-i-preserved
loop-i-preserved c =
    let v = c.loop-i.invariant in
    let e = sym c.word8_at.ensures ∙ c.if-word8_at.false ∙ c.word8_at-in-loop-i.ensures in
    (omega arith, same_word8 v.2 v.3 _ v.1 e, v.2, v.3)

pub returns : goal.returns
returns c =
    let v = c.loop-i.invariant in
    let a = c.word8_at-2.ensures in
    let b = c.word8_at-3.ensures in
    let last = length c.args.a.now - 8 in
    decides_by (decides_eq c.word8_at-2.result c.word8_at-3.result)
    (λ e. ext_get_or 0 _ _ (omega arith) (λ j h. same_word8 v.2 v.3 last (λ k h. v.1 k (omega arith)) (sym a ∙ e ∙ b) j (omega arith)))
    (λ e. a ∙ ap (λ (c : List ℕ). word8 c last) e ∙ sym b)
