-- `count` meets its contract: the reader goes on at each member, and stops where all are counted.
use Rattle.std.proofs.Common.{rules, ◌≡◌, ◌∙◌, ℕ, ◌+◌, ◌<◌, List, sym, ap, arith}
use Rattle.std.specs.Prelude.{Result}
use borrow.Author.Tests.{lt-ltb}
use denote.Enum.Bare.{same_true, same_false}
use Rattle.answers.specs.declared.refusal.Refusal.{Refusal}
use Rattle.answers.specs.contracts.refusal.Refusal.{the_type}
use Rattle.answers.specs.Numbers.{answer}
use Rattle.answers.proofs.NumberLaws.{done, refused}
use Rattle.json_rules.specs.declared.Member.{Member as Found}
use Rattle.json_rules.specs.Answers.{number_of}
use Rattle.json_rules.specs.Shown.{shown}
use Rattle.json_rules.proofs.ShownLaws.{number_shown}
use Rattle.json_rules.specs.Tests.{member_of}
use Rattle.json_header_reader.specs.Following.{greatest, following_of}
use Rattle.json_header_reader.specs.CountLaws.{total, few, goes_on, stops_last, stops_refused}
use Rattle.json_header_reader.proofs.count.Goals as goal

-- what member k of s answers, which is the header h
at_number : (h s : List ℕ) (k : ℕ) (r : Result Found Refusal) → s ≡ h → shown r ≡ member_of s k → answer r ≡ number_of (member_of h k)
at_number h s k r e f = sym (number_shown r) ∙ ap number_of (f ∙ ap (λ (x : List ℕ). member_of x k) e)

-- at a member the reader moves on to the next number, and stands at a member or where they end
moves : (h : List ℕ) (k : ℕ) → number_of (member_of h k) ≡ 0 → (k < total h) × (following_of k ≡ k + 1)
moves h k z =
    let l = goes_on h k z in
    let g : k < greatest = omega (arith, l, few h) in
    (l, simp (lt-ltb k greatest g))

pub loop-refusal-init : goal.loop-refusal-init
loop-refusal-init c = (rw c.new-reader.ensures.0, omega (arith, c.new-reader.ensures.1))

pub returns-then-eq : goal.returns-then-eq
returns-then-eq c =
    let e = refused (at_number _ _ _ _ c.loop-refusal.invariant.0 c.member.ensures) c.in-Err.is in
    stops_last c.args.header.now c.loop-refusal.reader.at c.loop-refusal.invariant.1 _ e (same_true the_type (search rules) _ _ (sym c.eq.ensures ∙ c.if-eq.true))

pub returns-in-Err : goal.returns-in-Err
returns-in-Err c =
    let e = refused (at_number _ _ _ _ c.loop-refusal.invariant.0 c.member.ensures) c.in-Err.is in
    stops_refused c.args.header.now c.loop-refusal.reader.at c.loop-refusal.invariant.1 _ e (same_false the_type _ _ (sym c.eq.ensures ∙ c.if-eq.false))

pub loop-refusal-smaller : goal.loop-refusal-smaller
loop-refusal-smaller c =
    let m = moves c.args.header.now c.loop-refusal.reader.at (done (at_number _ _ _ _ c.loop-refusal.invariant.0 c.member.ensures) c.in_default.is) in
    omega (arith, m.0, c.next.ensures.1 ∙ m.1)

pub loop-refusal-preserved : goal.loop-refusal-preserved
loop-refusal-preserved c =
    let m = moves c.args.header.now c.loop-refusal.reader.at (done (at_number _ _ _ _ c.loop-refusal.invariant.0 c.member.ensures) c.in_default.is) in
    (rw c.next.ensures.0 c.loop-refusal.invariant.0, omega (arith, m.0, c.next.ensures.1 ∙ m.1))
