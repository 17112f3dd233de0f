-- `fmt_of`, by the kind of the slot.
use Rattle.std.proofs.Common.{◌≡◌, List, ℕ, ◌+◌, ◌-◌, ℤ, Option, take, drop, ◌∙◌, rules, arith, w64, to_z, of_z}
use Rattle.decimal_rules.specs.Integer.{integer_of}
use Rattle.json_rules.specs.declared.Place.{Place}
use Rattle.json_rules.specs.Answers.{size_of}
use Rattle.json_members.specs.Members.{part}
use Rattle.jose_rules.specs.Members.{integer}
use Rattle.jose_rules.specs.Facts.{fmt_fact}
use Rattle.jose_facts.proofs.SlotFacts.{asks_number}
use Rattle.jose_facts.proofs.SaysLaws.{absent_is, wrong_is, fmt_said_number, fmt_said_none, number_there}
use Rattle.jose_facts.proofs.says.fmt_of.Goals as goal

-- what is parsed of s are the number's characters
parsed : (s : List ℕ) (x : Place) {size : ℕ} {r : Option ℤ} → size ≡ size_of x
    → r ≡ integer_of (take ((x.start + size) - x.start) (drop x.start s)) → r ≡ integer_of (part s x)
parsed s x {size} e p = let n : (x.start + size) - x.start ≡ size_of x = omega (arith, e) in p ∙ rw n

pub returns-in_default : goal.returns-in_default
unfolding fmt_fact
returns-in_default c = absent_is (λ z. z) integer c.in_default.is

pub returns-then-differ : goal.returns-then-differ
unfolding fmt_fact
returns-then-differ c = wrong_is (λ z. z) integer c.in-Some.is asks_number (c.differ.ensures.apart c.if-differ.true)

pub slice_bounds-parse-end : goal.slice_bounds-parse-end
slice_bounds-parse-end c =
    let n = number_there c.in-Some.is c.requires (c.differ.ensures.alike c.if-differ.false) in
    omega (arith, n.0, n.1, c.size.ensures)

pub returns-in-Some-parse : goal.returns-in-Some-parse
returns-in-Some-parse c =
    let z : to_z w64 (of_z w64 c.in-Some-parse.number) ≡ c.in-Some-parse.number = search rules in
    rw z (fmt_said_number c.in-Some.is (c.differ.ensures.alike c.if-differ.false) (parsed _ _ c.size.ensures c.parse.ensures) c.in-Some-parse.is)

pub returns-in-None : goal.returns-in-None
returns-in-None c =
    fmt_said_none c.in-Some.is (c.differ.ensures.alike c.if-differ.false) (parsed _ _ c.size.ensures c.parse.ensures) c.in-None.is
