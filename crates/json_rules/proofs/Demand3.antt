-- DEMAND 3, in two lines. `Read h` (Tests): whichever member is asked for, the member call answers 0 or 16. `DerivedOnce h` (Rules): the grammar derives h, within the
-- depth, with no name twice in an object. `member h k (members_of t)` (json_grammar_rules, Places): kind and places of member k in the derivation t.
use Rattle.std.specs.Prelude.{◌≡◌, ◌↔◌, List, ℕ, ◌≤◌, length}
use Rattle.std.proofs.Common.{sym, ◌∙◌, subst, arith}
use Rattle.json_grammar_rules.specs.Twice.{TwiceNamed}
use Rattle.json_grammar_rules.specs.Value.{Members, object_v}
use Rattle.json_grammar_rules.specs.Grammar.{Derivation, bytes, members_of}
use Rattle.json_grammar_rules.specs.Places.{member}
use Rattle.json_grammar_rules.proofs.Unique.{one_reading, one_depth}
use Rattle.json_rules.specs.Rules.{longest, DerivedOnce}
use Rattle.json_rules.specs.Answers.{answer_for}
use Rattle.json_rules.specs.Tests.{member_of, Read}
use Rattle.json_rules.proofs.Promises.{read_short, read_within, member_is}

-- a header is read exactly when it has at most `longest` bytes and the grammar derives it
pub read_exactly : (h : List ℕ) → Read h ↔ ((length h ≤ longest) × DerivedOnce h)
read_exactly h = (λ r. let l = read_short h r in (l, (read_within h l).0 r), λ d. (read_within h d.0).1 d.1)

-- and then the member call answers with member k of every derivation
pub member_exactly : (h : List ℕ) → Read h → (t : Derivation) → bytes t ≡ h → (k : ℕ) → member_of h k ≡ answer_for (member h k (members_of t))
member_exactly h r t p k =
    let d = (read_exactly h).0 r in
    let u = d.1 in
    let e : bytes t ≡ bytes u.0 = p ∙ sym u.1 in
    member_is h d.0 t p (omega (arith, one_depth t u.0 e, u.2)) (λ x. u.3 (subst (λ (ms : Members). TwiceNamed (object_v ms)) (one_reading t u.0 e) x)) k
