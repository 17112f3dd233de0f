-- Laws of a header that is not refused, for the proofs of code that reads it.
use Rattle.std.specs.Prelude.{◌≡◌, refl, true, List, ℕ}
use Rattle.std.proofs.Common.{arith}
use Rattle.std.proofs.lemmas.Bool.{not-false}
use Rattle.common.specs.First.{first}
use Rattle.common.proofs.FirstLaws.{all_pass, passed}
use Rattle.json_grammar_rules.specs.Value.{LMembers}
use Rattle.json_grammar_rules.specs.Reader.{Got, bad, got, read}
use Rattle.json_grammar_rules.proofs.Unique.{is_got}
use Rattle.json_rules.specs.Rules.{deepest}
use Rattle.json_rules.specs.Tests.{grammar_tests, header_tests, checked}

-- what is read, of a text
pub text_read : (d : ℕ) (h : List ℕ) → is_got (read d h) ≡ true → (ms : LMembers) × (x : List ℕ) × (read d h ≡ got ms x)
text_read d h e = go (read d h) refl e
  where
    go : (g : Got LMembers) → read d h ≡ g → is_got g ≡ true → (ms : LMembers) × (x : List ℕ) × (read d h ≡ got ms x)
    go bad c k = absurd (let z : ◌≡◌ {A = ℕ} 0 1 = cc in omega arith)
    go (got ms x) c k = (ms, x, c)

-- a text that is not refused is read
pub grammar_read : (d : ℕ) (h : List ℕ) → first (grammar_tests d h) ≡ 0 → (ms : LMembers) × (x : List ℕ) × (read d h ≡ got ms x)
grammar_read d h e = text_read d h (not-false (is_got (read d h)) (passed (grammar_tests d h) (all_pass (grammar_tests d h) refl e) 7))

-- .. and so is a header
pub checked_read : (h : List ℕ) → checked h ≡ 0 → (ms : LMembers) × (x : List ℕ) × (read deepest h ≡ got ms x)
unfolding checked header_tests
checked_read h e = text_read deepest h (not-false (is_got (read deepest h)) (passed (header_tests h) (all_pass (header_tests h) refl e) 7))
