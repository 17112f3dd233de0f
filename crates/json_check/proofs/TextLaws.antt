-- What a text answers: a law for each way through `check_text`.
use mathlib.Core.Path.{◌≡◌, sym, ap, ◌∙◌}
use mathlib.Core.Bool.{Bool, true, false}
use mathlib.Core.List.{List, [], ◌∷◌}
use Prim.Native.Nat.{ℕ}
use native.Mathlib.Omega.{arith}
use lib.ListN.{length}
use Rattle.common.specs.First.{◌when◌, first}
use Rattle.json_grammar_rules.specs.Value.{LMembers}
use Rattle.json_grammar_rules.specs.Reader.{Got, read}
use Rattle.json_grammar_rules.proofs.ScanLaws.{scan_read}
use Rattle.json_reader.specs.Reads.{is_text}
use Rattle.json_rules.specs.Tests.{members_in, twice_in, grammar_tests}
use Rattle.json_rules.proofs.AnswerLaws.{text_read}
use Rattle.json_check.specs.Twice.{TwiceFrom}

module _ (d : ℕ) (s : List ℕ) where
  pub text_other : {b : Bool} → b ≡ is_text d s → b ≡ false → 7 ≡ first (grammar_tests d s)
  unfolding is_text
  text_other e f = rw (sym e ∙ f)

  module _ {b t : Bool} (e : b ≡ is_text d s) (f : b ≡ true) (w : TwiceFrom s 0 t) where
    twice_is : first (grammar_tests d s) ≡ first (8 when t ∷ [])
    unfolding is_text
    twice_is =
        let r = text_read d s (sym e ∙ f) in
        let z : twice_in (members_in (read d s)) ≡ t =
        ap (λ (g : Got LMembers). twice_in (members_in g)) r.2 ∙ sym (scan_read (length s) d s r.0 r.1 r.2 (omega arith))
        ∙ sym (w.is (length s) (omega arith)) in
        rw (sym e ∙ f, z)

    pub text_twice : t ≡ true → 8 ≡ first (grammar_tests d s)
    text_twice c = sym (twice_is ∙ ap (λ (x : Bool). first (8 when x ∷ [])) c)

    pub text_fine : t ≡ false → 0 ≡ first (grammar_tests d s)
    text_fine c = sym (twice_is ∙ ap (λ (x : Bool). first (8 when x ∷ [])) c)
