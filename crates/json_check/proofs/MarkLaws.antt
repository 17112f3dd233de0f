-- The next mark of a text: a law for each way through `next_mark`.
use Rattle.std.specs.Prelude.{Option, Some, None}
use mathlib.Core.Path.{◌≡◌, sym, ap, ◌∙◌, subst}
use mathlib.Core.Bool.{Bool, true, false}
use mathlib.Core.List.{List, [], ◌∷◌, ◌++◌}
use Prim.Native.Nat.{ℕ, suc, ◌+◌, ◌≤◌, ◌<◌}
use native.Mathlib.Omega.{arith}
use lib.Dec.{eqb}
use lib.ListN.{length, drop, get_or, drop_of_length-le}
use borrow.Author.Tests.{ne_eqb}
use Rattle.json_grammar_rules.proofs.CharLaws.{chars_fuel}
use Rattle.json_grammar_rules.specs.Reader.{ws, read_chars}
use Rattle.json_grammar_rules.specs.Scan.{opens, closes, colon_next, marks_name, marks_string, marks}
use Rattle.json_grammar_rules.specs.Scan as scan
use Rattle.json_grammar_rules.proofs.ScanLaws.{marks_front, marks_none}
use Rattle.json_string.specs.Ends.{at_byte, left, shorter, fuel, ends_at, ends_bad}
use Rattle.json_string.specs.Strings.{NameAt, StringEnds}
use Rattle.json_tokens.specs.Tokens.{SkipsTo}
use Rattle.json_check.specs.declared.marks.Mark.{Mark}
use Rattle.json_check.specs.declared.marks.Mark.TheVariants.{Opens, Closes, Name}
use Rattle.json_check.specs.Marks.{Shows, NameShown, NoMarks, MarkAt}

-- A COLON

module _ {s : List ℕ} {from at : ℕ} (w : SkipsTo s from at) where
  pub colon_at : at < length s → eqb (get_or s at 0) 0x3A ≡ colon_next (ws (drop from s))
  colon_at h = sym (ap colon_next (w.is ∙ at_byte s at h))

  pub colon_out : length s ≤ at → false ≡ colon_next (ws (drop from s))
  colon_out h = sym (ap colon_next (w.is ∙ drop_of_length-le s h))

-- WHAT IS PASSED OVER

shows_on : {s : List ℕ} {p e f : ℕ} {ms : List scan.Mark} → Shows s p e [] → Shows s e f ms → Shows s p f ms
shows_on a b = record {
  later = omega (arith, a.later, b.later);
  high = b.high;
  is = λ n l. let i = a.is n l in let j = b.is i.0 i.1 in (j.0, j.1, i.2 ∙ j.2);
}

-- what has no marks is passed over
pub past : (s : List ℕ) (p e : ℕ) → Shows s p e [] → (r : Option Mark) → MarkAt s e r → MarkAt s p r
unfolding MarkAt
past s p e a (Some (Opens f)) h = shows_on a h
past s p e a (Some (Closes f)) h = shows_on a h
past s p e a (Some (Name q f)) h = record { text = h.text; stands = h.stands; shows = shows_on a h.shows }
past s p e a None h = record { is = λ n l. let i = a.is n l in i.2 ∙ h.is i.0 i.1 }

-- NOTHING IS LEFT

pub nothing_left : (s : List ℕ) (at : ℕ) → length s ≤ at → MarkAt s at None
unfolding MarkAt
nothing_left s at h = record { is = λ n l. ap (marks n) (drop_of_length-le s h) ∙ marks_none n }

module _ (s : List ℕ) (at : ℕ) (h : at < length s) where
  -- A BYTE, by what it shows

  byte : (ms : List scan.Mark) → ((n : ℕ) → marks (suc n) (get_or s at 0 ∷ drop (at + 1) s) ≡ ms ++ marks n (drop (at + 1) s)) → Shows s at (at + 1) ms
  byte ms k = record {
    later = omega arith;
    high = omega arith;
    is = λ n l.
        fuel (λ i. (m : ℕ) × (length (drop (at + 1) s) ≤ m) × (marks i (drop at s) ≡ ms ++ marks m (drop (at + 1) s))) n (length (drop (at + 1) s)) (omega (arith, left s at h))
        λ m j. (m, j, ap (marks (suc m)) (at_byte s at h) ∙ k m);
  }

  pub opening : get_or s at 0 ≡ 0x7B → MarkAt s at (Some (Opens (at + 1)))
  unfolding MarkAt marks
  opening b = byte (opens ∷ []) (λ n. rw b)

  pub closing : get_or s at 0 ≡ 0x7D → MarkAt s at (Some (Closes (at + 1)))
  unfolding MarkAt marks
  closing b = byte (closes ∷ []) (λ n. rw b)

  pub quiet : (get_or s at 0 ≡ 0x22 → ⊥) → (get_or s at 0 ≡ 0x7B → ⊥) → (get_or s at 0 ≡ 0x7D → ⊥) → Shows s at (at + 1) []
  unfolding marks
  quiet a b c = byte [] (λ n. rw (ne_eqb (get_or s at 0) 0x22 a, ne_eqb (get_or s at 0) 0x7B b, ne_eqb (get_or s at 0) 0x7D c))

  -- A STRING

  first : {b : ℕ} → get_or s at 0 ≡ b → drop at s ≡ b ∷ drop (at + 1) s
  first e = at_byte s at h ∙ ap (λ (x : ℕ). x ∷ drop (at + 1) s) e

  pub broken : get_or s at 0 ≡ 0x22 → StringEnds s (at + 1) None → MarkAt s at None
  unfolding StringEnds MarkAt marks
  broken b k = record {
    is = λ n l.
        fuel (λ i. marks i (drop at s) ≡ []) n (length (drop (at + 1) s)) (omega (arith, left s at h))
        λ m j. ap (marks (suc m)) (first b) ∙ ap (marks_string (λ y. marks m y)) (ends_bad s (at + 1) (read_chars m (drop (at + 1) s)) (k m j));
  }

  module _ (e : ℕ) {t : Bool} (b : get_or s at 0 ≡ 0x22) (k : StringEnds s (at + 1) (Some e)) (c : t ≡ colon_next (ws (drop e s))) where
    string : (cs : List ℕ) × NameAt s (at + 1) cs × Shows s at e (marks_name t cs [])
    unfolding StringEnds NameAt marks
    string =
        let x = drop (at + 1) s in
        let i = ends_at s (at + 1) e (read_chars (length x) x) (k (length x) (omega arith)) in (
          i.0,
          (length x, omega arith, drop e s, i.1),
          record {
            later = omega (arith, i.2);
            high = i.3;
            is = λ n l.
                fuel (λ j. (m : ℕ) × (length (drop e s) ≤ m) × (marks j (drop at s) ≡ marks_name t i.0 [] ++ marks m (drop e s))) n (length x) (omega (arith, left s at h))
                λ m j. (
                  m,
                  shorter s (at + 1) e m i.2 j,
                  ap (marks (suc m)) (first b)
                      ∙ ap (marks_string (λ y. marks m y)) (chars_fuel m (length x) x j (omega arith) ∙ i.1)
                      ∙ ap (λ (u : Bool). marks_name u i.0 (marks m (drop e s))) (sym c)
                      ∙ marks_front t i.0 (marks m (drop e s)),
                );
          },
        )

    pub named : t ≡ true → MarkAt s at (Some (Name (at + 1) e))
    unfolding MarkAt
    named z = let i = string in record { text = i.0; stands = i.1; shows = subst (λ (u : Bool). Shows s at e (marks_name u i.0 [])) z i.2 }

    pub text : t ≡ false → Shows s at e []
    text z = let i = string in subst (λ (u : Bool). Shows s at e (marks_name u i.0 [])) z i.2

-- THE ANSWER THAT WAS GIVEN

module _ (s : List ℕ) (p : ℕ) {x : Option Mark} (h : MarkAt s p x) where
  told : {y : Option Mark} → x ≡ y → MarkAt s p y
  told e = subst (λ (z : Option Mark). MarkAt s p z) e h

  pub name_told : {m : Mark} {q e : ℕ} → x ≡ Some m → m ≡ Name q e → NameShown s p q e
  unfolding MarkAt
  name_told e f = told (e ∙ ap Some f)

  pub opens_told : {m : Mark} {e : ℕ} → x ≡ Some m → m ≡ Opens e → Shows s p e (opens ∷ [])
  unfolding MarkAt
  opens_told e f = told (e ∙ ap Some f)

  pub closes_told : {m : Mark} {e : ℕ} → x ≡ Some m → m ≡ Closes e → Shows s p e (closes ∷ [])
  unfolding MarkAt
  closes_told e f = told (e ∙ ap Some f)

  pub none_told : x ≡ None → NoMarks s p
  unfolding MarkAt
  none_told e = told e
