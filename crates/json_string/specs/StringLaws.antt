-- What is answered where a string stands.
use Rattle.std.specs.Prelude.{◌≡◌, refl, List, ◌∷◌, ℕ, length, drop}
use Rattle.std.proofs.Math.Path.{sym}
use Rattle.std.proofs.Common.{ap, ap₂, ◌∙◌, subst, arith}
use Rattle.common.specs.Same.{same}
use Rattle.json_grammar_rules.specs.Reader.{Got, bad, got, read_chars}
use Rattle.json_grammar_rules.proofs.CharLaws.{chars_sound, chars_read, chars_fuel}
use Rattle.json_grammar_rules.proofs.Endings.{ending_of, ending_byte}
use Rattle.json_grammar_rules.proofs.Written.{chars, longer}
use Rattle.json_string.specs.Ends.{End, Ends, end_of, pos_left, by}
use Rattle.json_string.specs.Strings.{string_end, StringEnds, NameAt, text_at, given, same_of, same_text, mix_all, unmixed, fingerprint_at, mixed_at, text_is, resolved, resolved_to, resolved_at, resolved_to_at}
use Rattle.json_characters.specs.Utf8.{utf8, Scalar, Each}
use Rattle.json_characters.specs.Utf8Laws.{scalar_codes}

module _ (s : List ℕ) (p : ℕ) (cs : List ℕ) (h : NameAt s p cs) where
  pub name_text : (r : List ℕ) × (text_at s p ≡ got cs r)
  unfolding NameAt text_at
  name_text = (h.2, sym (chars_fuel h.0 (length (drop p s)) (drop p s) h.1 (omega arith)) ∙ h.3)

  name_given : {B : Type 0} (f : List ℕ → B) (d : B) → given f d (text_at s p) ≡ f cs
  name_given f d = ap (given f d) name_text.1

  pub name_fingerprint : fingerprint_at s p ≡ mix_all unmixed cs
  unfolding mixed_at
  name_fingerprint = name_given (mix_all unmixed) 0

  pub name_is : (w : List ℕ) → text_is s p w ≡ same (utf8 cs) w
  unfolding text_is
  name_is w = name_given (λ cs. same (utf8 cs) w) _

  pub name_resolved : (old : List ℕ) → resolved_at s p old ≡ resolved old (utf8 cs)
  unfolding resolved_at
  name_resolved old = name_given (λ cs. resolved old (utf8 cs)) _

  pub name_resolved_to : (old : List ℕ) → resolved_to_at s p old ≡ resolved_to old (utf8 cs)
  unfolding resolved_to_at
  name_resolved_to old = name_given (λ cs. resolved_to old (utf8 cs)) _

pub names_same : (s : List ℕ) (p : ℕ) (t : List ℕ) (q : ℕ) (cs ds : List ℕ) → NameAt s p cs → NameAt t q ds → same_text s p t q ≡ same cs ds
unfolding same_text
names_same s p t q cs ds h k = ap₂ same_of (name_text s p cs h).1 (name_text t q ds k).1

-- where a string ends, for reasoning
pub string_ends : (s : List ℕ) (at : ℕ) {r : End} → r ≡ string_end s at → StringEnds s at r
unfolding StringEnds string_end text_at
string_ends s at {r} e n l =
    subst (λ (x : End). Ends s at x (read_chars n (drop at s))) (sym e)
    (by s at (string_end s at) (read_chars n (drop at s)) (text_at s at) (chars_fuel n (length (drop at s)) (drop at s) l (omega arith)) (go (text_at s at) refl))
  where
    go : (g : Got (List ℕ)) → text_at s at ≡ g → Ends s at (end_of s g) g
    go (got cs x) k =
        let i = chars_sound (length (drop at s)) (drop at s) cs x k in
        let w = chars i.0 in
        let p = pos_left s at {x = x} (ending_of (record { front = w.written; is = i.1 ∙ w.is (0x22 ∷ x) }) (ending_byte 0x22 x)) (omega (arith, longer w (0x22 ∷ x), ap length i.1)) in
        (omega (arith, p.0), p.1, p.2)
    go bad k = tt

-- a callee's contract at the answer that it gave
pub stringed : (s : List ℕ) (at : ℕ) {x y : End} → x ≡ y → x ≡ string_end s at → StringEnds s at y
stringed s at e h = string_ends s at (sym e ∙ h)

-- the code points of a string are those that have octets
pub name_scalar : (s : List ℕ) (p : ℕ) (cs : List ℕ) → NameAt s p cs → Each Scalar cs
unfolding NameAt
name_scalar s p cs k =
    let i = chars_read k.0 (drop p s) cs k.2 k.1 k.3 in
    subst (Each Scalar) i.2 (scalar_codes i.0)
