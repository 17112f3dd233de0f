-- The place of a member's value, and the whole text: a law for each way through each function.
use Rattle.std.specs.Prelude.{Some, None}
use mathlib.Core.Path.{◌≡◌, refl, sym, ap, ap₂, ◌∙◌}
use mathlib.Core.Bool.{Bool, true, false}
use mathlib.Core.List.{List}
use Prim.Native.Nat.{ℕ, ◌≤◌, ◌<◌, ◌+◌}
use native.Mathlib.Omega.{arith}
use lib.Dec.{eqb}
use lib.ListN.{length, drop, get_or, drop_of_length-le}
use borrow.Author.Tests.{eqb-true, eqb-false, ne_eqb}
use Rattle.json_grammar_rules.specs.Value.{LMembers, item}
use Rattle.json_grammar_rules.specs.Reader.{Got, got, then, expect, ws, placed_item, ends_by}
use Rattle.json_grammar_rules.specs.Reader.{read_object, read}
use Rattle.json_grammar_rules.proofs.Unique.{is_got}
use Rattle.json_string.specs.Ends.{End, at_byte, pos_drop, shorter}
use Rattle.json_tokens.specs.Tokens.{EndsBy, SkipsTo}
use Rattle.json_reader.specs.Reads.{ObjectEnds, AfterName, read_after_name, bare_end, span_of, value_span, is_text}
use Rattle.json_tokens.specs.EndsLaws.{given, none, bounds, done, out, first, first_bad, bind, bind_bad, moved}
use Rattle.json_reader.specs.ValueLaws.{placed_at}
use Rattle.json_reader.specs.ReadLaws.{bare_ends}

-- THE PLACE OF A MEMBER'S VALUE

pub span_is : {s : List ℕ} {q c f e : ℕ} (d : ℕ) → SkipsTo s q c → c < length s → get_or s c 0 ≡ 0x3A → SkipsTo s (c + 1) f → Some e ≡ bare_end s f d → Some (f, e) ≡ value_span s q d
unfolding value_span
span_is {s} {q} {c} {f} {e} d k h b w r =
    let n = length (drop q s) in
    let o = bare_ends d r in
    let g = given o n (shorter s q f n (omega (arith, k.low, w.low)) (omega arith)) in
    let is : read_after_name n d (drop q s) ≡ got (item (drop f s) (drop e s) g.0) (ws (drop e s)) = rw (k.is, at_byte s c h, b) (placed_at d w n ∙ ap (placed_item (drop f s)) g.1) in
    ap₂ (λ (x z : ℕ). Some (x, z)) (sym (pos_drop s f (omega (arith, (bounds o).0, (bounds o).1)))) (sym (pos_drop s e (bounds o).1)) ∙ ap (span_of s) (sym is)

pub span_none : {s : List ℕ} {q : ℕ} (d : ℕ) → AfterName s q d None → None ≡ value_span s q d
unfolding value_span
span_none {s} {q} d h = ap (span_of s) (sym (none h (length (drop q s)) (omega arith)))

-- THE WHOLE TEXT

-- as `read`, with any fuel
abbrev read_text : ℕ → ℕ → List ℕ → Got LMembers
read_text d n s = expect 0x7B (ws s) (λ r. then (read_object n d r) (λ ms y. ends_by ms (ws y)))

module _ {s : List ℕ} (d : ℕ) where
  text_ends : {e : ℕ} → EndsBy (read_text d) s 0 0 (Some e) → true ≡ is_text d s
  unfolding is_text read
  text_ends h = sym (ap is_got (given h (length s) (omega arith)).1)

  text_bad : EndsBy (read_text d) s 0 0 None → false ≡ is_text d s
  unfolding is_text read
  text_bad h = sym (ap is_got (none h (length s) (omega arith)))

  module _ {at : ℕ} (k : SkipsTo s 0 at) where
    -- past the brace
    in_text : {r : End} → EndsBy (λ n x. expect 0x7B x (λ y. then (read_object n d y) (λ ms z. ends_by ms (ws z)))) s at 0 r → EndsBy (read_text d) s 0 0 r
    in_text h = moved (λ n x. expect 0x7B x (λ y. then (read_object n d y) (λ ms z. ends_by ms (ws z)))) k h

    pub text_is_lem : {e j : ℕ} → at < length s → get_or s at 0 ≡ 0x7B → ObjectEnds s (at + 1) d (Some e) → SkipsTo s e j → eqb j (length s) ≡ is_text d s
    text_is_lem {e} {j} h b o w = by_end (eqb j (length s)) refl
      where
        past : {r : End} → ((ms : LMembers) → EndsBy (λ n x. ends_by ms x) s j e r) → EndsBy (read_text d) s 0 0 r
        past f = in_text (first h (omega arith) (λ n. rw b) (bind (omega arith) (λ x ms n y. ends_by ms (ws y)) o (λ ms. moved (λ n x. ends_by ms x) w (f ms))))

        by_end : (t : Bool) → eqb j (length s) ≡ t → t ≡ is_text d s
        by_end true q =
            let i : length s ≤ j = omega (arith, eqb-true j (length s) q) in
            text_ends (past (λ ms. done ms w.low (w.high (bounds o).1) (λ n. rw (drop_of_length-le s i))))
        by_end false q =
            let i : j < length s = omega (arith, eqb-false j (length s) q, w.high (bounds o).1) in
            text_bad (past (λ ms. first_bad i (omega (arith, w.low)) (λ n. refl)))

    pub text_object_bad : at < length s → get_or s at 0 ≡ 0x7B → ObjectEnds s (at + 1) d None → false ≡ is_text d s
    text_object_bad h b o = text_bad (in_text (first h (omega arith) (λ n. rw b) (bind_bad (omega arith) (λ x ms n y. ends_by ms (ws y)) o)))

    pub text_other : at < length s → (get_or s at 0 ≡ 0x7B → ⊥) → false ≡ is_text d s
    text_other h b = text_bad (in_text (first_bad h (omega arith) (λ n. rw (ne_eqb (get_or s at 0) 0x7B b))))

    pub text_out : length s ≤ at → false ≡ is_text d s
    text_out h = text_bad (in_text (out h (λ n. refl)))
