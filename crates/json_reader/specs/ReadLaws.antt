-- Laws of the contracts' equations: where an end is computed, the reader ends there for every fuel that is enough.
use Rattle.std.proofs.Math.Path.{◌≡◌, refl, ap, ap₂, subst}
use Rattle.std.proofs.Common.{sym, ◌∙◌, arith}
use mathlib.Core.List.{List, [], ◌∷◌}
use Rattle.std.specs.Prelude.{ℕ, zero, suc, ◌≤◌, ◌<◌, ◌+◌, drop, get_or, Some, None}
use Rattle.std.proofs.Math.ListN.{length}
use Rattle.json_grammar_rules.specs.Value.{LValue, LItem, item}
use Rattle.json_grammar_rules.specs.Places.{pos}
use Rattle.json_grammar_rules.specs.Reader.{Got, bad, got, ws, read_value}
use Rattle.json_grammar_rules.proofs.ReaderLaws.{no_bad, expect_inv}
use Rattle.json_grammar_rules.proofs.Written.{value}
use Rattle.json_grammar_rules.proofs.Sound.{bare_found}
use Rattle.json_grammar_rules.proofs.Endings.{Ending, shorter_ending, at_ending, ending_of, ending_drop, ending_byte, ending_ws, yield_leaves, value_read}
use Rattle.json_grammar_rules.proofs.Fuel.{Steady, one_same, value_fuel, bare_fuel}
use Rattle.json_string.specs.Ends.{End, at_byte}
use Rattle.json_tokens.specs.EndsLaws.{ends_of, is_end}
use Rattle.json_reader.specs.Reads.{read_trimmed, read_after_name, BareEnds, bare_end, span_of, value_span, Spanned}
use Rattle.json_reader.specs.ValueLaws.{trimmed_kind, no_trimmed}

-- A VALUE FROM ITS FIRST BYTE ON

bare_steady : (d : ℕ) → Steady (λ n x. read_trimmed n d x)
unfolding read_trimmed
bare_steady d = record { leaves = leaves; fuel = fuel }
  where
    leaves : (n : ℕ) (x : List ℕ) (v : LValue) (r : List ℕ) → read_trimmed n d x ≡ got v r → Ending x r × (length r < length x)
    leaves zero x v r e = no_bad e
    leaves (suc n) x v r e = let t = bare_found n d x v r e in yield_leaves r (value t.0) t.1

    fuel : (n m : ℕ) (x : List ℕ) → length x ≤ n → length x ≤ m → read_trimmed n d x ≡ read_trimmed m d x
    fuel n m [] h k = no_trimmed d n ∙ sym (no_trimmed d m)
    fuel zero m (b ∷ x) h k = absurd (omega arith)
    fuel (suc n) zero (b ∷ x) h k = absurd (omega arith)
    fuel (suc n) (suc m) (b ∷ x) h k = bare_fuel n m d (b ∷ x) h k

pub bare_ends : {s : List ℕ} {at : ℕ} {r : End} (d : ℕ) → r ≡ bare_end s at d → BareEnds s at d r
unfolding bare_end
bare_ends d e = ends_of (bare_steady d) e

pub bare_is : {s : List ℕ} {at : ℕ} {r : End} (d : ℕ) → BareEnds s at d r → r ≡ bare_end s at d
unfolding bare_end
bare_is d h = is_end h

-- THE VALUE OF A MEMBER

module _ (s : List ℕ) (q d n : ℕ) (l : length (drop q s) ≤ n) where
  after_fuel : read_after_name n d (drop q s) ≡ read_after_name (length (drop q s)) d (drop q s)
  after_fuel = one_same _ (ws (drop q s)) _ _ λ b y e. let k : length y ≤ length (drop q s) = omega (arith, ap length e, shorter_ending (ending_ws (drop q s))) in value_fuel n (length (drop q s)) d y (omega arith) k

  -- where a value is read, it stands at its place
  placed : (a b : List ℕ) (v : LValue) (y : List ℕ) → read_after_name n d (drop q s) ≡ got (item a b v) y → Spanned s q (pos s a) (pos s b) d n
  unfolding read_trimmed pos
  placed a b v y e =
      let i = expect_inv 0x3A (ws (drop q s)) (λ r. read_value n d r) (item a b v) y e in
      let r = value_read n d i.0 a b v y i.2 in
      let colon : Ending (ws (drop q s)) i.0 = subst (λ (z : List ℕ). Ending z i.0) (sym i.1) (ending_byte 0x3A i.0) in
      let begins : Ending s a = ending_of (ending_drop s q) (ending_of (ending_ws (drop q s)) (ending_of colon r.begins)) in
      let ends : Ending s b = ending_of begins r.ends in
      let f = at_ending begins in
      let t = at_ending ends in
      let h : pos s a < length s = omega (arith, r.some, shorter_ending begins) in
      record {
        value = v;
        reads = e ∙ ap (got (item a b v)) r.past ∙ ap₂ (λ (x z : List ℕ). got (item x z v) (ws z)) (sym f) (sym t);
        some = omega (arith, r.some, shorter_ending begins);
        within = omega arith;
        kind = trimmed_kind (suc r.below) d (get_or s (pos s a) 0) (drop (pos s a + 1) s) (ap (read_trimmed (suc r.below) d) (sym (at_byte s (pos s a) h) ∙ f) ∙ r.reads);
      }

  pub span_between : {f e : ℕ} → Some (f, e) ≡ value_span s q d → Spanned s q f e d n
  unfolding value_span
  span_between {f} {e} c = go (read_after_name n d (drop q s)) refl (c ∙ ap (span_of s) (sym after_fuel))
    where
      go : (g : Got LItem) → read_after_name n d (drop q s) ≡ g → Some (f, e) ≡ span_of s g → Spanned s q f e d n
      go bad k z = let w : ◌≡◌ {A = ℕ} 0 1 = cc in absurd (omega arith)
      go (got (item a b v) y) k z =
          let t : ◌≡◌ {A = ℕ × ℕ} (pos s a, pos s b) (f, e) = cc in
          let p : pos s a ≡ f = ap (λ (x : ℕ × ℕ). x.0) t in
          let o : pos s b ≡ e = ap (λ (x : ℕ × ℕ). x.1) t in
          rw (p, o) at (placed a b v y k)

  pub span_none : None ≡ value_span s q d → read_after_name n d (drop q s) ≡ bad
  unfolding value_span
  span_none c = go (read_after_name n d (drop q s)) (c ∙ ap (span_of s) (sym after_fuel))
    where
      go : (g : Got LItem) → None ≡ span_of s g → g ≡ bad
      go bad z = refl
      go (got (item a b v) y) z = let w : ◌≡◌ {A = ℕ} 0 1 = cc in absurd (omega arith)
