-- Steps over members and elements: a law for each way through each function.
use Rattle.std.specs.Prelude.{Some, None}
use mathlib.Core.Path.{◌≡◌, refl, sym, ap, ap₂, ◌∙◌}
use mathlib.Core.List.{List, ◌∷◌}
use Prim.Native.Nat.{ℕ, ◌+◌, ◌-◌, ◌≤◌, ◌<◌}
use native.Mathlib.Omega.{arith}
use lib.ListN.{length, drop, get_or, length-drop, drop_of_length-le}
use borrow.Author.Tests.{eq-eqb, ne_eqb}
use Rattle.json_grammar_rules.specs.Value.{LValue, LItem, LMember, named, plain}
use Rattle.json_grammar_rules.specs.declared.Kind.{Kind}
use Rattle.json_grammar_rules.specs.Places.{kind_of, margin, pos}
use Rattle.json_grammar_rules.specs.Reader.{Got, then, over, expect, ws, placed_item, read_chars, read_value, value_lead}
use Rattle.json_grammar_rules.proofs.ReaderLaws.{expect_over}
use Rattle.json_grammar_rules.specs.Levels.{read_member}
use Rattle.json_grammar_rules.proofs.ByteLaws.{by_byte}
use Rattle.json_string.specs.Ends.{End, at_byte, pos_drop, ends_at, ends_bad}
use Rattle.json_string.specs.Strings.{StringEnds}
use Rattle.json_tokens.specs.Tokens.{SkipsTo}
use Rattle.json_reader.specs.Reads.{bare_end, value_span, read_trimmed, read_after_name, kind_by}
use Rattle.json_tokens.specs.EndsLaws.{given, none, bounds}
use Rattle.json_reader.specs.ValueLaws.{trimmed_kind, placed_at}
use Rattle.json_reader.specs.ReadLaws.{bare_ends, span_between, span_none}
use Rattle.json_rules.specs.declared.Place.{Place}
use Rattle.json_members.specs.declared.steps.Item.{Item}
use Rattle.json_rules.specs.Answers.{place}
use Rattle.json_members.specs.Steps.{first_in, top_in, top_members, first_member, start_in, next_in, item_by, item_in, item_at, entry_by, entry_in, entry_at}

pos_byte : (s : List ℕ) (i : ℕ) → i < length s → pos s (get_or s i 0 ∷ drop (i + 1) s) ≡ i
pos_byte s i h = ap (pos s) (sym (at_byte s i h)) ∙ pos_drop s i (omega arith)

-- THE FIRST ONE

module _ (close : ℕ) {s : List ℕ} {from p : ℕ} (w : SkipsTo s from p) where
  pub first_out : length s ≤ p → None ≡ first_in close s (ws (drop from s))
  unfolding first_in
  first_out h = sym (ap (first_in close s) (w.is ∙ drop_of_length-le s h))

  module _ (h : p < length s) where
    pub first_closed : get_or s p 0 ≡ close → None ≡ first_in close s (ws (drop from s))
    unfolding first_in
    first_closed b = sym (ap (first_in close s) (w.is ∙ at_byte s p h) ∙ rw (eq-eqb (get_or s p 0) close b))

    pub first_found : (get_or s p 0 ≡ close → ⊥) → Some p ≡ first_in close s (ws (drop from s))
    unfolding first_in
    first_found b = sym (ap (first_in close s) (w.is ∙ at_byte s p h) ∙ rw (ne_eqb (get_or s p 0) close b) (ap Some (pos_byte s p h)))

-- of the top object
module _ {h : List ℕ} {at : ℕ} (w : SkipsTo h 0 at) where
  pub top_is : {r : End} → at < length h → r ≡ first_member h at → r ≡ top_members h
  unfolding top_members top_in first_member
  top_is k e = e ∙ sym (ap (top_in h) (w.is ∙ at_byte h at k))

  pub top_out : length h ≤ at → None ≡ top_members h
  unfolding top_members top_in
  top_out k = sym (ap (top_in h) (w.is ∙ drop_of_length-le h k))

-- THE NEXT ONE, after a value that ends at e

module _ {s : List ℕ} {e at : ℕ} (w : SkipsTo s e at) where
  pub next_out : length s ≤ at → None ≡ next_in s (ws (drop e s))
  unfolding next_in
  next_out h = sym (ap (next_in s) (w.is ∙ drop_of_length-le s h))

  module _ (h : at < length s) where
    pub next_other : (get_or s at 0 ≡ 0x2C → ⊥) → None ≡ next_in s (ws (drop e s))
    unfolding next_in
    next_other b = sym (ap (next_in s) (w.is ∙ at_byte s at h) ∙ rw (ne_eqb (get_or s at 0) 0x2C b))

    module _ (b : get_or s at 0 ≡ 0x2C) {p : ℕ} (v : SkipsTo s (at + 1) p) where
      past_comma : next_in s (ws (drop e s)) ≡ start_in s (drop p s)
      unfolding next_in
      past_comma = ap (next_in s) (w.is ∙ at_byte s at h) ∙ rw (eq-eqb (get_or s at 0) 0x2C b) (ap (start_in s) v.is)

      pub next_found : p < length s → Some p ≡ next_in s (ws (drop e s))
      unfolding start_in
      next_found g = sym (past_comma ∙ ap (start_in s) (at_byte s p g) ∙ ap Some (pos_byte s p g))

      pub next_end : length s ≤ p → None ≡ next_in s (ws (drop e s))
      unfolding start_in
      next_end g = sym (past_comma ∙ ap (start_in s) (drop_of_length-le s g))

-- THE KIND AND THE PLACE OF A VALUE, by its first byte

module _ (b f e : ℕ) where
  abbrev by_first : Place
  by_first = place (f + margin (kind_by (value_lead b))) (e - margin (kind_by (value_lead b)))

  pub place_string : b ≡ 0x22 → place (f + 1) (e - 1) ≡ by_first
  unfolding value_lead kind_by margin
  place_string h = rw (eq-eqb b 0x22 h)

  module _ (h : b ≡ 0x22 → ⊥) where
    no_margin : margin (kind_by (value_lead b)) ≡ 0
    unfolding value_lead kind_by margin
    no_margin =
        rw (ne_eqb b 0x22 h)
        (by_byte (λ l. margin (kind_by l) ≡ 0) b 0x5B (λ e. refl) (by_byte (λ l. margin (kind_by l) ≡ 0) b 0x7B (λ e. refl)
        (by_byte (λ l. margin (kind_by l) ≡ 0) b 0x74 (λ e. refl) (by_byte (λ l. margin (kind_by l) ≡ 0) b 0x66 (λ e. refl)
        (by_byte (λ l. margin (kind_by l) ≡ 0) b 0x6E (λ e. refl) refl)))))

    pub place_other : place f e ≡ by_first
    place_other = ap₂ place (omega (arith, no_margin)) (omega (arith, no_margin))

pub item_made : (s : List ℕ) (k : Kind) (f e : ℕ) (y : List ℕ) {x : Place} {j : Kind} {n : End} → x ≡ place (f + margin k) (e - margin k) → j ≡ k → n ≡ next_in s y
    → ◌≡◌ {A = Item} (record { value = record { kind = j; place = x }; next = n }) (item_by s k f e y)
unfolding item_by
item_made s k f e y a b c = cc

-- what is read of a value that stands from f to e
item_of : (s : List ℕ) (f e : ℕ) (v : LValue) → f < e → e ≤ length s → kind_of (plain v) ≡ kind_by (value_lead (get_or s f 0))
    → item_by s (kind_of (plain v)) (pos s (drop f s)) (pos s (drop e s)) (ws (drop e s)) ≡ item_by s (kind_by (value_lead (get_or s f 0))) f e (ws (drop e s))
item_of s f e v h l k = cc (k, pos_drop s f (omega arith), pos_drop s e l)

-- AN ELEMENT

module _ {s : List ℕ} {p f : ℕ} (d : ℕ) (w : SkipsTo s p f) where
  -- it is read from its first byte on
  from_first : {g : Got LValue} → read_trimmed (length s) d (drop f s) ≡ g → item_at s p d ≡ item_in s (placed_item (drop f s) g)
  unfolding item_at
  from_first c = ap (item_in s) (placed_at d w (length s) ∙ ap (placed_item (drop f s)) c)

  pub item_is : {e : ℕ} {r : Item} → Some e ≡ bare_end s f d → r ≡ item_by s (kind_by (value_lead (get_or s f 0))) f e (ws (drop e s)) → Some r ≡ item_at s p d
  unfolding item_in
  item_is {e} x c =
      let k = bare_ends d x in
      let b = bounds k in
      let h : f < length s = omega (arith, b.0, b.1) in
      let g = given k (length s) (omega (arith, length-drop f s)) in
      ap Some (c ∙ sym (item_of s f e g.0 (omega (arith, b.0)) b.1 (trimmed_kind (length s) d (get_or s f 0) (drop (f + 1) s) (ap (read_trimmed (length s) d) (sym (at_byte s f h)) ∙ g.1)))) ∙ sym (from_first g.1)

  pub item_none : None ≡ bare_end s f d → None ≡ item_at s p d
  unfolding item_in
  item_none x = sym (from_first (none (bare_ends d x) (length s) (omega (arith, length-drop f s))))

-- A MEMBER

pub span_within : (s : List ℕ) (q d : ℕ) {f e : ℕ} → Some (f, e) ≡ value_span s q d → (f < e) × (e ≤ length s)
span_within s q d k = let r = span_between s q d (length (drop q s)) (omega arith) k in (r.some, r.within)

module _ (s : List ℕ) (p d : ℕ) (h : p < length s) where
  -- past the quotation mark
  abbrev named_from : Got (List ℕ) → Got LMember
  named_from g = then g (λ cs r. expect 0x3A (ws r) (λ x. over (named (drop (p + 1) s) (0x22 ∷ r) cs) (read_value (length s) d x)))

  pub no_quote : (get_or s p 0 ≡ 0x22 → ⊥) → None ≡ entry_at s p d
  unfolding entry_at entry_in
  no_quote b = sym (ap (λ (x : List ℕ). entry_in s (read_member (length s) d x)) (at_byte s p h) ∙ rw (ne_eqb (get_or s p 0) 0x22 b))

  module _ (b : get_or s p 0 ≡ 0x22) where
    quoted : {g : Got (List ℕ)} → read_chars (length s) (drop (p + 1) s) ≡ g → entry_at s p d ≡ entry_in s (named_from g)
    unfolding entry_at
    quoted c = ap (λ (x : List ℕ). entry_in s (read_member (length s) d x)) (at_byte s p h) ∙ rw (eq-eqb (get_or s p 0) 0x22 b) (ap (λ (g : Got (List ℕ)). entry_in s (named_from g)) c)

    pub no_name : StringEnds s (p + 1) None → None ≡ entry_at s p d
    unfolding StringEnds entry_in
    no_name k = sym (quoted (ends_bad s (p + 1) (read_chars (length s) (drop (p + 1) s)) (k (length s) (omega (arith, length-drop (p + 1) s)))))

    module _ (q : ℕ) (k : StringEnds s (p + 1) (Some q)) where
      -- the value after the name
      valued : {g : Got LItem} → read_after_name (length s) d (drop q s) ≡ g → (cs : List ℕ) × (entry_at s p d ≡ entry_in s (over (named (drop (p + 1) s) (0x22 ∷ drop q s) cs) g))
      unfolding StringEnds
      valued {g} c =
          let i = ends_at s (p + 1) q (read_chars (length s) (drop (p + 1) s)) (k (length s) (omega (arith, length-drop (p + 1) s))) in
          (i.0, quoted i.1 ∙ ap (entry_in s) (expect_over 0x3A (ws (drop q s)) (named (drop (p + 1) s) (0x22 ∷ drop q s) i.0) (λ x. read_value (length s) d x) ∙ ap (over (named (drop (p + 1) s) (0x22 ∷ drop q s) i.0)) c))

      pub name_end_lem : (p + 1 ≤ q) × (q ≤ length s)
      unfolding StringEnds
      name_end_lem = let i = ends_at s (p + 1) q (read_chars (length s) (drop (p + 1) s)) (k (length s) (omega (arith, length-drop (p + 1) s))) in (i.2, i.3)

      name_place : place (p + 1) (q - 1) ≡ place (pos s (drop (p + 1) s)) (pos s (0x22 ∷ drop q s))
      unfolding pos
      name_place = ap₂ place (sym (pos_drop s (p + 1) (omega arith))) (omega (arith, name_end_lem.0, name_end_lem.1, length-drop q s))

      pub entry_is : {f e : ℕ} {i : Item} → Some (f, e) ≡ value_span s q d → i ≡ item_by s (kind_by (value_lead (get_or s f 0))) f e (ws (drop e s))
          → Some (record { name = place (p + 1) (q - 1); value = i.value; next = i.next }) ≡ entry_at s p d
      unfolding entry_in entry_by
      entry_is {f} {e} w c =
          let r = span_between s q d (length s) (omega (arith, length-drop q s)) w in
          ap₂ (λ (x : Place) (j : Item). Some (entry_by x j)) name_place (c ∙ sym (item_of s f e r.value r.some r.within r.kind)) ∙ sym (valued r.reads).1

      pub no_value : None ≡ value_span s q d → None ≡ entry_at s p d
      unfolding entry_in
      no_value w = sym (valued (span_none s q d (length s) (omega (arith, length-drop q s)) w)).1
