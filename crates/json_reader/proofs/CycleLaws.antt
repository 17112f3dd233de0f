-- The readers that call one another: a law for each way through each function.
use Rattle.std.specs.Prelude.{Some, None}
use mathlib.Core.Path.{◌≡◌, refl, ◌∙◌}
use mathlib.Core.List.{List, [], ◌∷◌}
use Prim.Native.Nat.{ℕ, suc, ◌≤◌, ◌<◌, ◌+◌, ◌-◌}
use native.Mathlib.Omega.{arith}
use lib.ListN.{length, drop, get_or}
use borrow.Author.Tests.{eq-eqb, ne_eqb}
use Rattle.json_grammar_rules.specs.Value.{LMember, string_l, number_l, true_l, false_l, null_l, array_l, object_l, item, named}
use Rattle.json_grammar_rules.specs.Reader.{Got, bad, got, over, expect, ws, deeper, up_to, value_lead, read_chars, read_value, read_more_elements, read_more_members}
use Rattle.json_grammar_rules.proofs.ReaderLaws.{expect_over}
use Rattle.json_grammar_rules.proofs.Sequences.{Sequence, sequence, members, elements}
use Rattle.json_grammar_rules.specs.Levels.{read_members}
use Rattle.json_string.specs.Ends.{End, by, shorter}
use Rattle.json_string.specs.Strings.{string_end, StringEnds}
use Rattle.json_string.specs.StringLaws as string
use Rattle.json_tokens.specs.Tokens.{EndsBy, SkipsTo, word_end, number_end}
use Rattle.json_tokens.specs.TokenLaws.{number_ends, word_ends}
use Rattle.json_reader.specs.Reads.{ValueEnds, BareEnds, ArrayEnds, ElementsEnd, ObjectEnds, MembersEnd, MemberEnds, AfterName}
use Rattle.json_reader.specs.Reads.{read_trimmed, bare_end}
use Rattle.json_reader.specs.ReadLaws.{bare_ends}
use Rattle.json_reader.specs.ValueLaws.{lead_number, no_trimmed, placed_at}
use Rattle.json_tokens.specs.EndsLaws.{given, none, bounds, earlier, same, wrong, out, first, first_below, first_same, first_only, first_bad, bind, bind_bad, map, renamed, moved, deepened}

-- SEQUENCES, of elements and of members: one or more with commas between them, and the closing byte

module _ {A B : Type 0} {nothing : A} {cons : B → A → A} {one : ℕ → ℕ → List ℕ → Got B} {inside more : ℕ → ℕ → List ℕ → Got A} {close : ℕ}
    (q : Sequence nothing cons one inside more close) {s : List ℕ} where
  module _ {at e : ℕ} (d : ℕ) (h : EndsBy (λ n x. one n d x) s at at (Some e)) where
    one_read : {r : End} → EndsBy (λ n x. more n d x) s e e r → EndsBy (λ n x. sequence cons one more n d x) s at at r
    one_read k = bind (omega arith) (λ x b n y. over (cons b) (more n d y)) h (λ b. map (λ n x. cons b) k)

    pub list_close : e < length s → get_or s e 0 ≡ close → EndsBy (λ n x. sequence cons one more n d x) s at at (Some (e + 1))
    list_close k b = one_read (first_only k (omega arith) nothing (λ n. q.more_none n d (get_or s e 0) (drop (e + 1) s) (eq-eqb (get_or s e 0) close b)))

    pub list_other : e < length s → (get_or s e 0 ≡ close → ⊥) → (get_or s e 0 ≡ 0x2C → ⊥) → EndsBy (λ n x. sequence cons one more n d x) s at at None
    list_other k b c =
        one_read (first_bad k (omega arith) (λ n. q.more_other n d (get_or s e 0) (drop (e + 1) s) (ne_eqb (get_or s e 0) close b) (ne_eqb (get_or s e 0) 0x2C c)))

    pub list_out : length s ≤ e → EndsBy (λ n x. sequence cons one more n d x) s at at None
    list_out k = one_read (out k (λ n. q.more_out n d))

  pub list_bad : {at : ℕ} (d : ℕ) → EndsBy (λ n x. one n d x) s at at None → EndsBy (λ n x. sequence cons one more n d x) s at at None
  list_bad d h = bind_bad (omega arith) (λ x b n y. over (cons b) (more n d y)) h

  -- past the opening byte
  pub opened_deep : {from : ℕ} (d : ℕ) → d ≡ 0 → EndsBy (λ n x. deeper d (λ e. inside n e (ws x))) s from from None
  opened_deep d e = wrong (λ n. rw e)

  module _ {from at : ℕ} (d : ℕ) (z : d ≡ 0 → ⊥) (k : SkipsTo s from at) where
    opened : {r : End} → EndsBy (λ n x. inside n (d - 1) x) s at from r → EndsBy (λ n x. deeper d (λ e. inside n e (ws x))) s from from r
    opened h = deepened (λ e n x. inside n e (ws x)) d z (moved (λ n x. inside n (d - 1) x) k h)

    pub opened_empty : at < length s → get_or s at 0 ≡ close → EndsBy (λ n x. deeper d (λ e. inside n e (ws x))) s from from (Some (at + 1))
    opened_empty h b =
        opened (first_only h (omega (arith, k.low)) nothing (λ n. q.inside_none (suc n) (d - 1) (get_or s at 0) (drop (at + 1) s) (eq-eqb (get_or s at 0) close b)))

    pub opened_some : {r : End} → at < length s → (get_or s at 0 ≡ close → ⊥)
        → EndsBy (λ n x. sequence cons one more n (d - 1) x) s at at r → EndsBy (λ n x. deeper d (λ e. inside n e (ws x))) s from from r
    opened_some h b rest =
        opened (first_same h (omega (arith, k.low)) (λ n. q.inside_some (suc n) (d - 1) (get_or s at 0) (drop (at + 1) s) (ne_eqb (get_or s at 0) close b)) (earlier k.low rest))

    pub opened_out : length s ≤ at → EndsBy (λ n x. deeper d (λ e. inside n e (ws x))) s from from None
    opened_out h = opened (out h (λ n. q.inside_out n (d - 1)))

-- a comma: a value passes over the white space before it, a member doesn't
pub elements_comma : {s : List ℕ} {at e : ℕ} {r : End} (d : ℕ) → ValueEnds s at d (Some e) → e < length s → get_or s e 0 ≡ 0x2C → ElementsEnd s (e + 1) d r → ElementsEnd s at d r
unfolding read_more_elements
elements_comma d h k b rest = one_read elements d h (first_below k (omega arith) (λ n. rw b) rest)

pub members_comma : {s : List ℕ} {at e j : ℕ} {r : End} (d : ℕ) → MemberEnds s at d (Some e) → e < length s → get_or s e 0 ≡ 0x2C → SkipsTo s (e + 1) j → MembersEnd s j d r
    → MembersEnd s at d r
unfolding read_more_members
members_comma d h k b w rest = one_read members d h (first_below k (omega arith) (λ n. rw b) (moved (λ n x. read_members n d x) w (earlier w.low rest)))

-- A MEMBER: a string, a colon and a value

module _ {s : List ℕ} {from at : ℕ} (d : ℕ) (k : SkipsTo s from at) where
  colon_value : {r : End} → EndsBy (λ n x. expect 0x3A x (λ y. read_value n d y)) s at from r → AfterName s from d r
  colon_value h = moved (λ n x. expect 0x3A x (λ y. read_value n d y)) k h

  pub colon_is : {r : End} → at < length s → get_or s at 0 ≡ 0x3A → ValueEnds s (at + 1) d r → AfterName s from d r
  colon_is h b rest = colon_value (first h (omega (arith, k.low)) (λ n. rw b) rest)

  pub colon_other : at < length s → (get_or s at 0 ≡ 0x3A → ⊥) → AfterName s from d None
  colon_other h b = colon_value (first_bad h (omega (arith, k.low)) (λ n. rw (ne_eqb (get_or s at 0) 0x3A b)))

  pub colon_out : length s ≤ at → AfterName s from d None
  colon_out h = colon_value (out h (λ n. refl))

string_ends : {s : List ℕ} {at : ℕ} {r : End} → r ≡ string_end s at → EndsBy read_chars s at at r
unfolding StringEnds
string_ends {s} {at} h = record { ends = string.string_ends s at h }

pub string_bounds : (s : List ℕ) (at e : ℕ) → Some e ≡ string_end s at → (at ≤ e) × (e ≤ length s)
string_bounds s at e h = bounds (string_ends h)

-- what follows the quotation mark of a name, the bytes x, after the characters cs
abbrev past_name : ℕ → List ℕ → List ℕ → ℕ → List ℕ → Got LMember
past_name d x cs n y = expect 0x3A (ws y) (λ z. over (named x (0x22 ∷ y) cs) (read_value n d z))

module _ {s : List ℕ} {from : ℕ} (d : ℕ) where
  pub member_is : {q : ℕ} {r : End} → from < length s → get_or s from 0 ≡ 0x22 → Some q ≡ string_end s (from + 1) → AfterName s q d r → MemberEnds s from d r
  member_is {q} h b k rest =
      first h (omega arith) (λ n. rw b)
      (bind (omega arith) (past_name d) (string_ends k) (λ cs. same (λ n. expect_over 0x3A (ws (drop q s)) (named (drop (from + 1) s) (0x22 ∷ drop q s) cs) (λ z. read_value n d z)) (map (λ n y. named (drop (from + 1) s) (0x22 ∷ y) cs) rest)))

  pub member_name_bad : from < length s → get_or s from 0 ≡ 0x22 → None ≡ string_end s (from + 1) → MemberEnds s from d None
  member_name_bad h b k = first h (omega arith) (λ n. rw b) (bind_bad (omega arith) (past_name d) (string_ends k))

  pub member_no_quote : from < length s → (get_or s from 0 ≡ 0x22 → ⊥) → MemberEnds s from d None
  member_no_quote h b = first_bad h (omega arith) (λ n. rw (ne_eqb (get_or s from 0) 0x22 b))

  pub member_out : length s ≤ from → MemberEnds s from d None
  member_out h = out h (λ n. refl)

-- A VALUE FROM ITS FIRST BYTE ON

pub bare_out : {s : List ℕ} {at : ℕ} (d : ℕ) → length s ≤ at → BareEnds s at d None
bare_out d h = out h (no_trimmed d)

module _ {s : List ℕ} {at : ℕ} {r : End} (d : ℕ) (h : at < length s) where
  pub bare_string : get_or s at 0 ≡ 0x22 → r ≡ string_end s (at + 1) → BareEnds s at d r
  unfolding read_trimmed value_lead
  bare_string b k = first_below h (omega arith) (λ n. rw b) (map (λ _ _. string_l) (string_ends k))

  pub bare_array : get_or s at 0 ≡ 0x5B → ArrayEnds s (at + 1) d r → BareEnds s at d r
  unfolding read_trimmed value_lead
  bare_array b k = first_below h (omega arith) (λ n. rw b) (map (λ _ _. array_l) k)

  pub bare_object : get_or s at 0 ≡ 0x7B → ObjectEnds s (at + 1) d r → BareEnds s at d r
  unfolding read_trimmed value_lead
  bare_object b k = first_below h (omega arith) (λ n. rw b) (map (λ _ _. object_l) k)

  pub bare_true : get_or s at 0 ≡ 0x74 → r ≡ word_end (0x72 ∷ 0x75 ∷ 0x65 ∷ []) s (at + 1) → BareEnds s at d r
  unfolding read_trimmed value_lead
  bare_true b k = first_below h (omega arith) (λ n. rw b) (map (λ _ _ _. true_l) (word_ends _ (omega arith) k))

  pub bare_false : get_or s at 0 ≡ 0x66 → r ≡ word_end (0x61 ∷ 0x6C ∷ 0x73 ∷ 0x65 ∷ []) s (at + 1) → BareEnds s at d r
  unfolding read_trimmed value_lead
  bare_false b k = first_below h (omega arith) (λ n. rw b) (map (λ _ _ _. false_l) (word_ends _ (omega arith) k))

  pub bare_null : get_or s at 0 ≡ 0x6E → r ≡ word_end (0x75 ∷ 0x6C ∷ 0x6C ∷ []) s (at + 1) → BareEnds s at d r
  unfolding read_trimmed value_lead
  bare_null b k = first_below h (omega arith) (λ n. rw b) (map (λ _ _ _. null_l) (word_ends _ (omega arith) k))

  pub bare_number : (get_or s at 0 ≡ 0x22 → ⊥) → (get_or s at 0 ≡ 0x5B → ⊥) → (get_or s at 0 ≡ 0x7B → ⊥) → (get_or s at 0 ≡ 0x74 → ⊥) → (get_or s at 0 ≡ 0x66 → ⊥) → (get_or s at 0 ≡ 0x6E → ⊥)
      → r ≡ number_end s at → BareEnds s at d r
  unfolding read_trimmed
  bare_number h1 h2 h3 h4 h5 h6 k = first_same h (omega arith) (λ n. rw (lead_number (get_or s at 0) h1 h2 h3 h4 h5 h6)) (map (λ _ _. number_l) (renamed r (λ x a y. up_to x y) (omega arith) (number_ends k)))

-- A VALUE BETWEEN WHITE SPACE

module _ {s : List ℕ} {from at : ℕ} (d : ℕ) (k : SkipsTo s from at) where
  pub value_is : {e j : ℕ} → Some e ≡ bare_end s at d → SkipsTo s e j → ValueEnds s from d (Some j)
  value_is {e} {j} r w =
      let b = bare_ends d r in
      record {
        ends = λ n i.
            let g = given b n (shorter s from at n k.low i) in
            by s from (Some j) _ (got (item (drop at s) (drop e s) g.0) (drop j s)) (placed_at d k n ∙ rw (g.1, w.is)) (omega (arith, k.low, (bounds b).0, w.low), w.high (bounds b).1, refl);
      }

  pub value_bad : None ≡ bare_end s at d → ValueEnds s from d None
  value_bad r = record { ends = λ n i. by s from None _ bad (placed_at d k n ∙ rw (none (bare_ends d r) n (shorter s from at n k.low i))) tt }
