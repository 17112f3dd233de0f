-- With fuel that is enough, a reader gives the same whatever the fuel; and it leaves the end of what it was given, with some bytes taken.
use Rattle.std.specs.Prelude.{◌≡◌, refl, Bool, true, false, List, [], ◌∷◌, ℕ, zero, suc, ◌≤◌, ◌<◌, eqb, length}
use Rattle.std.proofs.Common.{sym, ◌∙◌, subst, arith, eqb-true}
use Rattle.std.proofs.Math.Path.{ap}
use Rattle.json_grammar_rules.specs.Value.{LItem, LMember, string_l, array_l, object_l, item, named}
use Rattle.json_grammar_rules.specs.Reader.{Got, bad, got, then, over, one_by, one, ws, deeper, placed_item, ValueLead, quote_lead, bracket_lead, brace_lead, true_lead, false_lead, null_lead, number_lead, value_lead}
use Rattle.json_grammar_rules.specs.Reader.{value_by_lem, read_value, read_more_elements, read_more_members}
use Rattle.json_grammar_rules.proofs.Sequences.{Sequence, sequence, members, elements, member_inv}
use Rattle.json_grammar_rules.specs.Levels.{read_bare, read_member}
use Rattle.json_grammar_rules.proofs.CharLaws.{chars_fuel}
use Rattle.json_grammar_rules.proofs.Endings.{Ending, shorter_ending, ending_of, ending_ws, value_read, chars_leave, colon_ends}

-- a reader of which both hold
pub record Steady {A : Type 0} (f : ℕ → List ℕ → Got A) : Type 0 where
  pub leaves : (n : ℕ) (x : List ℕ) (a : A) (r : List ℕ) → f n x ≡ got a r → Ending x r × (length r < length x)
  pub fuel : (n m : ℕ) (x : List ℕ) → length x ≤ n → length x ≤ m → f n x ≡ f m x

-- STEPS that give the same

then_same : {A B : Type 0} (g h : Got A) (k l : A → List ℕ → Got B) → g ≡ h → ((a : A) (r : List ℕ) → g ≡ got a r → k a r ≡ l a r) → then g k ≡ then h l
then_same {A} bad h k l e f = ap (λ (x : Got A). then x l) e
then_same {A} (got a r) h k l e f = f a r refl ∙ ap (λ (x : Got A). then x l) e

pub one_same : {A : Type 0} (p : ℕ → Bool) (s : List ℕ) (k l : ℕ → List ℕ → Got A) → ((b : ℕ) (x : List ℕ) → s ≡ b ∷ x → k b x ≡ l b x) → one p s k ≡ one p s l
one_same p [] k l f = refl
one_same p (b ∷ s) k l f = go (p b)
  where
    go : (t : Bool) → one_by t b s k ≡ one_by t b s l
    go true = f b s refl
    go false = refl

deeper_same : {A : Type 0} (d : ℕ) (f g : ℕ → Got A) → ((e : ℕ) → f e ≡ g e) → deeper d f ≡ deeper d g
deeper_same zero f g h = refl
deeper_same (suc d) f g h = h d

-- readers that give nothing where nothing is left
none_same : {A : Type 0} (f g : List ℕ → Got A) → f [] ≡ bad → g [] ≡ bad → (x : List ℕ) → length x ≤ 0 → f x ≡ g x
none_same f g p q [] h = p ∙ sym q
none_same f g p q (b ∷ x) h = absurd (omega arith)

-- WHAT IS LEFT

value_leaves : (n d : ℕ) (x : List ℕ) (i : LItem) (r : List ℕ) → read_value n d x ≡ got i r → Ending x r
value_leaves n d x (item a b v) r e = (value_read n d x a b v r e).leaves

member_leaves : (n d : ℕ) (x : List ℕ) (m : LMember) (r : List ℕ) → read_member n d x ≡ got m r → Ending x r
member_leaves n d x m r e = let i = member_inv n d x m r e in ending_of (colon_ends i) (value_leaves n d i.colon i.value r i.reads)

-- THE SAME WITH ANY FUEL, of sequences from what is known of one and of what follows it

module _ {A B : Type 0} {nothing : A} {cons : B → A → A} {one : ℕ → ℕ → List ℕ → Got B} {inside more : ℕ → ℕ → List ℕ → Got A} {close : ℕ}
    (q : Sequence nothing cons one inside more close) (leaves : (n d : ℕ) (x : List ℕ) (b : B) (r : List ℕ) → one n d x ≡ got b r → Ending x r) (n m : ℕ)
    (one-fuel : (d : ℕ) (x : List ℕ) → length x ≤ n → length x ≤ m → one n d x ≡ one m d x)
    (more-fuel : (d : ℕ) (x : List ℕ) → length x ≤ n → length x ≤ m → more n d x ≡ more m d x) where
  list_fuel : (d : ℕ) (x : List ℕ) → length x ≤ n → length x ≤ m → sequence cons one more n d x ≡ sequence cons one more m d x
  list_fuel d x h k =
      then_same (one n d x) (one m d x) (λ b r. over (cons b) (more n d r)) (λ b r. over (cons b) (more m d r)) (one-fuel d x h k)
      (λ b r e. let l = shorter_ending (leaves n d x b r e) in ap (over (cons b)) (more-fuel d r (omega arith) (omega arith)))

  inside_fuel : (d : ℕ) (x : List ℕ) → length x ≤ n → length x ≤ m → inside n d x ≡ inside m d x
  inside_fuel d [] h k = q.inside_out n d ∙ sym (q.inside_out m d)
  inside_fuel d (b ∷ x) h k = go (eqb b close) refl
    where
      go : (t : Bool) → eqb b close ≡ t → inside n d (b ∷ x) ≡ inside m d (b ∷ x)
      go true e = q.inside_none n d b x e ∙ sym (q.inside_none m d b x e)
      go false e = q.inside_some n d b x e ∙ list_fuel d (b ∷ x) h k ∙ sym (q.inside_some m d b x e)

  opened_fuel : (d : ℕ) (x : List ℕ) → length x ≤ n → length x ≤ m → deeper d (λ e. inside n e (ws x)) ≡ deeper d (λ e. inside m e (ws x))
  opened_fuel d x h k =
      let l = shorter_ending (ending_ws x) in
      deeper_same d (λ e. inside n e (ws x)) (λ e. inside m e (ws x)) (λ e. inside_fuel e (ws x) (omega arith) (omega arith))

  more_next : (d : ℕ) (x : List ℕ) → length x ≤ suc n → length x ≤ suc m → more (suc n) d x ≡ more (suc m) d x
  more_next d [] h k = q.more_out (suc n) d ∙ sym (q.more_out (suc m) d)
  more_next d (b ∷ x) h k = go (eqb b close) refl (eqb b 0x2C) refl
    where
      go : (t : Bool) → eqb b close ≡ t → (u : Bool) → eqb b 0x2C ≡ u → more (suc n) d (b ∷ x) ≡ more (suc m) d (b ∷ x)
      go true e u f = q.more_none n d b x e ∙ sym (q.more_none m d b x e)
      go false e true f =
          let l = shorter_ending (ending_ws x) in
          subst (λ (c : ℕ). more (suc n) d (c ∷ x) ≡ more (suc m) d (c ∷ x)) (sym (eqb-true b 0x2C f))
          (q.more_some n d x ∙ list_fuel d (ws x) (omega arith) (omega arith) ∙ sym (q.more_some m d x))
      go false e false f = q.more_other n d b x e f ∙ sym (q.more_other m d b x e f)

-- .. of the levels, from what is known of the readers below
record Same (n m : ℕ) : Type 0 where
  value : (d : ℕ) (x : List ℕ) → length x ≤ n → length x ≤ m → read_value n d x ≡ read_value m d x
  elements : (d : ℕ) (x : List ℕ) → length x ≤ n → length x ≤ m → read_more_elements n d x ≡ read_more_elements m d x
  members : (d : ℕ) (x : List ℕ) → length x ≤ n → length x ≤ m → read_more_members n d x ≡ read_more_members m d x

module _ (n m : ℕ) (below : Same n m) where
  member_same : (d : ℕ) (x : List ℕ) → length x ≤ n → length x ≤ m → read_member n d x ≡ read_member m d x
  member_same d x h k =
      one_same (λ b. eqb b 0x22) x _ _ λ b f p. then_same _ _ _ _ (chars_fuel n m f (omega (arith, ap length p)) (omega (arith, ap length p)))
      λ cs r c. one_same (λ b. eqb b 0x3A) (ws r) _ _ λ b' y o.
      let l : length y ≤ length x = omega (arith, ap length p, shorter_ending (chars_leave n f cs r c), shorter_ending (ending_ws r), ap length o) in
      ap (over (named f (0x22 ∷ r) cs)) (below.value d y (omega arith) (omega arith))

  lead_same : (d : ℕ) (t : ValueLead) (b : ℕ) (x : List ℕ) → length x ≤ n → length x ≤ m
      → value_by_lem n (λ e r. read_value n e r) (λ e r. read_more_elements n e r) (λ e r. read_more_members n e r) d t b x
      ≡ value_by_lem m (λ e r. read_value m e r) (λ e r. read_more_elements m e r) (λ e r. read_more_members m e r) d t b x
  lead_same d quote_lead b x h k = ap (over string_l) (chars_fuel n m x h k)
  lead_same d bracket_lead b x h k = ap (over array_l) (opened_fuel elements value_leaves n m below.value below.elements d x h k)
  lead_same d brace_lead b x h k = ap (over object_l) (opened_fuel members member_leaves n m member_same below.members d x h k)
  lead_same d true_lead b x h k = refl
  lead_same d false_lead b x h k = refl
  lead_same d null_lead b x h k = refl
  lead_same d number_lead b x h k = refl

  bare_same : (d : ℕ) (x : List ℕ) → length x ≤ suc n → length x ≤ suc m → read_bare n d x ≡ read_bare m d x
  bare_same d [] h k = refl
  bare_same d (b ∷ x) h k = lead_same d (value_lead b) b x (omega arith) (omega arith)

  value_next : (d : ℕ) (x : List ℕ) → length x ≤ suc n → length x ≤ suc m → read_value (suc n) d x ≡ read_value (suc m) d x
  unfolding read_value
  value_next d x h k = let l = shorter_ending (ending_ws x) in ap (placed_item (ws x)) (bare_same d (ws x) (omega arith) (omega arith))

-- THE LEVELS TIED

same : (n m : ℕ) → Same n m
same zero m = record {
  value = λ d x h k. none_same (read_value 0 d) (read_value m d) (elements.one_out 0 d) (elements.one_out m d) x h;
  elements = λ d x h k. none_same (read_more_elements 0 d) (read_more_elements m d) (elements.more_out 0 d) (elements.more_out m d) x h;
  members = λ d x h k. none_same (read_more_members 0 d) (read_more_members m d) (members.more_out 0 d) (members.more_out m d) x h;
}
same (suc n) zero = record {
  value = λ d x h k. none_same (read_value (suc n) d) (read_value 0 d) (elements.one_out (suc n) d) (elements.one_out 0 d) x k;
  elements = λ d x h k. none_same (read_more_elements (suc n) d) (read_more_elements 0 d) (elements.more_out (suc n) d) (elements.more_out 0 d) x k;
  members = λ d x h k. none_same (read_more_members (suc n) d) (read_more_members 0 d) (members.more_out (suc n) d) (members.more_out 0 d) x k;
}
same (suc n) (suc m) =
    let b = same n m in
    record {
      value = value_next n m b;
      elements = more_next elements value_leaves n m b.value b.elements;
      members = more_next members member_leaves n m (member_same n m b) b.members;
    }

pub value_fuel : (n m d : ℕ) (x : List ℕ) → length x ≤ n → length x ≤ m → read_value n d x ≡ read_value m d x
value_fuel n m = (same n m).value

pub member_fuel : (n m d : ℕ) (x : List ℕ) → length x ≤ n → length x ≤ m → read_member n d x ≡ read_member m d x
member_fuel n m = member_same n m (same n m)

-- a value from its first byte on, with fuel for the others
pub bare_fuel : (n m d : ℕ) (x : List ℕ) → length x ≤ suc n → length x ≤ suc m → read_bare n d x ≡ read_bare m d x
bare_fuel n m = bare_same n m (same n m)
