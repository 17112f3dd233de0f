-- Laws of the steps: where members or elements stand, a step gives the first of them and says where the others stand.
use Rattle.std.specs.Prelude.{◌≡◌, Bool, take, get_or, Some, None}
use Rattle.std.proofs.Math.Path.{refl, sym, ap, subst}
use Rattle.std.proofs.Common.{ap₂, ◌∙◌, arith, sub-one, eqb-true}
use Rattle.std.proofs.Math.Bool.{true, false}
use mathlib.Core.List.{List, [], ◌∷◌}
use Prim.Native.Nat.{ℕ, zero, suc, ◌+◌, ◌-◌, ◌≤◌, ◌<◌}
use Rattle.std.proofs.Math.Dec.{eqb}
use Rattle.std.proofs.Math.ListN.{length, drop, length-drop}
use Rattle.json_grammar_rules.specs.Value.{LValue, LItem, LItems, LMember, LMembers, string_l, number_l, true_l, false_l, null_l, array_l, object_l, item, inil, icons, named, lnil, lcons, plain}
use Rattle.json_grammar_rules.specs.declared.Kind.{Kind}
use Rattle.json_grammar_rules.specs.Places.{kind_of, margin, pos}
use Rattle.json_grammar_rules.specs.Reader.{Got, bad, got, deeper, ws, word, up_to, value_by_lem, read_chars, read_number, past_number, read_value, read_more_members, read_more_elements, read_object}
use Rattle.json_grammar_rules.specs.Reader.{ValueLead, quote_lead, bracket_lead, brace_lead, true_lead, false_lead, null_lead, number_lead, value_lead}
use Rattle.json_grammar_rules.proofs.ReaderLaws.{no_bad, then_inv, over_inv, read_inv}
use Rattle.json_grammar_rules.proofs.Sequences.{Sequence, sequence, members, elements, list_inv, list_out, MemberRead, member_inv}
use Rattle.json_grammar_rules.specs.Levels.{read_bare, read_member}
use Rattle.json_grammar_rules.proofs.Endings.{Ending, shorter_ending, at_ending, ending_of, ending_drop, ending_byte, ending_ws, ValueRead, value_read, name_ends, colon_ends}
use Rattle.json_grammar_rules.proofs.Fuel.{value_fuel, member_fuel}
use Rattle.json_string.specs.Ends.{End, at_byte}
use Rattle.json_string.specs.Strings.{NameAt}
use Rattle.json_reader.specs.Reads.{read_trimmed, read_array, kind_by}
use Rattle.json_reader.specs.ValueLaws.{trimmed_kind}
use Rattle.json_rules.specs.declared.Place.{Place}
use Rattle.json_rules.specs.Answers.{place}
use Rattle.json_members.specs.declared.steps.Item.{Item}
use Rattle.json_members.specs.declared.steps.Entry.{Entry}
use Rattle.json_members.specs.Members.{ReadsAt, ReadsFrom, MembersAt, MembersFrom, ElementsAt, ElementsFrom, FirstMember, FirstElement, TopMembers, part, Holds, ValueIs, NameIs, ItemAt, EntryAt}
use Rattle.json_members.specs.MemberLaws.{no_members, no_elements}
use Rattle.json_members.specs.Steps.{first_in, first_member, first_element, top_in, top_members, start_in, next_in, item_by, item_in, item_at, entry_by, entry_in, entry_at}

-- nowhere is no place
pub never : {A B : Type 0} {q : A} → None ≡ Some q → B
never e = absurd (let z : ◌≡◌ {A = ℕ} 0 1 = cc in omega arith)

some_is : {A : Type 0} {a b : A} → Some a ≡ Some b → a ≡ b
some_is e = cc

-- WHERE A SEQUENCE STANDS, once for members and elements

module _ {A B : Type 0} {nothing : A} {cons : B → A → A} {one : ℕ → ℕ → List ℕ → Got B} {inside more : ℕ → ℕ → List ℕ → Got A} {close : ℕ}
    (q : Sequence nothing cons one inside more close) where
  abbrev list : ℕ → ℕ → List ℕ → Got A
  list n d x = sequence cons one more n d x

  module _ {s : List ℕ} where
    -- what is read from an end of the text is read at its place
    reads_at : {x : List ℕ} → Ending s x → (n d : ℕ) (a : A) (r : List ℕ) → length x ≤ n → list n d x ≡ got a r → ReadsAt (λ m y. list m d y) s (pos s x) a
    reads_at {x} i n d a r l e = record { fuel = n; enough = omega (arith, ap length (at_ending i)); left = r; reads = ap (list n d) (at_ending i) ∙ e }

    first_is : (x : List ℕ) → Ending s x → (n d : ℕ) (a : A) (r : List ℕ) → length x ≤ n → inside n d x ≡ got a r → ReadsFrom (λ m y. list m d y) nothing s (first_in close s x) a
    unfolding first_in
    first_is [] i n d a r l e = no_bad (sym (q.inside_out n d) ∙ e)
    first_is (b ∷ x) i n d a r l e = go (eqb b close) refl
      where
        go : (t : Bool) → eqb b close ≡ t → ReadsFrom (λ m y. list m d y) nothing s (first_in close s (b ∷ x)) a
        go true h = rw h (let z : got a r ≡ got nothing x = sym e ∙ q.inside_none n d b x h in cc)
        go false h = rw h (reads_at i n d a r l (sym (q.inside_some n d b x h) ∙ e))

    first_opened : {x : List ℕ} → Ending s x → (n d : ℕ) (a : A) (r : List ℕ) → length x ≤ n → deeper d (λ e. inside n e (ws x)) ≡ got a r
        → ReadsFrom (λ m y. list m (d - 1) y) nothing s (first_in close s (ws x)) a
    first_opened i n zero a r l e = no_bad e
    first_opened {x} i n (suc d) a r l e = rw sub-one (first_is (ws x) (ending_of i (ending_ws x)) n d a r (omega (arith, shorter_ending (ending_ws x))) e)

    start_is : (x : List ℕ) → Ending s x → (n d : ℕ) (a : A) (r : List ℕ) → length x ≤ n → list n d x ≡ got a r → ReadsFrom (λ m y. list m d y) nothing s (start_in s x) a
    unfolding start_in
    start_is [] i n d a r l e = no_bad (sym (list_out q n d) ∙ e)
    start_is (b ∷ x) i n d a r l e = reads_at i n d a r l e

    next_is : (y : List ℕ) → Ending s y → (n d : ℕ) (a : A) (r : List ℕ) → length y ≤ n → more n d y ≡ got a r → ReadsFrom (λ m y. list m d y) nothing s (next_in s y) a
    unfolding next_in
    next_is y i zero d a r l e = no_bad (sym (q.more_zero d y) ∙ e)
    next_is [] i (suc n) d a r l e = no_bad (sym (q.more_out (suc n) d) ∙ e)
    next_is (b ∷ x) i (suc n) d a r l e = go (eqb b 0x2C) refl
      where
        last : (t : Bool) → eqb b close ≡ t → eqb b 0x2C ≡ false → a ≡ nothing
        last true k h = let z : got a r ≡ got nothing x = sym e ∙ q.more_none n d b x k in cc
        last false k h = no_bad (sym (q.more_other n d b x k h) ∙ e)

        go : (t : Bool) → eqb b 0x2C ≡ t → ReadsFrom (λ m y. list m d y) nothing s (next_in s (b ∷ x)) a
        go true h =
            let z : list n d (ws x) ≡ got a r = sym (ap (λ (c : ℕ). more (suc n) d (c ∷ x)) (eqb-true b 0x2C h) ∙ q.more_some n d x) ∙ e in
            rw h (start_is (ws x) (ending_of i (ending_of (ending_byte b x) (ending_ws x))) n d a r (omega (arith, shorter_ending (ending_ws x))) z)
        go false h = rw h (last (eqb b close) refl h)

-- WHERE THE ANSWERS LIE

start_within : (s x : List ℕ) (p : ℕ) → length x ≤ length s → start_in s x ≡ Some p → (p < length s) × (pos s x ≡ p)
unfolding start_in pos
start_within s [] p l e = never e
start_within s (b ∷ x) p l e = let z : pos s (b ∷ x) ≡ p = cc in (omega arith, z)

first_within : (close : ℕ) (s x : List ℕ) (p : ℕ) → length x ≤ length s → first_in close s x ≡ Some p → p < length s
unfolding first_in start_in
first_within close s [] p l e = never e
first_within close s (b ∷ x) p l e = go (eqb b close) refl
  where
    go : (t : Bool) → eqb b close ≡ t → p < length s
    go true h = never (rw h at e)
    go false h = (start_within s (b ∷ x) p l (rw h at e)).0

next_later : (s y : List ℕ) (q : ℕ) → length y ≤ length s → next_in s y ≡ Some q → (pos s y < q) × (q < length s)
unfolding next_in pos
next_later s [] q l e = never e
next_later s (b ∷ x) q l e = go (eqb b 0x2C) refl
  where
    go : (t : Bool) → eqb b 0x2C ≡ t → (pos s (b ∷ x) < q) × (q < length s)
    go true h =
        let w = shorter_ending (ending_ws x) in
        let z = start_within s (ws x) q (omega arith) (rw h at e) in
        (omega (arith, z.1), z.0)
    go false h = never (rw h at e)

-- THE FIRST ONE

pub first_member_lem : (s : List ℕ) (brace : ℕ) {r : End} → r ≡ first_member s brace → FirstMember s brace r
unfolding first_member
first_member_lem s brace e = subst (λ (z : End). FirstMember s brace z) (sym e) (record {
  within = λ p. first_within 0x7D s (ws (drop (brace + 1) s)) p (shorter_ending (ending_of (ending_drop s (brace + 1)) (ending_ws (drop (brace + 1) s))));
  is = λ d ms o. first_opened members (ending_drop s (brace + 1)) o.fuel d ms o.left o.enough o.reads;
})

pub first_element_lem : (s : List ℕ) (bracket : ℕ) {r : End} → r ≡ first_element s bracket → FirstElement s bracket r
unfolding first_element
first_element_lem s bracket e = subst (λ (z : End). FirstElement s bracket z) (sym e) (record {
  within = λ p. first_within 0x5D s (ws (drop (bracket + 1) s)) p (shorter_ending (ending_of (ending_drop s (bracket + 1)) (ending_ws (drop (bracket + 1) s))));
  is = λ d vs o. first_opened elements (ending_drop s (bracket + 1)) o.fuel d vs o.left o.enough o.reads;
})

pub top_members_lem : (h : List ℕ) {r : End} → r ≡ top_members h → TopMembers h r
unfolding top_members top_in
top_members_lem h e = subst (λ (z : End). TopMembers h z) (sym e) (go (ws h) refl)
  where
    go : (x : List ℕ) → ws h ≡ x → TopMembers h (top_in h x)
    go [] c = record {
      within = λ p f. never f;
      is = λ d ms x f. let i = read_inv d h ms x f in let i2 = i.2 in absurd (let z : ◌≡◌ {A = ℕ} 0 1 = cc in omega arith);
    }
    go (b ∷ x) c =
        let whole : Ending h (b ∷ x) = subst (λ (z : List ℕ). Ending h z) c (ending_ws h) in
        let inner : Ending h x = ending_of whole (ending_byte b x) in
        record {
          within = λ p. first_within 0x7D h (ws x) p (shorter_ending (ending_of inner (ending_ws x)));
          is = λ d ms y f.
              let i = read_inv d h ms y f in
              let i2 = i.2 in
              let x_is : i.0 ≡ x = cc in
              first_opened members inner (length h) d ms i.1 (shorter_ending inner) (ap (read_object (length h) d) (sym x_is) ∙ i.3);
        }

-- THE KIND AND THE PLACE OF A VALUE

-- WHAT IS READ, by the first byte

-- what is read from its first byte b on
abbrev value_by : ℕ → ℕ → ValueLead → ℕ → List ℕ → Got LValue
value_by n d t b x = value_by_lem n (λ e r. read_value n e r) (λ e r. read_more_elements n e r) (λ e r. read_more_members n e r) d t b x

module _ (s : List ℕ) (f e n d : ℕ) (h : f < length s) (k : f < e) (l : e ≤ length s) (m : length (drop (f + 1) s) ≤ n) where
  -- a number's characters are the bytes of its place
  number_part : (x : Place) → x.start ≡ f + 0 → x.end ≡ e - 0 → part s x ≡ up_to (get_or s f 0 ∷ drop (f + 1) s) (drop e s)
  number_part x p q =
      let i : x.start ≡ f = omega arith in
      let j : x.end ≡ e = omega arith in
      let c : e - f ≡ length (drop f s) - length (drop e s) = omega (arith, length-drop f s, length-drop e s) in
      ap₂ (λ (a b : ℕ). take (b - a) (drop a s)) i j ∙ ap (λ (a : ℕ). take a (drop f s)) c ∙ ap (λ (y : List ℕ). up_to y (drop e s)) (at_byte s f h)

  module _ {A : Type 0} (reader : ℕ → List ℕ → Got A) (a : A) (r : reader n (drop (f + 1) s) ≡ got a (drop e s)) where
    -- what stands past its first byte
    past_first : (x : Place) → x.start ≡ f + 0 → (x.start < length s) × ReadsAt reader s (x.start + 1) a
    past_first x p =
        let i : f ≡ x.start = omega arith in
        subst (λ (z : ℕ). (z < length s) × ReadsAt reader s (z + 1) a) i (h, record { fuel = n; enough = m; left = drop e s; reads = r })

  by_lead : (t : ValueLead) (v : LValue) → value_by n d t (get_or s f 0) (drop (f + 1) s) ≡ got v (drop e s)
      → (x : Place) → x.start ≡ f + margin (kind_by t) → x.end ≡ e - margin (kind_by t) → Holds s d x (kind_by t) v
  unfolding kind_by margin NameAt
  by_lead quote_lead v c x p q =
      let i = over_inv string_l (read_chars n (drop (f + 1) s)) v (drop e s) c in
      (i.0, sym i.2, subst (λ (z : ℕ). NameAt s z i.0) (sym p) (n, m, drop e s, i.1))
  by_lead bracket_lead v c x p q =
      let i = over_inv array_l (read_array n d (drop (f + 1) s)) v (drop e s) c in
      let z = past_first (λ m y. read_array m d y) i.0 i.1 x p in
      (i.0, sym i.2, z.0, z.1)
  by_lead brace_lead v c x p q =
      let i = over_inv object_l (read_object n d (drop (f + 1) s)) v (drop e s) c in
      let z = past_first (λ m y. read_object m d y) i.0 i.1 x p in
      (i.0, sym i.2, z.0, z.1)
  by_lead true_lead v c x p q = sym (over_inv (λ _. true_l) (word (0x72 ∷ 0x75 ∷ 0x65 ∷ []) (drop (f + 1) s)) v (drop e s) c).2
  by_lead false_lead v c x p q = sym (over_inv (λ _. false_l) (word (0x61 ∷ 0x6C ∷ 0x73 ∷ 0x65 ∷ []) (drop (f + 1) s)) v (drop e s) c).2
  by_lead null_lead v c x p q = sym (over_inv (λ _. null_l) (word (0x75 ∷ 0x6C ∷ 0x6C ∷ []) (drop (f + 1) s)) v (drop e s) c).2
  by_lead number_lead v c x p q =
      let i = over_inv number_l (read_number (get_or s f 0 ∷ drop (f + 1) s)) v (drop e s) c in
      let j = then_inv (past_number (get_or s f 0 ∷ drop (f + 1) s)) (λ _ r. got (up_to (get_or s f 0 ∷ drop (f + 1) s) r) r) i.0 (drop e s) i.1 in
      let j3 = j.3 in
      let z : j.1 ≡ drop e s = cc in
      let y : up_to (get_or s f 0 ∷ drop (f + 1) s) j.1 ≡ i.0 = cc in
      (i.0, sym i.2, number_part x p q ∙ ap (up_to (get_or s f 0 ∷ drop (f + 1) s)) (sym z) ∙ y)

-- the value that is read from x on, an end of the text
value_is : {s x : List ℕ} → Ending s x → (n d : ℕ) (a b : List ℕ) (v : LValue) (y : List ℕ) → length x ≤ n → read_value n d x ≡ got (item a b v) y
    → ValueIs s d (kind_of (plain v)) (place (pos s a + margin (kind_of (plain v))) (pos s b - margin (kind_of (plain v)))) a b v
unfolding pos read_trimmed
value_is {s} {x} i n d a b v y l e =
    let r = value_read n d x a b v y e in
    let begins : Ending s a = ending_of i r.begins in
    let ends : Ending s b = ending_of begins r.ends in
    join r (shorter_ending begins) (shorter_ending r.begins) (at_ending begins) (at_ending ends)
  where
    join : ValueRead n d x a b v y → length a ≤ length s → length a ≤ length x → drop (pos s a) s ≡ a → drop (pos s b) s ≡ b
        → ValueIs s d (kind_of (plain v)) (place (pos s a + margin (kind_of (plain v))) (pos s b - margin (kind_of (plain v)))) a b v
    join r la lx p q =
        let some = r.some in
        let f = pos s a in
        let h : pos s a < length s = omega arith in
        let c : value_by r.below d (value_lead (get_or s f 0)) (get_or s f 0) (drop (f + 1) s) ≡ got v (drop (pos s b) s) =
        sym (ap (read_bare r.below d) (at_byte s f h)) ∙ ap (read_bare r.below d) p ∙ r.reads ∙ ap (got v) (sym q) in
        let few : length (drop (f + 1) s) ≤ r.below = omega (arith, r.fuel, ap length p, length-drop (f + 1) s) in
        let k = trimmed_kind (suc r.below) d (get_or s f 0) (drop (f + 1) s) c in
        record {
          kind = refl;
          start = refl;
          end = refl;
          holds = subst (λ (j : Kind). Holds s d (place (f + margin (kind_of (plain v))) (pos s b - margin (kind_of (plain v)))) j v) (sym k)
              (by_lead s f (pos s b) r.below d h (omega arith) (omega arith) few (value_lead (get_or s f 0)) v c _ (ap (λ (j : Kind). f + margin j) k) (ap (λ (j : Kind). pos s b - margin j) k));
        }

-- ELEMENTS

element_parts : {s : List ℕ} {p : ℕ} (d : ℕ) (i : LItem) (vs : LItems) (o : ElementsAt s p d (icons i vs))
    → (y : List ℕ) × (read_value o.fuel d (drop p s) ≡ got i y) × (read_more_elements o.fuel d y ≡ got vs o.left)
element_parts {s} {p} d i vs o =
    let a = list_inv elements o.fuel d (drop p s) (icons i vs) o.left o.reads in
    let c = a.5 in
    let x : a.0 ≡ i = cc in
    let z : a.2 ≡ vs = cc in
    (a.1, a.3 ∙ ap (λ (v : LItem). got v a.1) x, a.4 ∙ ap (λ (v : LItems). got v o.left) z)

-- what is read where elements stand
item_reads : {s : List ℕ} {p : ℕ} (d : ℕ) (a b : List ℕ) (v : LValue) (vs : LItems) (o : ElementsAt s p d (icons (item a b v) vs))
    → item_at s p d ≡ Some (item_by s (kind_of (plain v)) (pos s a) (pos s b) (element_parts d (item a b v) vs o).0)
unfolding item_at item_in
item_reads {s} {p} d a b v vs o =
    ap (item_in s) (value_fuel (length s) o.fuel d (drop p s) (shorter_ending (ending_drop s p)) o.enough ∙ (element_parts d (item a b v) vs o).1)

pub item_at_lem : (s : List ℕ) (p d : ℕ) {r : Item} → Some r ≡ item_at s p d → ItemAt s p d r
unfolding item_at item_in item_by pos
item_at_lem s p d {r} e = record { later = later (read_value (length s) d (drop p s)) refl e; is = is }
  where
    later : (g : Got LItem) → read_value (length s) d (drop p s) ≡ g → Some r ≡ item_in s g → (q : ℕ) → r.next ≡ Some q → (p < q) × (q < length s)
    later bad c f q n = never (sym f)
    later (got (item a b v) y) c f q n =
        let r = value_read (length s) d (drop p s) a b v y c in
        let z = next_later s y q (shorter_ending (ending_of (ending_drop s p) r.leaves)) (sym (ap (λ (i : Item). i.next) (some_is f)) ∙ n) in
        (omega (arith, z.0, r.some, shorter_ending r.begins, ap length r.past, shorter_ending (ending_ws b), length-drop p s), z.1)

    is : (a b : List ℕ) (v : LValue) (vs : LItems) → ElementsAt s p d (icons (item a b v) vs)
        → ValueIs s d r.value.kind r.value.place a b v × ElementsFrom s d r.next vs
    is a b v vs o =
        let u = element_parts d (item a b v) vs o in
        let whole = ending_drop s p in
        let w = value_read o.fuel d (drop p s) a b v u.0 u.1 in
        subst (λ (i : Item). ValueIs s d i.value.kind i.value.place a b v × ElementsFrom s d i.next vs) (sym (some_is (e ∙ item_reads d a b v vs o))) (
          value_is whole o.fuel d a b v u.0 o.enough u.1,
          next_is elements u.0 (ending_of whole w.leaves) o.fuel d vs o.left (omega (arith, o.enough, shorter_ending w.leaves)) u.2,
        )

-- where nothing is read, no elements stand
pub no_item : {B : Type 0} (s : List ℕ) (p d : ℕ) → None ≡ item_at s p d → (vs : LItems) → ElementsAt s p d vs → B
no_item s p d e inil o = no_elements d o
no_item s p d e (icons (item a b v) vs) o = never (e ∙ item_reads d a b v vs o)

-- MEMBERS

member_parts : {s : List ℕ} {p : ℕ} (d : ℕ) (m : LMember) (ms : LMembers) (o : MembersAt s p d (lcons m ms))
    → (y : List ℕ) × MemberRead o.fuel d (drop p s) m y × (read_member o.fuel d (drop p s) ≡ got m y) × (read_more_members o.fuel d y ≡ got ms o.left)
member_parts {s} {p} d m ms o =
    let a = list_inv members o.fuel d (drop p s) (lcons m ms) o.left o.reads in
    let c = a.5 in
    let x : a.0 ≡ m = cc in
    let z : a.2 ≡ ms = cc in
    let e : read_member o.fuel d (drop p s) ≡ got m a.1 = a.3 ∙ ap (λ (v : LMember). got v a.1) x in
    (a.1, member_inv o.fuel d (drop p s) m a.1 e, e, a.4 ∙ ap (λ (v : LMembers). got v o.left) z)

-- what a reading of the member m says of its name and its value
member_named : {n d : ℕ} {s : List ℕ} {f t cs : List ℕ} {i : LItem} {y : List ℕ} (r : MemberRead n d s (named f t cs i) y)
    → (r.name ≡ f) × (r.codes ≡ cs) × (read_value n d r.colon ≡ got i y)
member_named {i = i} {y = y} r = let k = r.is in let v : r.value ≡ i = cc in (cc, cc, r.reads ∙ ap (λ (j : LItem). got j y) v)

name_at : {s x : List ℕ} (n : ℕ) (cs y : List ℕ) → Ending s x → length x ≤ n → read_chars n x ≡ got cs y → NameAt s (pos s x) cs
unfolding NameAt
name_at n cs y i h e = (n, omega (arith, ap length (at_ending i)), y, ap (read_chars n) (at_ending i) ∙ e)

module _ {s : List ℕ} {p : ℕ} (d : ℕ) (f t cs : List ℕ) (i : LItem) (ms : LMembers) (o : MembersAt s p d (lcons (named f t cs i) ms)) where
  name_is : NameIs s (place (pos s f) (pos s t)) f t cs
  name_is =
      let m = (member_parts d (named f t cs i) ms o).1 in
      let k = member_named m in
      let e : Ending s f = subst (λ (x : List ℕ). Ending s x) k.0 (ending_of (ending_drop s p) (name_ends m)) in
      let l : length f ≤ o.fuel = omega (arith, o.enough, ap length k.0, shorter_ending (name_ends m)) in
      record { start = refl; end = refl; holds = name_at o.fuel cs m.closed e l (ap (read_chars o.fuel) (sym k.0) ∙ m.chars ∙ ap (λ (x : List ℕ). got x m.closed) k.1) }

  -- the first name stands past the quotation mark
  pub first_name : NameAt s (p + 1) cs
  unfolding pos
  first_name =
      let m = (member_parts d (named f t cs i) ms o).1 in
      let l : p + 1 ≡ pos s f = omega (arith, length-drop p s, ap length m.opens, ap length (member_named m).0) in
      subst (λ (x : ℕ). NameAt s x cs) (sym l) name_is.holds

-- what is read where members stand
entry_reads : {s : List ℕ} {p : ℕ} (d : ℕ) (n t cs a b : List ℕ) (v : LValue) (ms : LMembers) (o : MembersAt s p d (lcons (named n t cs (item a b v)) ms))
    → entry_at s p d ≡ Some (entry_by (place (pos s n) (pos s t)) (item_by s (kind_of (plain v)) (pos s a) (pos s b) (member_parts d (named n t cs (item a b v)) ms o).0))
unfolding entry_at entry_in
entry_reads {s} {p} d n t cs a b v ms o =
    ap (entry_in s) (member_fuel (length s) o.fuel d (drop p s) (shorter_ending (ending_drop s p)) o.enough ∙ (member_parts d (named n t cs (item a b v)) ms o).2)

pub entry_at_lem : (s : List ℕ) (p d : ℕ) {r : Entry} → Some r ≡ entry_at s p d → EntryAt s p d r
unfolding entry_at entry_in entry_by item_by pos
entry_at_lem s p d {r} e = record { later = later (read_member (length s) d (drop p s)) refl e; is = is }
  where
    later : (g : Got LMember) → read_member (length s) d (drop p s) ≡ g → Some r ≡ entry_in s g → (q : ℕ) → r.next ≡ Some q → (p < q) × (q < length s)
    later bad c f q j = never (sym f)
    later (got (named n t cs (item a b v)) y) c f q j =
        let m = member_inv (length s) d (drop p s) (named n t cs (item a b v)) y c in
        let r = value_read (length s) d m.colon a b v y (member_named m).2 in
        let z = next_later s y q (shorter_ending (ending_of (ending_drop s p) (ending_of (colon_ends m) r.leaves))) (sym (ap (λ (i : Entry). i.next) (some_is f)) ∙ j) in
        (omega (arith, z.0, r.some, shorter_ending r.begins, ap length r.past, shorter_ending (ending_ws b), shorter_ending (colon_ends m), length-drop p s), z.1)

    is : (n t cs a b : List ℕ) (v : LValue) (ms : LMembers) → MembersAt s p d (lcons (named n t cs (item a b v)) ms)
        → NameIs s r.name n t cs × ValueIs s d r.value.kind r.value.place a b v × MembersFrom s d r.next ms
    is n t cs a b v ms o =
        let u = member_parts d (named n t cs (item a b v)) ms o in
        let m = u.1 in
        let reads = (member_named m).2 in
        let w = value_read o.fuel d m.colon a b v u.0 reads in
        let colon = ending_of (ending_drop s p) (colon_ends m) in
        let few : length m.colon ≤ o.fuel = omega (arith, o.enough, shorter_ending (colon_ends m)) in
        subst
        (λ (i : Entry). NameIs s i.name n t cs × ValueIs s d i.value.kind i.value.place a b v × MembersFrom s d i.next ms)
        (sym (some_is (e ∙ entry_reads d n t cs a b v ms o))) (
          name_is d n t cs (item a b v) ms o,
          value_is colon o.fuel d a b v u.0 few reads,
          next_is members u.0 (ending_of colon w.leaves) o.fuel d ms o.left (omega (arith, shorter_ending w.leaves)) u.3,
        )

-- where nothing is read, no members stand
pub no_entry : {B : Type 0} (s : List ℕ) (p d : ℕ) → None ≡ entry_at s p d → (ms : LMembers) → MembersAt s p d ms → B
no_entry s p d e lnil o = no_members d o
no_entry s p d e (lcons (named n t cs (item a b v)) ms) o = never (e ∙ entry_reads d n t cs a b v ms o)
