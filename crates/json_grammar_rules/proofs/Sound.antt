-- What the reader reads, the grammar derives, within the depth, with the located members that the reader gives.
use Rattle.std.specs.Prelude.{◌≡◌, ℕ, zero, suc, ◌≤◌, max, length}
use Rattle.std.proofs.Math.Path.{refl, sym, ap}
use Rattle.std.proofs.Common.{◌∙◌, arith}
use mathlib.Core.List.{List, [], ◌∷◌, ◌++◌}
use Rattle.std.proofs.Math.Logic.{⊎_elim}
use Rattle.json_grammar_rules.specs.Bytes.{is_ws}
use Rattle.json_grammar_rules.specs.Value.{depth, depth_values, depth_members, LValue, LItem, LItems, LMembers, string_l, number_l, true_l, false_l, null_l}
use Rattle.json_grammar_rules.specs.Value.{array_l, object_l}
use Rattle.json_grammar_rules.specs.Grammar.{none, Ws, Token, Chars, ValueTree, false_t, null_t, true_t, object_t, array_t, number_t, string_t}
use Rattle.json_grammar_rules.specs.Grammar.{ObjectTree, object0, object_of, pair, mend, mmore, ArrayTree, array0, array_of}
use Rattle.json_grammar_rules.specs.Grammar.{eend, emore, Derivation}
use Rattle.json_grammar_rules.specs.Grammar.{yield_many, yield_token, yield_chars, yield_string, yield_number, yield_value, yield_object, yield_member}
use Rattle.json_grammar_rules.specs.Grammar.{yield_members, yield_array, yield_elements, bytes}
use Rattle.json_grammar_rules.specs.Grammar.{reading_value, reading_object, reading_member, reading_members, reading_array, reading_elements, reading_of}
use Rattle.json_grammar_rules.specs.Grammar.{depth_of, Derived, members_of}
use Rattle.json_grammar_rules.specs.Reader.{Got, got, over, ws, read_chars, past_number, up_to, read_number, word, ValueLead, value_lead}
use Rattle.json_grammar_rules.specs.Reader.{read_object, read_value, read_more_elements, read_more_members, read}
use Rattle.json_grammar_rules.specs.Reader
use Rattle.json_grammar_rules.proofs.ByteLaws.{by_byte}
use Rattle.json_grammar_rules.proofs.ReaderLaws.{no_bad, then_inv, over_inv, deeper_inv, placed_inv, read_inv, word_inv, skipped, read_value_ws}
use Rattle.json_grammar_rules.proofs.Sequences.{Sequence, sequence, members, elements, list_inv, inside_inv, more_inv, member_inv}
use Rattle.json_grammar_rules.specs.Levels.{read_bare, read_elements, read_in_array, read_members, read_in_object}
use Rattle.json_grammar_rules.proofs.NumberLaws.{number_sound}
use Rattle.json_grammar_rules.proofs.CharLaws.{chars_sound}
use Rattle.json_grammar_rules.proofs.Complete.{depth_member, member_depth, complete}

-- WHAT IS TAKEN, as the grammar has it

-- a value with white space on either side
pub record FoundValue (d : ℕ) (s r : List ℕ) : Type 0 where
  pub before : Ws
  pub tree : ValueTree
  pub after : Ws
  pub derives : s ≡ yield_many before (yield_value tree (yield_many after r))
  pub deep : depth (reading_value tree) ≤ d

-- a closing bracket or brace, with white space before it only
abbrev closing : Ws → Token
closing w = record { before = w; after = none }

-- Elements and members, once for both: trees of one of them and of those after it, with their yields and depths, and the closing byte.
-- Further ones and the closing byte, after white space w.
pub record FoundTail {T : Type 0} (yieldTail : T → List ℕ → List ℕ) (depthTail : T → ℕ) (close d : ℕ) (w : Ws) (s r : List ℕ) : Type 0 where
  pub tree : T
  pub last : Ws
  pub derives : yield_many w s ≡ yieldTail tree (yield_token close (closing last) r)
  pub deep : depthTail tree ≤ d

-- a first one after white space, and the others
pub record FoundFirst {H T : Type 0} (yieldOne : H → List ℕ → List ℕ) (depthOne : H → ℕ) (yieldTail : T → List ℕ → List ℕ) (depthTail : T → ℕ) (close d : ℕ) (s r : List ℕ) : Type 0 where
  pub before : Ws
  pub first : H
  pub tree : T
  pub last : Ws
  pub derives : s ≡ yield_many before (yieldOne first (yieldTail tree (yield_token close (closing last) r)))
  pub first_deep : depthOne first ≤ d
  pub deep : depthTail tree ≤ d

abbrev FoundElements : ℕ → Ws → List ℕ → List ℕ → Type 0
FoundElements d w s r = FoundTail (λ t x. yield_elements t x) (λ t. depth_values (reading_elements t)) 0x5D d w s r

abbrev FoundMembers : ℕ → Ws → List ℕ → List ℕ → Type 0
FoundMembers d w s r = FoundTail (λ t x. yield_members t x) (λ t. depth_members (reading_members t)) 0x7D d w s r

abbrev FirstElement : ℕ → List ℕ → List ℕ → Type 0
FirstElement d s r =
    FoundFirst (λ v x. yield_value v x) (λ v. depth (reading_value v)) (λ t x. yield_elements t x) (λ t. depth_values (reading_elements t)) 0x5D d s r

abbrev FirstMember : ℕ → List ℕ → List ℕ → Type 0
FirstMember d s r =
    FoundFirst (λ m x. yield_member m x) (λ m. depth_member m) (λ t x. yield_members t x) (λ t. depth_members (reading_members t)) 0x7D d s r

-- an array, an object and a value with no white space around them
abbrev FoundArray : ℕ → List ℕ → List ℕ → Type 0
FoundArray d s r = (a : ArrayTree) × (s ≡ yield_array a r) × (depth_values (reading_array a) ≤ d)

abbrev FoundObject : ℕ → List ℕ → List ℕ → Type 0
FoundObject d s r = (o : ObjectTree) × (s ≡ yield_object o r) × (depth_members (reading_object o) ≤ d)

abbrev pub FoundBare : ℕ → List ℕ → List ℕ → Type 0
FoundBare d s r = (v : ValueTree) × (s ≡ yield_value v r) × (depth (reading_value v) ≤ d)

-- white space that was skipped before x
spaced : (s x : List ℕ) → ws s ≡ x → s ≡ yield_many (skipped is_ws s).0 x
spaced s x e = (skipped is_ws s).1 ∙ ap (yield_many (skipped is_ws s).0) e

-- SEQUENCES, of elements and of members: from what is known of one and those after it

module _ {A B H T : Type 0} {nothing : A} {cons : B → A → A} {one : ℕ → ℕ → List ℕ → Got B} {inside more : ℕ → ℕ → List ℕ → Got A} {close : ℕ}
    (q : Sequence nothing cons one inside more close)
    {yieldOne : H → List ℕ → List ℕ} {depthOne : H → ℕ} {yieldTail : T → List ℕ → List ℕ} {depthTail : T → ℕ} (n d : ℕ)
    (found : (s : List ℕ) (a : A) (r : List ℕ) → sequence cons one more n d (ws s) ≡ got a r → FoundFirst yieldOne depthOne yieldTail depthTail close d s r) where
  -- what follows one of them, by the grammar's trees for none and for a comma and one more
  more_sound : (end : T) (next : Token → H → T → T) → ((x : List ℕ) → yieldTail end x ≡ x) → depthTail end ≡ 0
      → ((c : Token) (h : H) (t : T) (x : List ℕ) → yieldTail (next c h t) x ≡ yield_token 0x2C c (yieldOne h (yieldTail t x)))
      → ((c : Token) (h : H) (t : T) → depthTail (next c h t) ≡ max (depthOne h) (depthTail t))
      → (w : Ws) (s : List ℕ) (a : A) (r : List ℕ) → more (suc n) d s ≡ got a r → FoundTail yieldTail depthTail close d w s r
  unfolding yield_token yield_many
  more_sound end next yield-end deep-end yield-next deep-next w s a r e = ⊎_elim last another (more_inv q n d s a r e)
    where
      last : (s ≡ close ∷ r) × (a ≡ nothing) → FoundTail yieldTail depthTail close d w s r
      last p = record { tree = end; last = w; derives = ap (yield_many w) p.0 ∙ sym (yield-end _); deep = omega (arith, deep-end) }

      another : (y : List ℕ) × (s ≡ 0x2C ∷ y) × (sequence cons one more n d (ws y) ≡ got a r) → FoundTail yieldTail depthTail close d w s r
      another p =
          let f = found p.0 a r p.2 in
          let c : Token = record { before = w; after = f.before } in
          record {
            tree = next c f.first f.tree;
            last = f.last;
            derives = ap (yield_many w) (p.1 ∙ ap (λ (l : List ℕ). 0x2C ∷ l) f.derives) ∙ sym (yield-next c f.first f.tree _);
            deep = omega (arith, deep-next c f.first f.tree, f.first_deep, f.deep);
          }

  -- all of them from the opening byte on, by the grammar's trees for none and for some
  inside_sound : {W : Type 0} (first : ℕ) (yieldAll : W → List ℕ → List ℕ) (depthAll : W → ℕ) (empty : Token → Token → W) (full : Token → H → T → Token → W)
      → ((b e : Token) (x : List ℕ) → yieldAll (empty b e) x ≡ yield_token first b (yield_token close e x)) → ((b e : Token) → depthAll (empty b e) ≡ 0)
      → ((b : Token) (h : H) (t : T) (e : Token) (x : List ℕ) → yieldAll (full b h t e) x ≡ yield_token first b (yieldOne h (yieldTail t (yield_token close e x))))
      → ((b : Token) (h : H) (t : T) (e : Token) → depthAll (full b h t e) ≡ max (depthOne h) (depthTail t))
      → (s : List ℕ) (a : A) (r : List ℕ) → inside n d (ws s) ≡ got a r → (t : W) × (first ∷ s ≡ yieldAll t r) × (depthAll t ≤ d)
  unfolding yield_token yield_many
  inside_sound {W} first yieldAll depthAll empty full yield-empty deep-empty yield-full deep-full s a r e = ⊎_elim no some (inside_inv q n d (ws s) a r e)
    where
      no : (ws s ≡ close ∷ r) × (a ≡ nothing) → (t : W) × (first ∷ s ≡ yieldAll t r) × (depthAll t ≤ d)
      no p =
          let b : Token = record { before = none; after = (skipped is_ws s).0 } in (
            empty b (closing none),
            ap (λ (l : List ℕ). first ∷ l) (spaced s (close ∷ r) p.0) ∙ sym (yield-empty b (closing none) r),
            omega (arith, deep-empty b (closing none)),
          )

      some : sequence cons one more n d (ws s) ≡ got a r → (t : W) × (first ∷ s ≡ yieldAll t r) × (depthAll t ≤ d)
      some p =
          let f = found s a r p in
          let b : Token = record { before = none; after = f.before } in (
            full b f.first f.tree (closing f.last),
            ap (λ (l : List ℕ). first ∷ l) f.derives ∙ sym (yield-full b f.first f.tree (closing f.last) r),
            omega (arith, deep-full b f.first f.tree (closing f.last), f.first_deep, f.deep),
          )

-- a value one level deeper
nested_inv : {A : Type 0} (d : ℕ) (f : A → LValue) (k : ℕ → Got A) (v : LValue) (r : List ℕ) → over f (Reader.deeper d k) ≡ got v r
    → (e : ℕ) × (a : A) × (d ≡ suc e) × (k e ≡ got a r)
nested_inv d f k v r h =
    let i = over_inv f (Reader.deeper d k) v r h in
    let j = deeper_inv d k i.0 r i.1 in
    (j.0, i.0, j.1, j.2)

-- ONE LEVEL, from what the readers below it take

-- what is known of the readers with fuel n
record Below (n : ℕ) : Type 0 where
  value : (d : ℕ) (s : List ℕ) (v : LItem) (r : List ℕ) → read_value n d s ≡ got v r → FoundValue d s r
  elements : (d : ℕ) (w : Ws) (s : List ℕ) (vs : LItems) (r : List ℕ) → read_more_elements n d s ≡ got vs r → FoundElements d w s r
  members : (d : ℕ) (w : Ws) (s : List ℕ) (ms : LMembers) (r : List ℕ) → read_more_members n d s ≡ got ms r → FoundMembers d w s r

module _ (n : ℕ) (below : Below n) where
  elements_sound : (d : ℕ) (s : List ℕ) (vs : LItems) (r : List ℕ) → read_elements n d (ws s) ≡ got vs r → FirstElement d s r
  elements_sound d s vs r e =
      let i = list_inv elements n d s vs r (rw (read_value_ws n d s) at e) in
      join i.1 (below.value d s i.0 i.1 i.3) (λ w. below.elements d w i.1 i.2 r i.4)
    where
      join : (y : List ℕ) → FoundValue d s y → ((w : Ws) → FoundElements d w y r) → FirstElement d s r
      join y a f =
          let b = f a.after in
          record {
            before = a.before;
            first = a.tree;
            tree = b.tree;
            last = b.last;
            derives = a.derives ∙ ap (λ (l : List ℕ). yield_many a.before (yield_value a.tree l)) b.derives;
            first_deep = a.deep;
            deep = b.deep;
          }

  members_sound : (d : ℕ) (s : List ℕ) (ms : LMembers) (r : List ℕ) → read_members n d (ws s) ≡ got ms r → FirstMember d s r
  unfolding depth_members reading_member yield_member yield_string yield_token
  members_sound d s ms r e =
      let i = list_inv members n d (ws s) ms r e in
      let m = member_inv n d (ws s) i.0 i.1 i.3 in
      join m.name m.closed m.colon i.1 m.opens (chars_sound n m.name m.codes m.closed m.chars) m.parts
      (below.value d m.colon m.value i.1 m.reads) (λ w. below.members d w i.1 i.2 r i.4)
    where
      join : (f z x y : List ℕ) → ws s ≡ 0x22 ∷ f → (cs : Chars) × (f ≡ yield_chars cs (0x22 ∷ z)) → ws z ≡ 0x3A ∷ x
          → FoundValue d x y → ((w : Ws) → FoundMembers d w y r) → FirstMember d s r
      join f z x y p c q a g =
          let u = (skipped is_ws z).0 in
          let b = g a.after in
          record {
            before = (skipped is_ws s).0;
            first = pair c.0 (record { before = u; after = a.before }) a.tree;
            tree = b.tree;
            last = b.last;
            derives =
                spaced s _ (p ∙ ap (λ (l : List ℕ). 0x22 ∷ l) (c.1 ∙ ap (λ (l : List ℕ). yield_chars c.0 (0x22 ∷ l)) (spaced z (0x3A ∷ x) q
                ∙ ap (λ (l : List ℕ). yield_many u (0x3A ∷ l)) (a.derives ∙ ap (λ (l : List ℕ). yield_many a.before (yield_value a.tree l)) b.derives))));
            first_deep = omega (arith, a.deep);
            deep = b.deep;
          }

  -- an array from its first bracket on, an object from its first brace on
  array_sound : (d : ℕ) (s : List ℕ) (vs : LItems) (r : List ℕ) → read_in_array n d (ws s) ≡ got vs r → FoundArray d (0x5B ∷ s) r
  unfolding yield_array reading_array depth_values
  array_sound d = inside_sound elements n d (elements_sound d) 0x5B (λ a x. yield_array a x) (λ a. depth_values (reading_array a)) array0 array_of (λ b e x. refl) (λ b e. refl) (λ b v vs e x. refl) (λ b v vs e. refl)

  object_sound : (d : ℕ) (s : List ℕ) (ms : LMembers) (r : List ℕ) → read_in_object n d (ws s) ≡ got ms r → FoundObject d (0x7B ∷ s) r
  unfolding yield_object reading_object depth_members
  object_sound d =
      inside_sound members n d (members_sound d) 0x7B (λ o x. yield_object o x) (λ o. depth_members (reading_object o)) object0 object_of (λ b e x. refl) (λ b e. refl) (λ b m ms e x. refl) (λ b m ms e. member_depth m (reading_members ms))

  -- a value with no white space around it
  value_sound : (d : ℕ) (s : List ℕ) (v : LValue) (r : List ℕ) → read_bare n d s ≡ got v r → FoundBare d s r
  unfolding value_lead yield_value yield_string reading_value depth
  value_sound d [] v r e = no_bad e
  value_sound d (b ∷ s) v r e =
      by_byte P b 0x22 string (by_byte P b 0x5B array (by_byte P b 0x7B object
      (by_byte P b 0x74 true_word (by_byte P b 0x66 false_word (by_byte P b 0x6E null_word number))))) e
    where
      P : ValueLead → Type 0
      P l =
          Reader.value_by_lem n (λ e r. read_value n e r) (λ e r. read_more_elements n e r) (λ e r. read_more_members n e r) d l b s ≡ got v r
          → FoundBare d (b ∷ s) r

      string : b ≡ 0x22 → over string_l (read_chars n s) ≡ got v r → FoundBare d (b ∷ s) r
      string h f = let i = over_inv string_l (read_chars n s) v r f in let c = chars_sound n s i.0 r i.1 in (string_t c.0, cc (h, c.1), omega arith)

      array : b ≡ 0x5B → over array_l (Reader.deeper d (λ e. read_in_array n e (ws s))) ≡ got v r → FoundBare d (b ∷ s) r
      array h f =
          let j = nested_inv d array_l (λ e. read_in_array n e (ws s)) v r f in
          let a = array_sound j.0 s j.1 r j.3 in
          (array_t a.0, rw h a.1, omega (arith, a.2, j.2))

      object : b ≡ 0x7B → over object_l (read_object n d s) ≡ got v r → FoundBare d (b ∷ s) r
      object h f =
          let j = nested_inv d object_l (λ e. read_in_object n e (ws s)) v r f in
          let o = object_sound j.0 s j.1 r j.3 in
          (object_t o.0, rw h o.1, omega (arith, o.2, j.2))

      word_is : (x : ℕ) (xs : List ℕ) (l : LValue) → b ≡ x → over (λ _. l) (word xs s) ≡ got v r → b ∷ s ≡ x ∷ (xs ++ r)
      word_is x xs l h f = let i = over_inv (λ _. l) (word xs s) v r f in cc (h, word_inv xs s r i.1)

      true_word : b ≡ 0x74 → over (λ _. true_l) (word (0x72 ∷ 0x75 ∷ 0x65 ∷ []) s) ≡ got v r → FoundBare d (b ∷ s) r
      true_word h f = (true_t, word_is _ _ true_l h f, omega arith)

      false_word : b ≡ 0x66 → over (λ _. false_l) (word (0x61 ∷ 0x6C ∷ 0x73 ∷ 0x65 ∷ []) s) ≡ got v r → FoundBare d (b ∷ s) r
      false_word h f = (false_t, word_is _ _ false_l h f, omega arith)

      null_word : b ≡ 0x6E → over (λ _. null_l) (word (0x75 ∷ 0x6C ∷ 0x6C ∷ []) s) ≡ got v r → FoundBare d (b ∷ s) r
      null_word h f = (null_t, word_is _ _ null_l h f, omega arith)

      number : over number_l (read_number (b ∷ s)) ≡ got v r → FoundBare d (b ∷ s) r
      number f =
          let i = over_inv number_l (read_number (b ∷ s)) v r f in
          let j = then_inv (past_number (b ∷ s)) (λ _ y. got (up_to (b ∷ s) y) y) i.0 r i.1 in
          let z : j.1 ≡ r = cc j.3 in
          let x = number_sound (b ∷ s) j.1 j.2 in
          (number_t x.0, x.1 ∙ ap (yield_number x.0) z, omega arith)

  more_elements_sound : (d : ℕ) (w : Ws) (s : List ℕ) (vs : LItems) (r : List ℕ) → read_more_elements (suc n) d s ≡ got vs r → FoundElements d w s r
  unfolding yield_elements reading_elements depth_values
  more_elements_sound d = more_sound elements n d (elements_sound d) eend emore (λ x. refl) refl (λ c v vs x. refl) (λ c v vs. refl)

  more_members_sound : (d : ℕ) (w : Ws) (s : List ℕ) (ms : LMembers) (r : List ℕ) → read_more_members (suc n) d s ≡ got ms r → FoundMembers d w s r
  unfolding yield_members reading_members depth_members
  more_members_sound d =
      more_sound members n d (members_sound d) mend mmore (λ x. refl) refl (λ c m ms x. refl) (λ c m ms. member_depth m (reading_members ms))

  spaced_value_sound : (d : ℕ) (s : List ℕ) (v : LItem) (r : List ℕ) → read_value (suc n) d s ≡ got v r → FoundValue d s r
  unfolding read_value
  spaced_value_sound d s v r e =
      let i = placed_inv (ws s) (read_bare n d (ws s)) v r e in
      let t = value_sound d (ws s) i.0 i.1 i.2 in
      record {
        before = (skipped is_ws s).0;
        tree = t.0;
        after = (skipped is_ws i.1).0;
        derives = spaced s _ (t.1 ∙ ap (yield_value t.0) (spaced i.1 r i.3));
        deep = t.2;
      }

-- THE LEVELS TIED

levels : (n : ℕ) → Below n
unfolding read_value
levels zero = record { value = λ d s v r e. no_bad e; elements = λ d w s vs r e. no_bad e; members = λ d w s ms r e. no_bad e }
levels (suc n) = record { value = spaced_value_sound n (levels n); elements = more_elements_sound n (levels n); members = more_members_sound n (levels n) }

-- a value with no white space around it
pub bare_found : (n d : ℕ) (s : List ℕ) (v : LValue) (r : List ℕ) → read_bare n d s ≡ got v r → FoundBare d s r
bare_found n d s v r e = value_sound n (levels n) d s v r e

pub derived : (d : ℕ) (s : List ℕ) (ms : LMembers) (r : List ℕ) → read d s ≡ got ms r → Derived d s
unfolding bytes depth_of reading_of depth
derived d s ms r e =
    let n = length s in
    let i = read_inv d s ms r e in
    let k = deeper_inv d (λ e. read_in_object n e (ws i.0)) ms i.1 i.3 in
    let o = object_sound n (levels n) k.0 i.0 ms i.1 k.2 in
    join i.0 i.1 o.0 i.2 o.1 i.4 (omega (arith, o.2, k.1))
  where
    join : (x y : List ℕ) (o : ObjectTree) → ws s ≡ 0x7B ∷ x → 0x7B ∷ x ≡ yield_object o y → ws y ≡ [] → suc (depth_members (reading_object o)) ≤ d → Derived d s
    join x y o p q e k =
        let w = (skipped is_ws y).0 in
        (record { before = (skipped is_ws s).0; top = o; after = w }, sym (spaced s (yield_object o (yield_many w [])) (p ∙ q ∙ ap (yield_object o) (spaced y [] e))), k)

-- SOUND: what is read is derived within the depth, and the derivation has the members where the reader found them
pub sound : (d : ℕ) (s : List ℕ) (ms : LMembers) (r : List ℕ) → read d s ≡ got ms r
    → (t : Derivation) × (bytes t ≡ s) × (members_of t ≡ ms) × (depth_of t ≤ d) × (r ≡ [])
sound d s ms r e = let t = derived d s ms r e in let c = complete d t.0 t.2 in (t.0, t.1, cc (e, t.1, c), t.2, cc (e, t.1, c))
