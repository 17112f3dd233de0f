-- What the grammar derives, the reader reads, and it gives the derivation's located members.
use Rattle.std.specs.Prelude.{◌≡◌, Bool, true, false, List, [], ◌∷◌, ℕ, zero, suc, ◌≤◌, ◌<◌, max, eqb, length}
use Rattle.std.proofs.Math.Path.{refl, ap}
use Rattle.std.proofs.Common.{sym, ◌∙◌, subst, arith, eqb-true, eq-eqb}
use Rattle.json_grammar_rules.specs.Bytes.{within, is_ws, is_digit, is_digit19, is_e}
use Rattle.json_grammar_rules.specs.Value.{Members, mnil, depth, depth_values, depth_members, LValue, LItem, LMembers, string_l, number_l, array_l}
use Rattle.json_grammar_rules.specs.Value.{object_l, item, named}
use Rattle.json_grammar_rules.specs.Grammar.{none, more, Ws, Token, Chars, Number, ValueTree, false_t, null_t, true_t, object_t, array_t, number_t, string_t}
use Rattle.json_grammar_rules.specs.Grammar.{ObjectTree, object0, object_of, MemberTree, pair, MembersTail, mend, mmore, ArrayTree, array0, array_of}
use Rattle.json_grammar_rules.specs.Grammar.{ElementsTail, eend, emore, Derivation}
use Rattle.json_grammar_rules.specs.Grammar.{yield_many, yield_token, yield_from, yield_chars, yield_string, yield_number, yield_value, yield_object}
use Rattle.json_grammar_rules.specs.Grammar.{yield_member, yield_members, yield_array, yield_elements, bytes}
use Rattle.json_grammar_rules.specs.Grammar.{codes_of, reading_value, reading_object, reading_member, reading_members, reading_array, reading_elements}
use Rattle.json_grammar_rules.specs.Grammar.{reading_of, depth_of}
use Rattle.json_grammar_rules.specs.Grammar.{from_object, past_object, from_array, past_array, located_value, located_object, located_member, located_members}
use Rattle.json_grammar_rules.specs.Grammar.{located_array, located_elements, members_of}
use Rattle.json_grammar_rules.specs.Reader.{Got, got, over, skip, ws, past_number, read_number, word, value_lead, deeper, placed_item, read_object, read_value}
use Rattle.json_grammar_rules.specs.Reader.{read_more_elements, read_more_members, read}
use Rattle.json_grammar_rules.proofs.ByteLaws.{white_cases}
use Rattle.json_grammar_rules.proofs.ReaderLaws.{no_bad, deeper_is, enough, skip_none, ws_yield, read_value_ws, read_value_yield}
use Rattle.json_grammar_rules.proofs.Sequences.{Sequence, sequence, members, elements}
use Rattle.json_grammar_rules.specs.Levels.{read_bare, read_elements, read_in_array, read_member, read_members, read_in_object}
use Rattle.json_grammar_rules.proofs.Written.{longer}
use Rattle.json_grammar_rules.proofs.Written
use Rattle.json_grammar_rules.proofs.NumberLaws.{Stops, number_first, number_lead_lem, complete_number}
use Rattle.json_grammar_rules.proofs.CharLaws.{complete_chars}

-- WHAT FOLLOWS A VALUE

pub stops_white : (w : Ws) (r : List ℕ) → Stops r → Stops (yield_many w r)
unfolding yield_many is_digit is_e within
stops_white none r st = st
stops_white (more b h w) r st = white_cases (λ b. Stops (b ∷ yield_many w r)) refl refl refl refl b h

stops_elements : (vs : ElementsTail) (e : Token) (r : List ℕ) → Stops (yield_elements vs (yield_token 0x5D e r))
unfolding yield_elements yield_token is_digit is_e within
stops_elements eend e r = stops_white e.before _ refl
stops_elements (emore c v vs) e r = stops_white c.before _ refl

pub stops_members : (ms : MembersTail) (e : Token) (r : List ℕ) → Stops (yield_members ms (yield_token 0x7D e r))
unfolding yield_members yield_token is_digit is_e within
stops_members mend e r = stops_white e.before _ refl
stops_members (mmore c m ms) e r = stops_white c.before _ refl

-- LEAVES

-- a value is not empty, so some fuel is there
leaf : (v : ValueTree) (n d : ℕ) (r : List ℕ) → length (yield_value v r) ≤ n
    → ((m : ℕ) → read_value (suc m) d (yield_value v r) ≡ got (located_value v r) (ws r))
    → read_value n d (yield_value v r) ≡ got (located_value v r) (ws r)
leaf v n d r h f = enough (λ m. read_value m d (yield_value v r)) _ n 0 (omega (arith, longer (Written.value v) r)) (λ m _. f m)

string_case : (n d : ℕ) (cs : Chars) (r : List ℕ) → length (yield_string cs r) ≤ n
    → read_value n d (yield_string cs r) ≡ got (item (yield_string cs r) r (string_l (codes_of cs))) (ws r)
unfolding read_value yield_string skip is_ws value_lead
string_case n d cs r h =
    enough (λ m. read_value m d (yield_string cs r)) _ n (length (yield_chars cs (0x22 ∷ r))) h
    (λ m l. rw (complete_chars cs m r l))

number_case : (n d : ℕ) (x : Number) (r : List ℕ) → Stops r
    → read_value (suc n) d (yield_number x r) ≡ got (item (yield_number x r) r (number_l (yield_number x []))) (ws r)
unfolding read_value skip
number_case n d x r st =
    let f = number_first x r in
    let l = number_lead_lem f.first f.low f.high in
    let y = yield_number x [] in
    subst (λ (s : List ℕ). read_number s ≡ got y r → read_value (suc n) d s ≡ got (item s r (number_l y)) (ws r)) (sym f.is)
    (λ e. rw (l.0, skip) (rw (l.1, e))) (complete_number x r st)

-- SEQUENCES, of elements and of members

-- a token begins with its byte, past white space
token_first : (b : ℕ) → is_ws b ≡ false → (t : Token) (x : List ℕ) → ws (yield_token b t x) ≡ b ∷ yield_many t.after x
unfolding yield_token
token_first b h t x = ws_yield t.before (b ∷ yield_many t.after x) ∙ skip_none is_ws (b ∷ yield_many t.after x) (rw h)

module _ {A B : Type 0} {nothing : A} {cons : B → A → A} {one : ℕ → ℕ → List ℕ → Got B} {inside more : ℕ → ℕ → List ℕ → Got A} {close : ℕ}
    (q : Sequence nothing cons one inside more close) (n d : ℕ) where
  none_inside : (e : Token) (r : List ℕ) → inside n d (ws (yield_token close e r)) ≡ got nothing (yield_many e.after r)
  none_inside e r = ap (inside n d) (token_first close q.black e r) ∙ q.inside_none n d close (yield_many e.after r) (eq-eqb close close refl)

  last_one : (e : Token) (r : List ℕ) → length (yield_token close e r) ≤ n → more n d (ws (yield_token close e r)) ≡ got nothing (yield_many e.after r)
  last_one e r h =
      enough (λ m. more m d (ws (yield_token close e r))) _ n (length r) (omega (arith, longer (Written.token close q.small e) r))
      (λ m _. ap (more (suc m) d) (token_first close q.black e r) ∙ q.more_none m d close (yield_many e.after r) (eq-eqb close close refl))

  next_one : (c : Token) (x : List ℕ) (g : Got A) → length (yield_token 0x2C c x) ≤ n
      → ((m : ℕ) → length x ≤ m → sequence cons one more m d (ws x) ≡ g) → more n d (ws (yield_token 0x2C c x)) ≡ g
  unfolding is_ws
  next_one c x g h f =
      enough (λ m. more m d (ws (yield_token 0x2C c x))) g n (length x) (omega (arith, longer (Written.token 0x2C (omega arith) c) x))
      (λ m l. ap (more (suc m) d) (token_first 0x2C refl c x) ∙ q.more_some m d (yield_many c.after x) ∙ ap (sequence cons one more m d) (ws_yield c.after x) ∙ f m l)

-- ARRAYS

-- elements begin with no closing bracket
array_elements : (n d : ℕ) (s : List ℕ) (v : LItem) (y : List ℕ) → read_value n d s ≡ got v y → read_in_array n d (ws s) ≡ read_elements n d s
unfolding read_value value_lead past_number skip is_ws is_digit19 within
array_elements zero d s v y e = no_bad e
array_elements (suc n) d s v y e = go (ws s) (read_value_ws (suc n) d s ∙ e) ∙ rw (read_value_ws (suc n) d s)
  where
    by : (b : ℕ) (l : List ℕ) (t : Bool) → eqb b 0x5D ≡ t → read_value (suc n) d (b ∷ l) ≡ got v y → read_in_array (suc n) d (b ∷ l) ≡ read_elements (suc n) d (b ∷ l)
    by b l true h f = no_bad (rw (eqb-true b 0x5D h) at f)
    by b l false h f = rw h

    go : (l : List ℕ) → read_value (suc n) d l ≡ got v y → read_in_array (suc n) d l ≡ read_elements (suc n) d l
    go [] f = no_bad f
    go (b ∷ l) f = by b l (eqb b 0x5D) refl f

-- OBJECTS

member_case : (n d : ℕ) (cs : Chars) (c : Token) (x y : List ℕ) (v : LItem) → length (yield_string cs (yield_token 0x3A c x)) ≤ n → read_value n d x ≡ got v y
    → read_member n d (yield_string cs (yield_token 0x3A c x)) ≡ got (named (yield_chars cs (0x22 ∷ yield_token 0x3A c x)) (0x22 ∷ yield_token 0x3A c x) (codes_of cs) v) y
unfolding yield_string yield_token skip is_ws
member_case n d cs c x y v h e =
    let s = yield_many c.before (0x3A ∷ yield_many c.after x) in
    rw (complete_chars cs n s (omega arith), ws_yield c.before (0x3A ∷ yield_many c.after x), read_value_yield n d c.after x, e)

-- a member begins with a quotation mark
pub member_first : (m : MemberTree) (r : List ℕ) → ws (yield_member m r) ≡ yield_member m r
unfolding yield_member yield_string skip is_ws
member_first (pair cs c v) r = refl

pub object_members : (n d : ℕ) (m : MemberTree) (r : List ℕ) → read_in_object n d (ws (yield_member m r)) ≡ read_members n d (yield_member m r)
unfolding yield_member yield_string skip is_ws
object_members n d (pair cs c v) r = refl

-- an object, past its first brace
opened : (n d k : ℕ) (w : Ws) (x z : List ℕ) (ms : LMembers) → k < d
    → ((e : ℕ) → k ≤ e → read_in_object n e (ws x) ≡ got ms z) → read_object n d (yield_many w x) ≡ got ms z
opened n d k w x z ms q f = rw (ws_yield w x) (deeper_is d k (λ e. read_in_object n e (ws x)) (got ms z) q f)

-- AN ARRAY OR AN OBJECT AS A VALUE: from its first byte b on, one level deeper, `inside` reads the rest past white space
record Opens {A : Type 0} (b : ℕ) (f : A → LValue) (inside : ℕ → ℕ → List ℕ → Got A) : Type 0 where
  black : is_ws b ≡ false
  small : b < 256
  is : (n d : ℕ) (x : List ℕ) → read_bare n d (b ∷ x) ≡ over f (deeper d (λ e. inside n e (ws x)))

arrays : Opens 0x5B array_l (λ n d x. read_in_array n d x)
unfolding is_ws value_lead
arrays = record { black = refl; small = omega arith; is = λ n d x. refl }

objects : Opens 0x7B object_l (λ n d x. read_in_object n d x)
unfolding is_ws value_lead
objects = record { black = refl; small = omega arith; is = λ n d x. refl }

opens_case : {A : Type 0} {b : ℕ} {f : A → LValue} {inside : ℕ → ℕ → List ℕ → Got A} → Opens b f inside
    → (n d k : ℕ) (t : Token) (x : List ℕ) (w : Ws) (r : List ℕ) (a : A) → length (yield_token b t x) ≤ n → k < d
    → ((m e : ℕ) → length x ≤ m → k ≤ e → inside m e (ws x) ≡ got a (yield_many w r))
    → read_value n d (yield_token b t x) ≡ got (item (yield_from b t x) (yield_many w r) (f a)) (ws r)
unfolding read_value yield_from
opens_case {A} {b} {f} {inside} o n d k t x w r a h q g =
    let y = yield_many t.after x in
    enough (λ m. read_value m d (yield_token b t x)) _ n (length x) (omega (arith, longer (Written.token b o.small t) x))
    (λ m l.
    ap (λ (s : List ℕ). placed_item s (read_bare m d s)) (token_first b o.black t x)
    ∙ ap (placed_item (b ∷ y)) (o.is m d y)
    ∙ rw (ws_yield t.after x, deeper_is d k (λ e. inside m e (ws x)) (got a (yield_many w r)) q (λ e. g m e l), ws_yield w r))

-- TREES

-- past the first bracket or brace and its white space
unfoldable pub inside_array : ArrayTree → List ℕ → List ℕ
inside_array (array0 b e) r = yield_token 0x5D e r
inside_array (array_of b v vs e) r = yield_value v (yield_elements vs (yield_token 0x5D e r))

unfoldable pub inside_object : ObjectTree → List ℕ → List ℕ
inside_object (object0 b e) r = yield_token 0x7D e r
inside_object (object_of b m ms e) r = yield_member m (yield_members ms (yield_token 0x7D e r))

-- an object's first brace, with its white space
unfoldable pub first_token : ObjectTree → Token
first_token (object0 b e) = b
first_token (object_of b m ms e) = b

pub object_token : (o : ObjectTree) (r : List ℕ) → yield_object o r ≡ yield_token 0x7B (first_token o) (inside_object o r)
unfolding yield_object first_token inside_object
object_token (object0 b e) r = refl
object_token (object_of b m ms e) r = refl

abbrev pub ArrayRead : ArrayTree → List ℕ → ℕ → ℕ → Type 0
ArrayRead a r n d =
    length (inside_array a r) ≤ n → depth_values (reading_array a) ≤ d → read_in_array n d (ws (inside_array a r)) ≡ got (located_array a r) (past_array a r)

abbrev pub ObjectRead : ObjectTree → List ℕ → ℕ → ℕ → Type 0
ObjectRead o r n d =
    length (inside_object o r) ≤ n → depth_members (reading_object o) ≤ d → read_in_object n d (ws (inside_object o r)) ≡ got (located_object o r) (past_object o r)

array_value : (a : ArrayTree) (n d : ℕ) (r : List ℕ) → ((m e : ℕ) → ArrayRead a r m e) → length (yield_array a r) ≤ n → depth_values (reading_array a) < d
    → read_value n d (yield_array a r) ≡ got (item (from_array a r) (past_array a r) (array_l (located_array a r))) (ws r)
unfolding yield_array inside_array from_array past_array located_array
array_value (array0 b e) n d r f h k = opens_case arrays n d _ b _ e.after r _ h k f
array_value (array_of b v vs e) n d r f h k = opens_case arrays n d _ b _ e.after r _ h k f

object_value : (o : ObjectTree) (n d : ℕ) (r : List ℕ) → ((m e : ℕ) → ObjectRead o r m e) → length (yield_object o r) ≤ n → depth_members (reading_object o) < d
    → read_value n d (yield_object o r) ≡ got (item (from_object o r) (past_object o r) (object_l (located_object o r))) (ws r)
unfolding yield_object inside_object from_object past_object located_object
object_value (object0 b e) n d r f h k = opens_case objects n d _ b _ e.after r _ h k f
object_value (object_of b m ms e) n d r f h k = opens_case objects n d _ b _ e.after r _ h k f

-- a member's depth, and that of the members after it
abbrev pub depth_member : MemberTree → ℕ
depth_member m = depth_members (reading_member m mnil)

pub member_depth : (m : MemberTree) (ms : Members) → depth_members (reading_member m ms) ≡ max (depth_member m) (depth_members ms)
unfolding reading_member depth_members
member_depth (pair cs c v) ms = omega arith

mutual
  unfolding yield_value reading_value located_value depth inside_array inside_object past_object past_array read_value skip is_ws value_lead word

  pub complete_value : (v : ValueTree) (n d : ℕ) (r : List ℕ) → length (yield_value v r) ≤ n → depth (reading_value v) ≤ d → Stops r
      → read_value n d (yield_value v r) ≡ got (located_value v r) (ws r)
  complete_value false_t n d r l q st = leaf false_t n d r l (λ m. refl)
  complete_value null_t n d r l q st = leaf null_t n d r l (λ m. refl)
  complete_value true_t n d r l q st = leaf true_t n d r l (λ m. refl)
  complete_value (object_t o) n d r l q st = object_value o n d r (λ m e h k. complete_object o m e r h k) l q
  complete_value (array_t a) n d r l q st = array_value a n d r (λ m e h k. complete_array a m e r h k) l q
  complete_value (number_t x) n d r l q st = leaf (number_t x) n d r l (λ m. number_case m d x r st)
  complete_value (string_t cs) n d r l q st = string_case n d cs r l

  pub complete_object : (o : ObjectTree) (n d : ℕ) (r : List ℕ) → ObjectRead o r n d
  complete_object (object0 b e) n d r l q = none_inside members n d e r
  complete_object (object_of b m ms e) n d r l q =
      let x = yield_members ms (yield_token 0x7D e r) in
      let k = member_depth m (reading_members ms) in
      object_members n d m x
      ∙ rw (complete_member m n d x l (omega arith) (stops_members ms e r), complete_members ms n d e r (omega (arith, longer (Written.member m) x)) (omega arith))

  pub complete_member : (m : MemberTree) (n d : ℕ) (r : List ℕ) → length (yield_member m r) ≤ n → depth_member m ≤ d → Stops r
      → read_member n d (yield_member m r) ≡ got (located_member m r) (ws r)
  complete_member (pair cs c v) n d r l q st =
      let x = yield_value v r in
      member_case n d cs c x (ws r) (located_value v r) l
      (complete_value v n d r (omega (arith, longer (Written.string cs) (yield_token 0x3A c x), longer (Written.token 0x3A (omega arith) c) x)) (omega arith) st)

  pub complete_members : (ms : MembersTail) (n d : ℕ) (e : Token) (r : List ℕ) → length (yield_members ms (yield_token 0x7D e r)) ≤ n
      → depth_members (reading_members ms) ≤ d
      → read_more_members n d (ws (yield_members ms (yield_token 0x7D e r))) ≡ got (located_members ms (yield_token 0x7D e r)) (yield_many e.after r)
  complete_members mend n d e r l q = last_one members n d e r l
  complete_members (mmore c m ms) n d e r l q =
      let x = yield_members ms (yield_token 0x7D e r) in
      let k = member_depth m (reading_members ms) in
      next_one members n d c (yield_member m x) _ l
      (λ j h. rw (
        member_first m x,
        complete_member m j d x h (omega arith) (stops_members ms e r),
        complete_members ms j d e r (omega (arith, longer (Written.member m) x)) (omega arith),
      ))

  pub complete_array : (a : ArrayTree) (n d : ℕ) (r : List ℕ) → ArrayRead a r n d
  complete_array (array0 b e) n d r l q = none_inside elements n d e r
  complete_array (array_of b v vs e) n d r l q =
      let x = yield_elements vs (yield_token 0x5D e r) in
      let h = complete_value v n d x l (omega arith) (stops_elements vs e r) in
      array_elements n d (yield_value v x) (located_value v x) (ws x) h
      ∙ rw (h, complete_elements vs n d e r (omega (arith, longer (Written.value v) x)) (omega arith))

  pub complete_elements : (vs : ElementsTail) (n d : ℕ) (e : Token) (r : List ℕ) → length (yield_elements vs (yield_token 0x5D e r)) ≤ n
      → depth_values (reading_elements vs) ≤ d
      → read_more_elements n d (ws (yield_elements vs (yield_token 0x5D e r))) ≡ got (located_elements vs (yield_token 0x5D e r)) (yield_many e.after r)
  complete_elements eend n d e r l q = last_one elements n d e r l
  complete_elements (emore c v vs) n d e r l q =
      let x = yield_elements vs (yield_token 0x5D e r) in
      next_one elements n d c (yield_value v x) _ l
      (λ j h. rw (
        read_value_ws j d (yield_value v x),
        complete_value v j d x h (omega arith) (stops_elements vs e r),
        complete_elements vs j d e r (omega (arith, longer (Written.value v) x)) (omega arith),
      ))

-- a whole object, past its first brace
pub read_object_lem : (o : ObjectTree) (n d : ℕ) (r : List ℕ) → length (inside_object o r) ≤ n → depth_members (reading_object o) < d
    → read_object n d (yield_many (first_token o).after (inside_object o r)) ≡ got (located_object o r) (past_object o r)
read_object_lem o n d r l q = opened n d _ (first_token o).after (inside_object o r) (past_object o r) (located_object o r) q (λ e k. complete_object o n e r l k)

past_object_lem : (o : ObjectTree) (r : List ℕ) → ws (past_object o r) ≡ ws r
unfolding past_object
past_object_lem (object0 b e) r = ws_yield e.after r
past_object_lem (object_of b m ms e) r = ws_yield e.after r

first_brace : (w : Ws) (t : Token) (x : List ℕ) → ws (yield_many w (yield_token 0x7B t x)) ≡ 0x7B ∷ yield_many t.after x
unfolding is_ws
first_brace w t x = ws_yield w (yield_token 0x7B t x) ∙ token_first 0x7B refl t x

pub text_case : (d : ℕ) (s x y : List ℕ) (ms : LMembers) → ws s ≡ 0x7B ∷ x → read_object (length s) d x ≡ got ms y → ws y ≡ [] → read d s ≡ got ms []
unfolding read
text_case d s x y ms h k e = rw (h, k, e)

-- COMPLETE: what is derived is read, as the derivation has it, if the depth allows it
pub complete : (d : ℕ) (t : Derivation) → depth_of t ≤ d → read d (bytes t) ≡ got (members_of t) []
unfolding bytes members_of depth_of reading_of depth skip
complete d t k =
    let o = t.top in
    let r = yield_many t.after [] in
    let b = first_token o in
    let x = inside_object o r in
    let y = yield_token 0x7B b x in
    rw (object_token o r)
    (text_case d (yield_many t.before y) (yield_many b.after x) (past_object o r) (located_object o r)
    (first_brace t.before b x)
    (read_object_lem o _ d r (omega (arith, longer (Written.white t.before) y, longer (Written.token 0x7B (omega arith) b) x)) k)
    (past_object_lem o r ∙ ws_yield t.after []))
