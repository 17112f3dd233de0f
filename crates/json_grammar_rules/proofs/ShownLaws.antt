-- The bytes at the places of member k resolve to the name and the value of member k of the reading.
use Rattle.std.specs.Prelude.{◌≡◌, refl, List, [], ◌∷◌, ◌++◌, ℕ, zero, suc, ◌+◌, ◌-◌, length, take, drop}
use Rattle.std.proofs.Common.{sym, ap, ◌∙◌, append_assoc, arith, length-append, take_at, drop_at}
use Rattle.std.proofs.Math.Seq.{slice}
use Rattle.json_grammar_rules.specs.Value.{Value, Members, string_v, number_v, true_v, false_v, null_v, array_v, object_v, depth, LItem, LMembers, item}
use Rattle.json_grammar_rules.specs.Value.{named, lcons, plain, plain_item, plain_members}
use Rattle.json_grammar_rules.specs.Grammar.{none, Token, Chars, ValueTree, false_t, null_t, true_t, object_t, array_t, number_t, string_t, ObjectTree}
use Rattle.json_grammar_rules.specs.Grammar.{object0, object_of, MemberTree, pair, MembersTail, mend, mmore}
use Rattle.json_grammar_rules.specs.Grammar.{ArrayTree, array0, array_of, Derivation}
use Rattle.json_grammar_rules.specs.Grammar.{yield_many, yield_token, yield_from, yield_chars, yield_string, yield_value, yield_object, yield_member}
use Rattle.json_grammar_rules.specs.Grammar.{yield_members, yield_array, bytes}
use Rattle.json_grammar_rules.specs.Grammar.{codes_of, reading_value, reading_object, reading_member, reading_members, reading_array, reading_of}
use Rattle.json_grammar_rules.specs.Grammar.{from_object, past_object, from_array, past_array, located_value, located_object, located_member, located_members}
use Rattle.json_grammar_rules.specs.Grammar.{members_of}
use Rattle.json_grammar_rules.specs.declared.Kind.{Kind}
use Rattle.json_grammar_rules.specs.Places.{kind_of, pos, margin, placed, member}
use Rattle.json_grammar_rules.specs.Reader.{got, ws, read_chars, read_value, read}
use Rattle.json_grammar_rules.specs.Shown.{Text, Bare, Whole, Resolves, Shown, Shows}
use Rattle.json_grammar_rules.proofs.Written.{Writes, followed}
use Rattle.json_grammar_rules.proofs.Written
use Rattle.json_grammar_rules.proofs.Readings.{plain_value, plain_of}
use Rattle.json_grammar_rules.proofs.CharLaws.{complete_chars}
use Rattle.json_grammar_rules.proofs.Complete.{complete_value}
use Rattle.json_grammar_rules.proofs.Sound.{sound}

-- PLACES

-- r stands at the end of s
pub record Ends (s r : List ℕ) : Type 0 where
  pub front : List ℕ
  pub is : s ≡ front ++ r

ends_with : {k : ℕ} {f : List ℕ → List ℕ} {s : List ℕ} {r : List ℕ} → Ends s (f r) → Writes k f → Ends s r
ends_with {r = r} e w =
    record { front = e.front ++ w.written; is = e.is ∙ ap (λ (l : List ℕ). e.front ++ l) (w.is r) ∙ sym (append_assoc e.front w.written r) }

past_byte : {b : ℕ} {s r : List ℕ} → Ends s (b ∷ r) → Ends s r
past_byte {b = b} {r = r} e = record { front = e.front ++ (b ∷ []); is = e.is ∙ sym (append_assoc e.front (b ∷ []) r) }

-- the bytes of s from i to j are x, if x and then t stand at the end of s
stands : (s x t : List ℕ) (i j : ℕ) → Ends s (x ++ t) → i ≡ pos s (x ++ t) → j ≡ pos s t → slice i j s ≡ x
unfolding pos
stands s x t i j e p q =
    let f = e.front in
    let h : s ≡ (f ++ x) ++ t = e.is ∙ sym (append_assoc f x t) in
    let a = length-append x t in
    let b = length-append f (x ++ t) in
    let c = length-append f x in
    let n : length s ≡ length (f ++ (x ++ t)) = ap length e.is in
    ap (λ (l : List ℕ). drop i (take j l)) h ∙ ap (drop i) (take_at (f ++ x) t j (omega arith)) ∙ drop_at f x i (omega arith)

pub text_stands : (s : List ℕ) (cs : Chars) (t : List ℕ) (i j : ℕ) → Ends s (yield_chars cs t) → i ≡ pos s (yield_chars cs t) → j ≡ pos s t
    → Text (slice i j s) (codes_of cs)
text_stands s cs t i j e p q = let w = followed (Written.chars cs) t in (cs, sym (stands s (yield_chars cs []) t i j (rw w at e) (rw w at p) q), refl)

pub whole_stands : (s : List ℕ) (v : ValueTree) (t : List ℕ) (i j : ℕ) → Bare v → Ends s (yield_value v t) → i ≡ pos s (yield_value v t) → j ≡ pos s t
    → Whole (slice i j s) (reading_value v)
whole_stands s v t i j b e p q = let w = followed (Written.value v) t in (v, sym (stands s (yield_value v []) t i j (rw w at e) (rw w at p) q), refl, b)

-- ARRAYS AND OBJECTS WITHOUT THE WHITE SPACE AROUND THEM

abbrev opening : Token → Token
opening t = record { before = none; after = t.after }

abbrev closing : Token → Token
closing t = record { before = t.before; after = none }

unfoldable trim_array : ArrayTree → ArrayTree
trim_array (array0 b e) = array0 (opening b) (closing e)
trim_array (array_of b v vs e) = array_of (opening b) v vs (closing e)

unfoldable trim_object : ObjectTree → ObjectTree
trim_object (object0 b e) = object0 (opening b) (closing e)
trim_object (object_of b m ms e) = object_of (opening b) m ms (closing e)

array_trimmed : (a : ArrayTree) (r : List ℕ) → (from_array a r ≡ yield_array (trim_array a) (past_array a r)) × (reading_array (trim_array a) ≡ reading_array a)
unfolding from_array past_array trim_array yield_array yield_token yield_from yield_many reading_array
array_trimmed (array0 b e) r = (refl, refl)
array_trimmed (array_of b v vs e) r = (refl, refl)

object_trimmed : (o : ObjectTree) (r : List ℕ) → (from_object o r ≡ yield_object (trim_object o) (past_object o r)) × (reading_object (trim_object o) ≡ reading_object o)
unfolding from_object past_object trim_object yield_object yield_token yield_from yield_many reading_object
object_trimmed (object0 b e) r = (refl, refl)
object_trimmed (object_of b m ms e) r = (refl, refl)

array_bare : (a : ArrayTree) → Bare (array_t (trim_array a))
unfolding trim_array
array_bare (array0 b e) = (refl, refl)
array_bare (array_of b v vs e) = (refl, refl)

object_bare : (o : ObjectTree) → Bare (object_t (trim_object o))
unfolding trim_object
object_bare (object0 b e) = (refl, refl)
object_bare (object_of b m ms e) = (refl, refl)

array_ends : {s : List ℕ} (a : ArrayTree) (r : List ℕ) → Ends s (yield_array a r) → Ends s (from_array a r)
unfolding from_array yield_array yield_token yield_from
array_ends (array0 b e) r h = ends_with h (Written.white b.before)
array_ends (array_of b v vs e) r h = ends_with h (Written.white b.before)

object_ends : {s : List ℕ} (o : ObjectTree) (r : List ℕ) → Ends s (yield_object o r) → Ends s (from_object o r)
unfolding from_object yield_object yield_token yield_from
object_ends (object0 b e) r h = ends_with h (Written.white b.before)
object_ends (object_of b m ms e) r h = ends_with h (Written.white b.before)

-- MEMBERS

-- a value's kind and place in s
abbrev ItemShown : List ℕ → LItem → Value → Type 0
ItemShown s (item a b w) v = (kind_of (plain w) ≡ kind_of v) × Resolves (slice (pos s a + margin (kind_of (plain w))) (pos s b - margin (kind_of (plain w))) s) v

whole_shown : (s : List ℕ) (v : ValueTree) (a t : List ℕ) → Bare v → Ends s a → a ≡ yield_value v t → Whole (slice (pos s a + 0) (pos s t - 0) s) (reading_value v)
whole_shown s v a t b e p = whole_stands s v t (pos s a + 0) (pos s t - 0) b (rw p at e) (rw p (omega arith)) (omega arith)

string_shown : (s : List ℕ) (cs : Chars) (r : List ℕ) → Ends s (yield_string cs r) → Text (slice (pos s (yield_string cs r) + 1) (pos s r - 1) s) (codes_of cs)
unfolding yield_string pos
string_shown s cs r e =
    let x = yield_chars cs (0x22 ∷ r) in
    let n : length s ≡ length e.front + suc (length x) = ap length e.is ∙ length-append e.front (0x22 ∷ x) in
    text_stands s cs (0x22 ∷ r) (pos s (0x22 ∷ x) + 1) (pos s r - 1) (past_byte e) (omega arith) (omega arith)

value_shown : (s : List ℕ) (v : ValueTree) (r : List ℕ) → Ends s (yield_value v r) → ItemShown s (located_value v r) (reading_value v)
unfolding located_value reading_value yield_value yield_string plain kind_of margin
value_shown s false_t r e = (refl, whole_shown s false_t _ r tt e refl)
value_shown s null_t r e = (refl, whole_shown s null_t _ r tt e refl)
value_shown s true_t r e = (refl, whole_shown s true_t _ r tt e refl)
value_shown s (number_t n) r e = (refl, whole_shown s (number_t n) _ r tt e refl)
value_shown s (array_t a) r e =
    let t = array_trimmed a r in
    (refl, rw (ap array_v t.1) at (whole_shown s (array_t (trim_array a)) (from_array a r) (past_array a r) (array_bare a) (array_ends a r e) t.0))
value_shown s (object_t o) r e =
    let t = object_trimmed o r in
    (refl, rw (ap object_v t.1) at (whole_shown s (object_t (trim_object o)) (from_object o r) (past_object o r) (object_bare o) (object_ends o r e) t.0))
value_shown s (string_t cs) r e = (refl, string_shown s cs r e)

-- a member before others
member_shown : (s : List ℕ) (m : MemberTree) (r : List ℕ) → Ends s (yield_member m r) → (ls : LMembers) (ms : Members) → ((k : ℕ) → Shows s (member s k ls) ms k)
    → (k : ℕ) → Shows s (member s k (lcons (located_member m r) ls)) (reading_member m ms) k
unfolding yield_member yield_string located_member reading_member member placed
member_shown s (pair cs c v) r e ls ms f (suc k) = f k
member_shown s (pair cs c v) r e ls ms f zero =
    let x = yield_token 0x3A c (yield_value v r) in
    let e₁ : Ends s (yield_value v r) = ends_with (ends_with e (Written.string cs)) (Written.token 0x3A (omega arith) c) in
    (_, refl, both _ _ (located_value v r) (text_stands s cs (0x22 ∷ x) _ _ (past_byte e) refl refl) (value_shown s v r e₁))
  where
    both : (f t : List ℕ) {n : List ℕ} {w : Value} (i : LItem) → Text (slice (pos s f) (pos s t) s) n → ItemShown s i w → Shown s (placed s (named f t n i)) n w
    both f t (item a b u) x y = record { kind = y.0; name = x; value = y.1 }

members_shown : (s : List ℕ) (ms : MembersTail) (r : List ℕ) → Ends s (yield_members ms r)
    → (k : ℕ) → Shows s (member s k (located_members ms r)) (reading_members ms) k
unfolding yield_members located_members reading_members member
members_shown s mend r e k = refl
members_shown s (mmore c m ms) r e k =
    let e₁ : Ends s (yield_member m (yield_members ms r)) = ends_with e (Written.token 0x2C (omega arith) c) in
    member_shown s m (yield_members ms r) e₁ (located_members ms r) (reading_members ms) (λ j. members_shown s ms r (ends_with e₁ (Written.member m)) j) k

object_shown : (s : List ℕ) (o : ObjectTree) (r : List ℕ) → Ends s (yield_object o r) → (k : ℕ) → Shows s (member s k (located_object o r)) (reading_object o) k
unfolding yield_object located_object reading_object member
object_shown s (object0 b e) r h k = refl
object_shown s (object_of b m ms e) r h k =
    let x = yield_token 0x7D e r in
    let h₁ : Ends s (yield_member m (yield_members ms x)) = ends_with h (Written.token 0x7B (omega arith) b) in
    member_shown s m (yield_members ms x) h₁ (located_members ms x) (reading_members ms) (members_shown s ms x (ends_with h₁ (Written.member m))) k

-- THE MEMBER SHOWN: what a derivation gives for k is member k of its reading, and the bytes there resolve to it
pub shown : (t : Derivation) (k : ℕ) → Shows (bytes t) (member (bytes t) k (members_of t)) (reading_of t) k
unfolding bytes members_of reading_of
shown t k = object_shown (bytes t) t.top (yield_many t.after []) (ends_with (record { front = []; is = refl }) (Written.white t.before)) k

-- .. so of every text that is read
pub shown_read : (d : ℕ) (s : List ℕ) (ms : LMembers) (r : List ℕ) → read d s ≡ got ms r → (k : ℕ) → Shows s (member s k ms) (plain_members ms) k
shown_read d s ms r h k = let t = sound d s ms r h in go t.0 t.1 t.2
  where
    go : (t : Derivation) → bytes t ≡ s → members_of t ≡ ms → Shows s (member s k ms) (plain_members ms) k
    go t p q = rw (← p, ← q, plain_of t) (shown t k)

-- WHAT BYTES RESOLVE TO IS DETERMINED

pub text_once : (x cs ds : List ℕ) → Text x cs → Text x ds → cs ≡ ds
text_once x cs ds a b =
    let p = followed (Written.chars a.0) (0x22 ∷ []) in
    let q = followed (Written.chars b.0) (0x22 ∷ []) in
    let s = yield_chars a.0 (0x22 ∷ []) in
    let e : yield_chars b.0 (0x22 ∷ []) ≡ s = cc (p, q, a.1, b.1) in
    let h : read_chars (length s) s ≡ got (codes_of a.0) [] = complete_chars a.0 (length s) [] (omega arith) in
    let k : read_chars (length s) s ≡ got (codes_of b.0) [] = rw e at (complete_chars b.0 (length s) [] (rw e (omega arith))) in
    cc (h, k, a.2, b.2)

pub whole_once : (x : List ℕ) (v w : Value) → Whole x v → Whole x w → v ≡ w
whole_once x v w a b =
    sym a.2 ∙ sym (plain_value a.0 []) ∙ ap plain_item (go a.0 b.0 (a.1 ∙ sym b.1)) ∙ plain_value b.0 [] ∙ b.2
  where
    go : (t u : ValueTree) → yield_value t [] ≡ yield_value u [] → located_value t [] ≡ located_value u []
    go t u e =
        let n = length (yield_value t []) + length (yield_value u []) in
        let d = depth (reading_value t) + depth (reading_value u) in
        let h : read_value n d (yield_value t []) ≡ got (located_value t []) (ws []) = complete_value t n d [] (omega arith) (omega arith) refl in
        let k : read_value n d (yield_value u []) ≡ got (located_value u []) (ws []) = complete_value u n d [] (omega arith) (omega arith) refl in
        cc

-- a string with its quotation marks again
unfoldable quoted : Kind → List ℕ → List ℕ
quoted Kind.String x = 0x22 ∷ (x ++ 0x22 ∷ [])
quoted Kind.Number x = x
quoted Kind.True x = x
quoted Kind.False x = x
quoted Kind.Null x = x
quoted Kind.Array x = x
quoted Kind.Object x = x

resolves_whole : (x : List ℕ) (v : Value) → Resolves x v → Whole (quoted (kind_of v) x) v
unfolding quoted kind_of yield_value yield_string reading_value
resolves_whole x (string_v cs) h =
    let w = followed (Written.chars h.0) (0x22 ∷ []) in
    (string_t h.0, ap (λ (l : List ℕ). 0x22 ∷ l) (w ∙ ap (λ (l : List ℕ). l ++ (0x22 ∷ [])) h.1), ap string_v h.2, tt)
resolves_whole x (number_v cs) h = h
resolves_whole x true_v h = h
resolves_whole x false_v h = h
resolves_whole x null_v h = h
resolves_whole x (array_v vs) h = h
resolves_whole x (object_v ms) h = h

pub resolves_once : (x : List ℕ) (v w : Value) → kind_of v ≡ kind_of w → Resolves x v → Resolves x w → v ≡ w
resolves_once x v w e a b = whole_once (quoted (kind_of w) x) v w (rw e at (resolves_whole x v a)) (resolves_whole x w b)
