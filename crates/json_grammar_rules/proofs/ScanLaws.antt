-- The scan of a text that is derived says whether a name stands twice in some object of its reading.
use Rattle.std.specs.Prelude.{◌≡◌, refl, Bool, true, false, ◌||◌, List, [], ◌∷◌, ◌++◌, ℕ, zero, suc, ◌≤◌, ◌<◌, eqb, length}
use Rattle.std.proofs.Common.{sym, ap, ap₂, ◌∙◌, subst, append_assoc, append-nil, arith, ne_eqb}
use Rattle.std.proofs.Math.Bool.{or_assoc, or-false}
use Rattle.common.specs.Same.{same}
use Rattle.common.proofs.SameLaws.{same_sym}
use Rattle.json_grammar_rules.specs.Bytes.{within, is_ws, is_digit, is_digit19}
use Rattle.json_grammar_rules.specs.Value.{Value, Values, Members, string_v, number_v, true_v, false_v, null_v, array_v, object_v, vnil, vcons, mnil, mcons}
use Rattle.json_grammar_rules.specs.Value.{among, repeated, names, twice, twice_values, twice_members, LMembers, plain_members}
use Rattle.json_grammar_rules.specs.Grammar.{Many, none, more, Ws, Token, Chars, Digits1, digits1, Minus, no_minus, minus, Int, int_zero, int_digits}
use Rattle.json_grammar_rules.specs.Grammar.{Frac, no_frac, fraction, Sign, no_sign, sign, Exp, no_exp, exponent, Number, number_of}
use Rattle.json_grammar_rules.specs.Grammar.{ValueTree, false_t, null_t, true_t, object_t, array_t, number_t, string_t, ObjectTree, object0, object_of}
use Rattle.json_grammar_rules.specs.Grammar.{MemberTree, pair, MembersTail, mend, mmore}
use Rattle.json_grammar_rules.specs.Grammar.{ArrayTree, array0, array_of, ElementsTail, eend, emore, Derivation}
use Rattle.json_grammar_rules.specs.Grammar.{yield_many, yield_token, yield_string, yield_digits1, yield_minus, yield_int, yield_frac, yield_sign, yield_exp}
use Rattle.json_grammar_rules.specs.Grammar.{yield_number, yield_value, yield_object, yield_member, yield_members, yield_array, yield_elements, bytes}
use Rattle.json_grammar_rules.specs.Grammar.{codes_of, reading_value, reading_object, reading_member, reading_members, reading_array, reading_elements, reading_of, members_of}
use Rattle.json_grammar_rules.specs.Reader.{got, skip, ws, read}
use Rattle.json_grammar_rules.specs.Scan.{Mark, opens, closes, name, colon_next, marks_name, marks_string, marks, around, beyond, search, every, no_more, scan}
use Rattle.json_grammar_rules.proofs.ByteLaws.{within_true, white_cases, e_cases, sign_cases}
use Rattle.json_grammar_rules.proofs.ReaderLaws.{ws_yield}
use Rattle.json_grammar_rules.proofs.Written.{longer}
use Rattle.json_grammar_rules.proofs.Written
use Rattle.json_grammar_rules.proofs.CharLaws.{complete_chars}
use Rattle.json_grammar_rules.proofs.Readings.{plain_of}
use Rattle.json_grammar_rules.proofs.Sound.{sound}

-- THE MARKS OF A READING

unfoldable mutual
  marks_value : Value → List Mark
  marks_value (string_v cs) = []
  marks_value (number_v cs) = []
  marks_value true_v = []
  marks_value false_v = []
  marks_value null_v = []
  marks_value (array_v vs) = marks_values vs
  marks_value (object_v ms) = opens ∷ (marks_members ms ++ (closes ∷ []))

  marks_values : Values → List Mark
  marks_values vnil = []
  marks_values (vcons v vs) = marks_value v ++ marks_values vs

  marks_members : Members → List Mark
  marks_members mnil = []
  marks_members (mcons n v ms) = name n ∷ (marks_value v ++ marks_members ms)

-- THE MARKS OF A TEXT THAT IS DERIVED

-- the marks from x on are ms, and then those from r on
abbrev Marking : ℕ → List ℕ → List Mark → List ℕ → Type 0
Marking n x ms r = (m : ℕ) × (length r ≤ m) × (marks n x ≡ ms ++ marks m r)

-- the bytes that f puts before what follows have the marks ms, if P holds of what follows
record Marked (P : List ℕ → Type 0) (f : List ℕ → List ℕ) (ms : List Mark) : Type 0 where
  from : (n : ℕ) (r : List ℕ) → P r → length (f r) ≤ n → Marking n (f r) ms r

abbrev Any : List ℕ → Type 0
Any r = Unit {0}

-- no colon follows: a string before r is a value
abbrev Calm : List ℕ → Type 0
Calm r = colon_next (ws r) ≡ false

nothing : {P : List ℕ → Type 0} → Marked P (λ r. r) []
nothing = record { from = λ n r c h. (n, h, refl) }

-- one after the other
joined : {P Q : List ℕ → Type 0} {f g : List ℕ → List ℕ} {ms ks : List Mark} → ((r : List ℕ) → Q r → P (g r)) → Marked P f ms → Marked Q g ks → Marked Q (λ r. f (g r)) (ms ++ ks)
joined {g = g} {ms = ms} {ks = ks} k p q =
    record {
      from = λ n r c h.
          let i = p.from n (g r) (k r c) h in
          let j = q.from i.0 r c i.1 in
          (j.0, j.1, i.2 ∙ ap (◌++◌ ms) j.2 ∙ sym (append_assoc ms ks (marks j.0 r)));
    }

◌then◌ : {Q : List ℕ → Type 0} {f g : List ℕ → List ℕ} {ms ks : List Mark} → Marked Any f ms → Marked Q g ks → Marked Q (λ r. f (g r)) (ms ++ ks)
p then q = joined (λ r c. tt) p q

infixr 40 ◌then◌
calmly : {f : List ℕ → List ℕ} {ms : List Mark} → Marked Any f ms → Marked Calm f ms
calmly p = record { from = λ n r c h. p.from n r tt h }

that : {P : List ℕ → Type 0} {f : List ℕ → List ℕ} {ms ks : List Mark} → ms ≡ ks → Marked P f ms → Marked P f ks
that {P = P} {f = f} e p = subst (Marked P f) e p

-- a byte with its marks
shown : (b : ℕ) (ms : List Mark) → ((n : ℕ) (r : List ℕ) → marks (suc n) (b ∷ r) ≡ ms ++ marks n r) → Marked Any (λ r. b ∷ r) ms
shown b ms e = record { from = go }
  where
    go : (n : ℕ) (r : List ℕ) → Unit {0} → suc (length r) ≤ n → Marking n (b ∷ r) ms r
    go zero r c h = absurd (omega arith)
    go (suc n) r c h = (n, omega arith, e n r)

-- one that is no quotation mark and no brace
abbrev Quiet : ℕ → Type 0
Quiet b = (eqb b 0x22 ≡ false) × (eqb b 0x7B ≡ false) × (eqb b 0x7D ≡ false)

byte : (b : ℕ) → Quiet b → Marked Any (λ r. b ∷ r) []
unfolding marks
byte b e = shown b [] (λ n r. rw (e.0, e.1, e.2))

many : {p : ℕ → Bool} → ((b : ℕ) → p b ≡ true → Quiet b) → (m : Many p) → Marked Any (yield_many m) []
unfolding yield_many
many q none = nothing
many q (more b h m) = byte b (q b h) then many q m

white : (w : Ws) → Marked Any (yield_many w) []
white w = many (white_cases Quiet (refl, refl, refl) (refl, refl, refl) (refl, refl, refl) (refl, refl, refl)) w

-- a structural character with its white space
token : {b : ℕ} {ms : List Mark} → Marked Any (λ r. b ∷ r) ms → (t : Token) → Marked Any (yield_token b t) ms
unfolding yield_token
token {b} {ms} p t = white t.before then that (append-nil ms) (p then white t.after)

separator : (b : ℕ) → Quiet b → (t : Token) → Marked Any (yield_token b t) []
separator b q t = token (byte b q) t

opening : (t : Token) → Marked Any (yield_token 0x7B t) (opens ∷ [])
unfolding marks
opening t = token (shown 0x7B (opens ∷ []) (λ n r. refl)) t

closing : (t : Token) → Marked Any (yield_token 0x7D t) (closes ∷ [])
unfolding marks
closing t = token (shown 0x7D (closes ∷ []) (λ n r. refl)) t

-- what follows white space and another structural character than a colon
calm_token : (b : ℕ) → is_ws b ≡ false → eqb b 0x3A ≡ false → (t : Token) (r : List ℕ) → Calm (yield_token b t r)
unfolding yield_token skip
calm_token b w e t r =
    let x = yield_many t.after r in
    ap colon_next (ws_yield t.before (b ∷ x) ∙ ap (λ (z : Bool). elim z [ true ↦ ws x | false ↦ b ∷ x ]) w) ∙ e

-- STRINGS

pub marks_front : (u : Bool) (cs : List ℕ) (ms : List Mark) → marks_name u cs ms ≡ marks_name u cs [] ++ ms
marks_front true cs ms = refl
marks_front false cs ms = refl

-- a name where a colon follows, and else a value
string : (u : Bool) (cs : Chars) → Marked (λ r. colon_next (ws r) ≡ u) (yield_string cs) (marks_name u (codes_of cs) [])
unfolding yield_string marks
string u cs = record { from = go }
  where
    go : (n : ℕ) (r : List ℕ) → colon_next (ws r) ≡ u → length (yield_string cs r) ≤ n → Marking n (yield_string cs r) (marks_name u (codes_of cs) []) r
    go zero r c h = absurd (omega arith)
    go (suc n) r c h = (
      n,
      omega (arith, longer (Written.string cs) r),
      ap (marks_string (λ y. marks n y)) (complete_chars cs n r (omega arith)) ∙ ap (λ (t : Bool). marks_name t (codes_of cs) (marks n r)) c ∙ marks_front u (codes_of cs) (marks n r),
    )

-- NUMBERS

quiet : (lo hi b : ℕ) → 0x22 < lo → hi < 0x7B → within lo hi b ≡ true → Quiet b
quiet lo hi b l h e = let k = within_true lo hi b e in (ne_eqb b 0x22 (omega (arith, k)), ne_eqb b 0x7B (omega (arith, k)), ne_eqb b 0x7D (omega (arith, k)))

digit : (b : ℕ) → is_digit b ≡ true → Quiet b
unfolding is_digit
digit b h = quiet 0x30 0x39 b (omega arith) (omega arith) h

some_digits : (ds : Digits1) → Marked Any (yield_digits1 ds) []
unfolding yield_digits1
some_digits (digits1 b h ds) = byte b (digit b h) then many digit ds

minus_sign : (m : Minus) → Marked Any (yield_minus m) []
unfolding yield_minus
minus_sign no_minus = nothing
minus_sign minus = byte 0x2D (refl, refl, refl)

int : (i : Int) → Marked Any (yield_int i) []
unfolding yield_int is_digit19
int int_zero = byte 0x30 (refl, refl, refl)
int (int_digits b h ds) = byte b (quiet 0x31 0x39 b (omega arith) (omega arith) h) then many digit ds

frac : (f : Frac) → Marked Any (yield_frac f) []
unfolding yield_frac
frac no_frac = nothing
frac (fraction ds) = byte 0x2E (refl, refl, refl) then some_digits ds

signed : (s : Sign) → Marked Any (yield_sign s) []
unfolding yield_sign
signed no_sign = nothing
signed (sign b h) = byte b (sign_cases Quiet (refl, refl, refl) (refl, refl, refl) b h)

exp : (e : Exp) → Marked Any (yield_exp e) []
unfolding yield_exp
exp no_exp = nothing
exp (exponent e h s ds) = byte e (e_cases Quiet (refl, refl, refl) (refl, refl, refl) e h) then signed s then some_digits ds

number : (n : Number) → Marked Any (yield_number n) []
unfolding yield_number
number (number_of m i f e) = minus_sign m then int i then frac f then exp e

-- VALUES

-- what follows a member's or an element's value: more of them, or what follows them all
calm_members : (ms : MembersTail) (r : List ℕ) → Calm r → Calm (yield_members ms r)
unfolding yield_members is_ws
calm_members mend r c = c
calm_members (mmore c m ms) r k = calm_token 0x2C refl refl c _

calm_elements : (vs : ElementsTail) (r : List ℕ) → Calm r → Calm (yield_elements vs r)
unfolding yield_elements is_ws
calm_elements eend r c = c
calm_elements (emore c v vs) r k = calm_token 0x2C refl refl c _

colon_token : (t : Token) (r : List ℕ) → colon_next (ws (yield_token 0x3A t r)) ≡ true
unfolding yield_token skip is_ws
colon_token t r = rw (ws_yield t.before (0x3A ∷ yield_many t.after r))

mutual
  unfolding yield_value reading_value marks_value is_ws

  value : (v : ValueTree) → Marked Calm (yield_value v) (marks_value (reading_value v))
  value false_t = calmly (byte 0x66 (refl, refl, refl) then byte 0x61 (refl, refl, refl) then byte 0x6C (refl, refl, refl) then byte 0x73 (refl, refl, refl) then byte 0x65 (refl, refl, refl))
  value null_t = calmly (byte 0x6E (refl, refl, refl) then byte 0x75 (refl, refl, refl) then byte 0x6C (refl, refl, refl) then byte 0x6C (refl, refl, refl))
  value true_t = calmly (byte 0x74 (refl, refl, refl) then byte 0x72 (refl, refl, refl) then byte 0x75 (refl, refl, refl) then byte 0x65 (refl, refl, refl))
  value (object_t o) = calmly (object o)
  value (array_t a) = calmly (array a)
  value (number_t n) = calmly (number n)
  value (string_t cs) = string false cs

  object : (o : ObjectTree) → Marked Any (yield_object o) (marks_value (object_v (reading_object o)))
  object (object0 b e) = opening b then closing e
  object (object_of b m ms e) =
      opening b then joined (λ r c. calm_token 0x7D refl refl e r) (member m (reading_members ms) (calm_members ms) (members ms)) (closing e)

  -- a member, before the members ms
  member : (m : MemberTree) (ms : Members) {g : List ℕ → List ℕ} → ((r : List ℕ) → Calm r → Calm (g r)) → Marked Calm g (marks_members ms) → Marked Calm (λ r. yield_member m (g r)) (marks_members (reading_member m ms))
  member (pair cs c v) ms {g} k p = joined (λ r i. colon_token c (yield_value v (g r))) (string true cs) (separator 0x3A (refl, refl, refl) c then joined k (value v) p)

  members : (ms : MembersTail) → Marked Calm (yield_members ms) (marks_members (reading_members ms))
  members mend = nothing
  members (mmore c m ms) = separator 0x2C (refl, refl, refl) c then member m (reading_members ms) (calm_members ms) (members ms)

  array : (a : ArrayTree) → Marked Any (yield_array a) (marks_values (reading_array a))
  array (array0 b e) = separator 0x5B (refl, refl, refl) b then separator 0x5D (refl, refl, refl) e
  array (array_of b v vs e) =
      separator 0x5B (refl, refl, refl) b
      then that (append-nil _) (joined (λ r c. calm_token 0x5D refl refl e r) (joined (calm_elements vs) (value v) (elements vs)) (separator 0x5D (refl, refl, refl) e))

  elements : (vs : ElementsTail) → Marked Calm (yield_elements vs) (marks_values (reading_elements vs))
  elements eend = nothing
  elements (emore c v vs) = separator 0x2C (refl, refl, refl) c then joined (calm_elements vs) (value v) (elements vs)

-- THE SEARCH OVER THE MARKS OF A READING

-- some name of ys is among the names b
unfoldable crosses : List (List ℕ) → List (List ℕ) → Bool
crosses b [] = false
crosses b (y ∷ ys) = among y b || crosses b ys

crosses_none : (ys : List (List ℕ)) → crosses [] ys ≡ false
unfolding crosses among
crosses_none [] = refl
crosses_none (y ∷ ys) = crosses_none ys

or_swap : (a b c d : Bool) → (a || b) || (c || d) ≡ (b || c) || (a || d)
or_swap true true c d = refl
or_swap true false true d = refl
or_swap true false false d = refl
or_swap false true c d = refl
or_swap false false c d = refl

crosses_more : (n : List ℕ) (b ys : List (List ℕ)) → crosses (n ∷ b) ys ≡ crosses b ys || among n ys
unfolding crosses among
crosses_more n b [] = refl
crosses_more n b (y ∷ ys) =
    ap (λ (t : Bool). (same y n || among y b) || t) (crosses_more n b ys)
    ∙ or_swap (same y n) (among y b) (crosses b ys) (among n ys)
    ∙ ap (λ (t : Bool). (among y b || crosses b ys) || (t || among n ys)) (same_sym y n)

-- the names ns join b, one by one
unfoldable joining : List (List ℕ) → List (List ℕ) → List (List ℕ)
joining [] b = b
joining (n ∷ ns) b = joining ns (n ∷ b)

-- a name's own, its value's, and those of the members after it
or_sort : (a t c m r u s : Bool) → a || (t || ((((c || m) || r) || u) || s)) ≡ (((a || c) || (m || r)) || (t || u)) || s
or_sort true t c m r u s = refl
or_sort false true true m r u s = refl
or_sort false true false true r u s = refl
or_sort false true false false true u s = refl
or_sort false true false false false u s = refl
or_sort false false true m r u s = refl
or_sort false false false true r u s = refl
or_sort false false false false true u s = refl
or_sort false false false false false u s = refl

mutual
  unfolding marks_value search twice repeated names crosses joining

  search_value : (v : Value) (b : List (List ℕ)) (o : List (List (List ℕ))) (r : List Mark) → search every b o (marks_value v ++ r) ≡ twice v || search every b o r
  search_value (string_v cs) b o r = refl
  search_value (number_v cs) b o r = refl
  search_value true_v b o r = refl
  search_value false_v b o r = refl
  search_value null_v b o r = refl
  search_value (array_v vs) b o r = search_values vs b o r
  search_value (object_v ms) b o r =
      ap (search every [] (b ∷ o)) (append_assoc (marks_members ms) (closes ∷ []) r)
      ∙ search_members ms [] (b ∷ o) (closes ∷ r)
      ∙ ap (λ (t : Bool). ((t || repeated (names ms)) || twice_members ms) || search every b o r) (crosses_none (names ms))

  search_values : (vs : Values) (b : List (List ℕ)) (o : List (List (List ℕ))) (r : List Mark) → search every b o (marks_values vs ++ r) ≡ twice_values vs || search every b o r
  search_values vnil b o r = refl
  search_values (vcons v vs) b o r =
      ap (search every b o) (append_assoc (marks_value v) (marks_values vs) r)
      ∙ search_value v b o (marks_values vs ++ r)
      ∙ ap (◌||◌ (twice v)) (search_values vs b o r)
      ∙ sym (or_assoc (twice v) (twice_values vs) (search every b o r))

  search_members : (ms : Members) (b : List (List ℕ)) (o : List (List (List ℕ))) (r : List Mark)
      → search every b o (marks_members ms ++ r) ≡ ((crosses b (names ms) || repeated (names ms)) || twice_members ms) || search every (joining (names ms) b) o r
  search_members mnil b o r = refl
  search_members (mcons n v ms) b o r =
      let s = search every (joining (names ms) (n ∷ b)) o r in
      ap (λ (z : List Mark). among n b || search every (n ∷ b) o z) (append_assoc (marks_value v) (marks_members ms) r)
      ∙ ap (◌||◌ (among n b)) (search_value v (n ∷ b) o (marks_members ms ++ r))
      ∙ ap (λ (z : Bool). among n b || (twice v || z)) (search_members ms (n ∷ b) o r)
      ∙ ap (λ (z : Bool). among n b || (twice v || (((z || repeated (names ms)) || twice_members ms) || s))) (crosses_more n b (names ms))
      ∙ or_sort (among n b) (twice v) (crosses b (names ms)) (among n (names ms)) (repeated (names ms)) (twice_members ms) s

-- THE SCAN OF A TEXT

pub marks_none : (n : ℕ) → marks n [] ≡ []
unfolding marks
marks_none zero = refl
marks_none (suc n) = refl

scan_text : (n : ℕ) (t : Derivation) → length (bytes t) ≤ n → scan n (bytes t) ≡ twice (object_v (reading_of t))
unfolding bytes reading_of search
scan_text n t h =
    let v = object_v (reading_of t) in
    let p = (that (append-nil (marks_value v)) (white t.before then object t.top then white t.after)).from n [] tt h in
    ap (search every [] []) (p.2 ∙ ap (◌++◌ (marks_value v)) (marks_none p.0)) ∙ search_value v [] [] [] ∙ or-false (twice v)

-- .. so of a text that was read
pub scan_read : (n d : ℕ) (s : List ℕ) (ms : LMembers) (r : List ℕ) → read d s ≡ got ms r → length s ≤ n → scan n s ≡ twice (object_v (plain_members ms))
scan_read n d s ms r h l =
    let t = sound d s ms r h in
    go t.0 t.1 t.2
  where
    go : (t : Derivation) → bytes t ≡ s → members_of t ≡ ms → scan n s ≡ twice (object_v (plain_members ms))
    go t p q = rw (← p, ← q, plain_of t) (scan_text n t (rw (← p) at l))

-- A SEARCH IN PARTS: for names equal to one that was there, and for names equal among themselves

unfoldable both : List (List (List ℕ)) → List (List (List ℕ)) → List (List (List ℕ))
both [] p = p
both (b ∷ o) [] = b ∷ o
both (b ∷ o) (c ∷ p) = (b ++ c) ∷ both o p

both_none : (o : List (List (List ℕ))) → both o [] ≡ o
unfolding both
both_none [] = refl
both_none (b ∷ o) = refl

around_both : (o p : List (List (List ℕ))) → around (both o p) ≡ around o ++ around p
unfolding both
around_both [] p = refl
around_both (b ∷ o) [] = sym (append-nil b)
around_both (b ∷ o) (c ∷ p) = refl

beyond_both : (o p : List (List (List ℕ))) → beyond (both o p) ≡ both (beyond o) (beyond p)
unfolding both
beyond_both [] p = refl
beyond_both (b ∷ o) [] = sym (both_none o)
beyond_both (b ∷ o) (c ∷ p) = refl

among_both : (n : List ℕ) (b c : List (List ℕ)) → among n (b ++ c) ≡ among n b || among n c
unfolding among
among_both n [] c = refl
among_both n (x ∷ b) c = ap (◌||◌ (same n x)) (among_both n b c) ∙ sym (or_assoc (same n x) (among n b) (among n c))

search_both : (b : List (List ℕ)) (o : List (List (List ℕ))) (c : List (List ℕ)) (p : List (List (List ℕ))) (ms : List Mark)
    → search every (b ++ c) (both o p) ms ≡ search no_more c p ms || search every b o ms
unfolding search both
search_both b o c p [] = refl
search_both b o c p (opens ∷ ms) = search_both [] (b ∷ o) [] (c ∷ p) ms
search_both b o c p (closes ∷ ms) =
    ap₂ (λ (x : List (List ℕ)) (y : List (List (List ℕ))). search every x y ms) (around_both o p) (beyond_both o p) ∙ search_both (around o) (beyond o) (around p) (beyond p) ms
search_both b o c p (name n ∷ ms) =
    ap₂ ◌||◌ (among_both n b c) (search_both (n ∷ b) o c p ms) ∙ or_swap (among n b) (among n c) (search no_more c p ms) (search every (n ∷ b) o ms)

-- .. from the names that are there on
pub search_parts : (b : List (List ℕ)) (o : List (List (List ℕ))) (ms : List Mark) → search every b o ms ≡ search no_more b o ms || search every [] [] ms
unfolding both
search_parts b o ms = search_both [] [] b o ms
