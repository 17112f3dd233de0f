-- Laws of the reader's steps: what a step that gave something was given.
use Rattle.std.specs.Prelude.{◌≡◌, refl, Bool, true, false, not, List, [], ◌∷◌, ◌++◌, ℕ, zero, suc, ◌≤◌, ◌<◌, eqb, length}
use Rattle.std.proofs.Common.{sym, ap, ◌∙◌, arith, eqb-true}
use Rattle.std.proofs.lemmas.Bool.{not-true}
use Rattle.json_grammar_rules.specs.Bytes.{is_ws}
use Rattle.json_grammar_rules.specs.Value.{LValue, LItem, LMembers}
use Rattle.json_grammar_rules.specs.Grammar.{Many, none, more, Ws, yield_many}
use Rattle.json_grammar_rules.specs.Reader.{Got, bad, got, then, over, past, one_by, one, expect, skip, ws, word, deeper, placed_item, read_value, read_object, ends_by, read}

pub no_bad : {A B : Type 0} {a : A} {r : List ℕ} → bad ≡ got a r → B
no_bad e = absurd (let z : ◌≡◌ {A = ℕ} 0 1 = cc in omega arith)

-- STEPS

pub then_inv : {A B : Type 0} (g : Got A) (k : A → List ℕ → Got B) (b : B) (r : List ℕ) → then g k ≡ got b r
    → (a : A) × (y : List ℕ) × (g ≡ got a y) × (k a y ≡ got b r)
then_inv bad k b r e = no_bad e
then_inv (got a y) k b r e = (a, y, refl, e)

pub over_inv : {A B : Type 0} (f : A → B) (g : Got A) (b : B) (r : List ℕ) → over f g ≡ got b r → (a : A) × (g ≡ got a r) × (f a ≡ b)
over_inv f bad b r e = no_bad e
over_inv f (got a y) b r e = (a, cc, cc)

pub one_inv : {A : Type 0} (p : ℕ → Bool) (s : List ℕ) (k : ℕ → List ℕ → Got A) (a : A) (r : List ℕ) → one p s k ≡ got a r
    → (b : ℕ) × (y : List ℕ) × (s ≡ b ∷ y) × (p b ≡ true) × (k b y ≡ got a r)
one_inv p [] k a r e = no_bad e
one_inv p (b ∷ s) k a r e = go (p b) refl e
  where
    go : (t : Bool) → p b ≡ t → one_by t b s k ≡ got a r → (c : ℕ) × (y : List ℕ) × (b ∷ s ≡ c ∷ y) × (p c ≡ true) × (k c y ≡ got a r)
    go true h f = (b, s, refl, h, f)
    go false h f = no_bad f

pub expect_inv : {A : Type 0} (x : ℕ) (s : List ℕ) (k : List ℕ → Got A) (a : A) (r : List ℕ) → expect x s k ≡ got a r → (y : List ℕ) × (s ≡ x ∷ y) × (k y ≡ got a r)
expect_inv x s k a r e = let i = one_inv (λ b. eqb b x) s (λ _ y. k y) a r e in (i.1, rw (eqb-true i.0 x i.3) at i.2, i.4)

pub expect_over : {A B : Type 0} (x : ℕ) (l : List ℕ) (f : A → B) (k : List ℕ → Got A) → expect x l (λ y. over f (k y)) ≡ over f (expect x l k)
expect_over x [] f k = refl
expect_over {A} {B} x (b ∷ l) f k = go (eqb b x)
  where
    go : (t : Bool) → one_by t b l (λ _ y. over f (k y)) ≡ over f (one_by t b l (λ _ y. k y))
    go true = refl
    go false = refl

pub deeper_inv : {A : Type 0} (d : ℕ) (k : ℕ → Got A) (a : A) (r : List ℕ) → deeper d k ≡ got a r → (e : ℕ) × (d ≡ suc e) × (k e ≡ got a r)
deeper_inv zero k a r h = no_bad h
deeper_inv (suc e) k a r h = (e, refl, h)

pub placed_inv : (f : List ℕ) (g : Got LValue) (v : LItem) (r : List ℕ) → placed_item f g ≡ got v r → (a : LValue) × (y : List ℕ) × (g ≡ got a y) × (ws y ≡ r)
placed_inv f bad v r e = no_bad e
placed_inv f (got a y) v r e = (a, y, refl, cc)

ends_inv : {A : Type 0} (a : A) (s : List ℕ) (b : A) (r : List ℕ) → ends_by a s ≡ got b r → (s ≡ []) × (a ≡ b)
ends_inv a [] b r e = (refl, cc)
ends_inv a (x ∷ s) b r e = no_bad e

-- a text: a brace, the rest of the object, and nothing but white space
pub read_inv : (d : ℕ) (s : List ℕ) (ms : LMembers) (r : List ℕ) → read d s ≡ got ms r
    → (x : List ℕ) × (y : List ℕ) × (ws s ≡ 0x7B ∷ x) × (read_object (length s) d x ≡ got ms y) × (ws y ≡ [])
unfolding read
read_inv d s ms r e =
    let i = expect_inv 0x7B (ws s) (λ x. then (read_object (length s) d x) (λ ns y. ends_by ns (ws y))) ms r e in
    let j = then_inv (read_object (length s) d i.0) (λ ns y. ends_by ns (ws y)) ms r i.2 in
    let f = ends_inv j.0 (ws j.1) ms r j.3 in
    (i.0, j.1, i.1, j.2 ∙ ap (λ (ns : LMembers). got ns j.1) f.1, f.0)

pub word_inv : (xs s r : List ℕ) → word xs s ≡ past r → s ≡ xs ++ r
unfolding word
word_inv [] s r e = cc
word_inv (x ∷ xs) [] r e = no_bad e
word_inv (x ∷ xs) (b ∷ s) r e = go (eqb b x) refl (word_inv xs s r)
  where
    go : (t : Bool) → eqb b x ≡ t → (word xs s ≡ past r → s ≡ xs ++ r) → b ∷ s ≡ x ∷ (xs ++ r)
    go true h f = let z = eqb-true b x h in cc (z, f (rw (h, word) at e))
    go false h f = no_bad (rw (h, word) at e)

-- one level deeper, where the depth left is more than k
pub deeper_is : {A : Type 0} (d k : ℕ) (f : ℕ → Got A) (x : Got A) → k < d → ((e : ℕ) → k ≤ e → f e ≡ x) → deeper d f ≡ x
deeper_is zero k f x h g = absurd (omega arith)
deeper_is (suc e) k f x h g = g e (omega arith)

-- fuel that is more than k, and a reader with such fuel
pub fuel : (P : ℕ → Type 0) (n k : ℕ) → k < n → ((m : ℕ) → k ≤ m → P (suc m)) → P n
fuel P zero k h f = absurd (omega arith)
fuel P (suc m) k h f = f m (omega arith)

pub enough : {A : Type 0} (reader : ℕ → A) (g : A) (n k : ℕ) → k < n → ((m : ℕ) → k ≤ m → reader (suc m) ≡ g) → reader n ≡ g
enough reader g n k h f = fuel (λ m. reader m ≡ g) n k h f

-- BYTES SKIPPED

-- no byte that passes the test p comes next
abbrev pub next_not : (ℕ → Bool) → List ℕ → Bool
next_not p [] = true
next_not p (b ∷ s) = not (p b)

pub skip_none : (p : ℕ → Bool) (s : List ℕ) → next_not p s ≡ true → skip p s ≡ s
unfolding skip
skip_none p [] e = refl
skip_none p (b ∷ s) e = rw (not-true (p b) e, skip)

pub skip_many : (p : ℕ → Bool) (m : Many p) (r : List ℕ) → skip p (yield_many m r) ≡ skip p r
unfolding skip yield_many
skip_many p none r = refl
skip_many p (more b h m) r = rw (h, skip) (skip_many p m r)

-- what is skipped
pub skipped : (p : ℕ → Bool) (s : List ℕ) → (m : Many p) × (s ≡ yield_many m (skip p s))
unfolding skip yield_many
skipped p [] = (none, refl)
skipped p (b ∷ s) = go (p b) refl (skipped p s)
  where
    go : (t : Bool) → p b ≡ t → (m : Many p) × (s ≡ yield_many m (skip p s)) → (m : Many p) × (b ∷ s ≡ yield_many m (skip p (b ∷ s)))
    go true e h = (more b e h.0, rw (e, skip) (ap (λ (l : List ℕ). b ∷ l) h.1))
    go false e h = (none, rw (e, skip))

pub skip_skip : (p : ℕ → Bool) (s : List ℕ) → skip p (skip p s) ≡ skip p s
skip_skip p s = let i = skipped p s in sym (skip_many p i.0 (skip p s)) ∙ ap (skip p) (sym i.1)

pub ws_yield : (w : Ws) (r : List ℕ) → ws (yield_many w r) ≡ ws r
ws_yield w r = skip_many is_ws w r

-- white space before a value does not matter
pub read_value_ws : (n d : ℕ) (s : List ℕ) → read_value n d (ws s) ≡ read_value n d s
unfolding read_value
read_value_ws zero d s = refl
read_value_ws (suc n) d s = rw (skip_skip is_ws s)

pub read_value_yield : (n d : ℕ) (w : Ws) (s : List ℕ) → read_value n d (yield_many w s) ≡ read_value n d s
read_value_yield n d w s = sym (read_value_ws n d (yield_many w s)) ∙ ap (read_value n d) (ws_yield w s) ∙ read_value_ws n d s
