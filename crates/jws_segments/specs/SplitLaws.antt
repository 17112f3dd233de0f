-- What the places of the two periods say of a token's segments.
use Rattle.std.specs.Prelude.{◌≡◌, refl, Bool, true, false, cond, not, ◌||◌, List, [], ◌∷◌, ◌++◌, ℕ, zero, suc, ◌+◌, ◌-◌, ◌*◌, ◌/◌, ◌≤◌, ◌<◌, eqb, ltb, length, take, drop, fold, position, Option, Some, None, unwrap_or, option_map, is_some}
use Rattle.std.specs.List.{position_or_len}
use Rattle.std.specs.Simd.{first_chunks}
use Rattle.std.proofs.Common.{sym, ap, ◌∙◌, append_assoc, append-nil, arith, length-append, length-drop, take-append-drop, take_at, drop_at, drop-drop, take-add, length-take-le, eqb-true, eq-eqb, ne_eqb, lt-ltb, le-ltb, ltb-true, ltb-false}
use Rattle.std.proofs.Math.Bool.{or-false}
use Rattle.std.proofs.lemmas.List.Recursion.{is_position_or_len}
use Rattle.common.specs.Laid.{part_from}
use Rattle.jws_rules.specs.Segments.{period, periods, front, back, ◌dot◌}
use Rattle.jws_rules.proofs.SegmentLaws.{length_dot, periods_dot, front_past, split}
use Rattle.jws_rules.specs.Token.{sent_input}
use Rattle.jws_segments.specs.Split.{with_period, first_period, at, split_of}

-- A LIST WITH A PERIOD: its front, and its back as what follows the period

pub record Divided (t : List ℕ) : Type 0 where
  pub front_is : front t ≡ take (length (front t)) t
  pub back_is : back t ≡ drop (length (front t) + 1) t
  pub sum : length t ≡ length (front t) + length (back t) + 1
  pub count : periods t ≡ periods (back t) + 1

pub divided : (t : List ℕ) → 0 < periods t → Divided t
divided t h =
    let s = split t h in
    let whole = s.0 ∙ sym (append_assoc (front t) (period ∷ []) (back t)) in
    record {
      front_is = sym (ap (take (length (front t))) s.0 ∙ take_at (front t) (period ∷ back t) (length (front t)) refl);
      back_is =
          sym
          (ap (drop (length (front t) + 1)) whole
          ∙ drop_at (front t ++ (period ∷ [])) (back t) (length (front t) + 1) (length-append (front t) (period ∷ [])));
      sum = ap length s.0 ∙ length_dot (front t) (back t);
      count = ap periods s.0 ∙ omega (arith, periods_dot (front t) (back t), s.1);
    }

-- a list without a period is its own front
front_all : (t : List ℕ) → periods t ≡ 0 → front t ≡ t
unfolding front
front_all t e = ap front (sym (append-nil t)) ∙ front_past t [] e ∙ append-nil t

-- a block of n bytes without a period is passed over
pub block_past : (t : List ℕ) (i n : ℕ) → i + n ≤ length t → periods (take n (drop i t)) ≡ 0 → length (front (drop i t)) ≡ n + length (front (drop (i + n) t))
block_past t i n h e =
    let r = drop i t in
    ap (λ (l : List ℕ). length (front l)) (sym (take-append-drop n r))
    ∙ ap length (front_past (take n r) (drop n r) e)
    ∙ length-append (take n r) (front (drop n r))
    ∙ rw (length-take-le n r (omega (arith, length-drop i t)), drop-drop n i t) refl

-- what a search for the first period says, by the place n where it ends
module _ (t : List ℕ) {n : ℕ} (e : n ≡ length (front t)) where
  pub none_found : length t ≤ n → periods t ≡ 0
  none_found h = go (periods t) refl
    where
      go : (k : ℕ) → periods t ≡ k → k ≡ 0
      go zero p = refl
      go (suc k) p = let d = divided t (omega arith) in absurd (omega arith)

  pub one_found : n < length t → Divided t
  one_found h = go (periods t) refl
    where
      go : (k : ℕ) → periods t ≡ k → Divided t
      go zero p = absurd (omega (arith, ap length (front_all t p)))
      go (suc k) p = divided t (omega arith)

-- WHERE THE FIRST PERIOD STANDS

with_is : (s : List ℕ) → with_period s ≡ ltb 0 (periods s)
unfolding periods
with_is s = go false s
  where
    one : (found q : Bool) (n : ℕ) → (found || q) || ltb 0 n ≡ found || ltb 0 (cond q (suc n) n)
    one true true n = refl
    one true false n = refl
    one false true n = sym (lt-ltb 0 (suc n) (omega arith))
    one false false n = refl

    go : (found : Bool) (s : List ℕ) → fold (λ (found : Bool) (b : ℕ). found || eqb b period) found s ≡ found || ltb 0 (periods s)
    go found [] = sym (or-false found)
    go found (c ∷ s) = go (found || eqb c period) s ∙ one found (eqb c period) (periods s)

-- byte by byte
abbrev pub is_period : ℕ → Bool
is_period b = eqb b period

front_length : (s : List ℕ) → length (front s) ≡ position_or_len is_period s
unfolding front
front_length s = is_position_or_len (λ (s : List ℕ). length (front s)) is_period refl step s
  where
    step : (c : ℕ) (s : List ℕ) → length (front (c ∷ s)) ≡ cond (is_period c) 0 (1 + length (front s))
    step c s = go (is_period c)
      where
        go : (t : Bool) → length (cond t [] (c ∷ front s)) ≡ cond t 0 (1 + length (front s))
        go true = refl
        go false = omega arith

placed : (s : List ℕ) → ltb (length (front s)) (length s) ≡ ltb 0 (periods s)
placed s = go (periods s) refl
  where
    go : (k : ℕ) → periods s ≡ k → ltb (length (front s)) (length s) ≡ ltb 0 k
    go zero p = le-ltb (length (front s)) (length s) (omega (arith, ap length (front_all s p)))
    go (suc k) p = let d = divided s (omega arith) in lt-ltb (length (front s)) (length s) (omega (arith, d.sum)) ∙ sym (lt-ltb 0 (suc k) (omega arith))

pub by_bytes : (s : List ℕ) → position is_period s ≡ first_period s
unfolding first_period
by_bytes s = rw (← front_length s, placed s)

-- the first n bytes of s are within it, and no period is among them
pub record Passed (s : List ℕ) (n : ℕ) : Type 0 where
  pub within : n ≤ length s
  pub none : periods (take n s) ≡ 0

periods_append : (a b : List ℕ) → periods (a ++ b) ≡ periods a + periods b
unfolding periods
periods_append [] b = omega arith
periods_append (x ∷ a) b = go (eqb x period) (periods_append a b)
  where
    go : (q : Bool) → periods (a ++ b) ≡ periods a + periods b → cond q (suc (periods (a ++ b))) (periods (a ++ b)) ≡ cond q (suc (periods a)) (periods a) + periods b
    go true ih = omega arith
    go false ih = ih

-- blocks without a period
blocks_passed : (n : ℕ) (s : List ℕ) → n * 32 ≤ length s → let k = position_or_len with_period (first_chunks 32 n s) in (k ≤ n) × (periods (take (k * 32) s) ≡ 0)
unfolding periods
blocks_passed zero s h = (omega arith, refl)
blocks_passed (suc n) s h = go (with_period (take 32 s)) refl (blocks_passed n (drop 32 s) (omega (arith, length-drop 32 s)))
  where
    later : ℕ
    later = position_or_len with_period (first_chunks 32 n (drop 32 s))

    go : (t : Bool) → with_period (take 32 s) ≡ t → (later ≤ n) × (periods (take (later * 32) (drop 32 s)) ≡ 0)
        → let k = cond (not t) (1 + later) 0 in (k ≤ suc n) × (periods (take (k * 32) s) ≡ 0)
    go true e ih = (omega arith, refl)
    go false e ih =
        let end : (1 + later) * 32 ≡ 32 + later * 32 = omega arith in
        let none : periods (take 32 s) ≡ 0 = omega (arith, ltb-false 0 (periods (take 32 s)) (sym (with_is (take 32 s)) ∙ e)) in
        (omega arith, rw (end, take-add 32 (later * 32) s, periods_append (take 32 s) (take (later * 32) (drop 32 s)), none, ih.1))

pub past_blocks : (s : List ℕ) {blocks : List (List ℕ)} {r : Option ℕ} {k : ℕ} → blocks ≡ first_chunks 32 (length s / 32) s → length blocks ≡ length s / 32
    → r ≡ position with_period blocks → k ≡ unwrap_or r (length blocks) → Passed s (k * 32)
past_blocks s {blocks} {k = k} e l g f =
    let b = blocks_passed (length s / 32) s (omega arith) in
    let p : position_or_len with_period blocks ≡ position_or_len with_period (first_chunks 32 (length s / 32) s) = ap (position_or_len with_period) e in
    let place : k ≡ position_or_len with_period (first_chunks 32 (length s / 32) s) =
    f ∙ ap (λ (o : Option ℕ). unwrap_or o (length blocks)) g ∙ go (ltb (position_or_len with_period blocks) (length blocks)) refl (omega (arith, p)) ∙ p in
    record { within = omega arith; none = rw place b.1 }
  where
    go : (t : Bool) → ltb (position_or_len with_period blocks) (length blocks) ≡ t → position_or_len with_period blocks ≤ length blocks
        → unwrap_or (cond t (Some (position_or_len with_period blocks)) None) (length blocks) ≡ position_or_len with_period blocks
    go true e h = refl
    go false e h = let m = ltb-false _ _ e in omega arith

-- the search goes on behind them
pub further : (s : List ℕ) (n : ℕ) → Passed s n → option_map (λ (m : ℕ). n + m) (first_period (take (length s - n) (drop n s))) ≡ first_period s
unfolding first_period
further s n p =
    let whole = take-append-drop n s in
    let count : periods s ≡ periods (drop n s) = ap periods (sym whole) ∙ periods_append (take n s) (drop n s) ∙ omega (arith, p.none) in
    let place : length (front s) ≡ n + length (front (drop n s)) =
    ap (λ (l : List ℕ). length (front l)) (sym whole) ∙ ap length (front_past (take n s) (drop n s) p.none) ∙ omega (arith, length-append (take n s) (front (drop n s)), length-take-le n s p.within) in
    rw (part_from n s, count, place) (go (ltb 0 (periods (drop n s))))
  where
    go : (t : Bool) → option_map (λ (m : ℕ). n + m) (cond t (Some (length (front (drop n s)))) None) ≡ cond t (Some (n + length (front (drop n s)))) None
    go true = refl
    go false = refl

-- what a search says
pub record Found (t : List ℕ) (n : ℕ) : Type 0 where
  pub place : n ≡ length (front t)
  pub parts : Divided t

pub found : (t : List ℕ) {n : ℕ} → Some n ≡ first_period t → Found t n
unfolding first_period
found t {n} e = go (ltb 0 (periods t)) refl e
  where
    go : (q : Bool) → ltb 0 (periods t) ≡ q → Some n ≡ cond q (Some (length (front t))) None → Found t n
    go true k e = record { place = cc; parts = divided t (ltb-true 0 (periods t) k) }
    go false k e = cc

pub no_period : (t : List ℕ) → None ≡ first_period t → periods t ≡ 0
unfolding first_period
no_period t e = go (ltb 0 (periods t)) refl e
  where
    go : (q : Bool) → ltb 0 (periods t) ≡ q → None ≡ cond q (Some (length (front t))) None → periods t ≡ 0
    go true k e = cc
    go false k e = omega (arith, ltb-false 0 (periods t) k)

pub some_found : (t : List ℕ) {r : Option ℕ} → r ≡ first_period t → is_some r ≡ true → 0 < periods t
unfolding first_period
some_found t e h = go (ltb 0 (periods t)) refl (sym (ap is_some e) ∙ h)
  where
    go : (q : Bool) → ltb 0 (periods t) ≡ q → is_some (cond q (Some (length (front t))) None) ≡ true → 0 < periods t
    go true k h = ltb-true 0 (periods t) k
    go false k h = cc

pub not_found : (t : List ℕ) {r : Option ℕ} → r ≡ first_period t → is_some r ≡ false → periods t ≡ 0
unfolding first_period
not_found t e h = go (ltb 0 (periods t)) refl (sym (ap is_some e) ∙ h)
  where
    go : (q : Bool) → ltb 0 (periods t) ≡ q → is_some (cond q (Some (length (front t))) None) ≡ false → periods t ≡ 0
    go true k h = cc
    go false k h = omega (arith, ltb-false 0 (periods t) k)

-- the rest of the list, as the code has it
pub rest_is : (t : List ℕ) {n : ℕ} → Found t n → take (length t - (n + 1)) (drop (n + 1) t) ≡ back t
rest_is t {n} f = part_from (n + 1) t ∙ rw f.place (sym f.parts.back_is)

-- THE TWO PERIODS

pub is_two : (t : List ℕ) → periods t ≡ 2 → at (length (front t)) (length (front t) + 1 + length (front (back t))) ≡ split_of t
unfolding split_of
is_two t e = rw (eq-eqb (periods t) 2 e)

pub not_two : (t : List ℕ) → (periods t ≡ 2 → ⊥) → None ≡ split_of t
unfolding split_of
not_two t h = rw (ne_eqb (periods t) 2 h)

-- FOR CALLERS

-- the periods of t stand at a and b
pub record Places (t : List ℕ) (a b : ℕ) : Type 0 where
  pub two : periods t ≡ 2
  pub header : front t ≡ take a t
  pub payload : front (back t) ≡ take (b - (a + 1)) (drop (a + 1) t)
  pub signature : back (back t) ≡ drop (b + 1) t
  pub before : sent_input t ≡ take b t
  pub apart : a < b
  pub within : b < length t

places : (t : List ℕ) (a b n : ℕ) → periods t ≡ 2 → a ≡ length (front t) → n ≡ length (front (back t)) → b ≡ a + 1 + n → Places t a b
places t a b n two f g e =
    let d = divided t (omega arith) in
    let r = divided (back t) (omega arith) in
    let s = split t (omega arith) in
    let u = split (back t) (omega arith) in
    let m : b - (a + 1) ≡ n = omega arith in
    let k : b + 1 ≡ a + 1 + (n + 1) = omega arith in
    let back_at : back t ≡ drop (a + 1) t = rw f d.back_is in
    let whole : t ≡ sent_input t ++ (period ∷ back (back t)) =
    s.0 ∙ ap (λ (l : List ℕ). front t dot l) u.0 ∙ sym (append_assoc (front t) (period ∷ front (back t)) (period ∷ back (back t))) in
    record {
      two = two;
      header = rw f d.front_is;
      payload = rw (m, ← back_at, g) r.front_is;
      signature = rw (k, ← drop-drop (n + 1) (a + 1) t, ← back_at, g) r.back_is;
      before = sym (ap (take b) whole ∙ take_at (sent_input t) (period ∷ back (back t)) b (omega (arith, length_dot (front t) (front (back t)))));
      apart = omega arith;
      within = omega arith;
    }

pub split_at : (t : List ℕ) {a b : ℕ} → at a b ≡ split_of t → Places t a b
unfolding split_of
split_at t {a} {b} e = go (eqb (periods t) 2) refl e
  where
    go : (q : Bool) → eqb (periods t) 2 ≡ q → at a b ≡ cond q (at (length (front t)) (length (front t) + 1 + length (front (back t)))) None → Places t a b
    go true k e =
        let f : a ≡ length (front t) = ap (λ (o : Option (ℕ × ℕ)). (unwrap_or o (0, 0)).0) e in
        let g : b ≡ length (front t) + 1 + length (front (back t)) = ap (λ (o : Option (ℕ × ℕ)). (unwrap_or o (0, 0)).1) e in
        places t a b (length (front (back t))) (eqb-true (periods t) 2 k) f refl (rw f g)
    go false k e = cc

pub split_not : (t : List ℕ) → None ≡ split_of t → periods t ≡ 2 → ⊥
split_not t e two = let f = is_two t two in cc
