-- Laws of where readers end: a reader that is built of others ends where its parts do.
use Rattle.std.specs.Prelude.{◌≡◌, refl, List, [], ◌∷◌, ℕ, zero, suc, ◌≤◌, ◌<◌, ◌+◌, ◌-◌, length, drop, get_or, Some, None}
use Rattle.std.proofs.Common.{sym, ap, ◌∙◌, arith, sub-one, drop_of_length-le}
use Rattle.json_grammar_rules.specs.Reader.{Got, bad, got, then, over, deeper}
use Rattle.json_grammar_rules.proofs.Fuel.{Steady}
use Rattle.json_string.specs.Ends.{End, Ends, end_of, at_byte, pos_left, ends_end, ends_at, ends_bad, ends_over, ends_from, by, left, shorter, fuel}
use Rattle.json_tokens.specs.Tokens.{MovesTo, EndsBy}

module _ {A : Type 0} {f : ℕ → List ℕ → Got A} {s : List ℕ} {at l : ℕ} where
  -- what a reader gives that ends at a place, and what one gives that ends nowhere
  pub given : {e : ℕ} → EndsBy f s at l (Some e) → (n : ℕ) → length (drop at s) ≤ n → (a : A) × (f n (drop at s) ≡ got a (drop e s))
  given {e} h n k = let g = ends_at s l e (f n (drop at s)) (h.ends n k) in (g.0, g.1)

  pub none : EndsBy f s at l None → (n : ℕ) → length (drop at s) ≤ n → f n (drop at s) ≡ bad
  none h n k = ends_bad s l (f n (drop at s)) (h.ends n k)

  -- where the end lies
  pub bounds : {e : ℕ} → EndsBy f s at l (Some e) → (l ≤ e) × (e ≤ length s)
  bounds {e} h = let g = ends_at s l e (f (length (drop at s)) (drop at s)) (h.ends (length (drop at s)) (omega arith)) in (g.2, g.3)

  -- the end as an equation
  pub is_end : {r : End} → EndsBy f s at l r → r ≡ end_of s (f (length (drop at s)) (drop at s))
  is_end {r} h = ends_end s l r (f (length (drop at s)) (drop at s)) (h.ends (length (drop at s)) (omega arith))

  pub earlier : {m : ℕ} {r : End} → l ≤ m → EndsBy f s at m r → EndsBy f s at l r
  earlier {m} {r} h k = record { ends = λ n j. ends_from s l m r _ h (k.ends n j) }

  pub ended : {r r' : End} → r ≡ r' → EndsBy f s at l r → EndsBy f s at l r'
  ended e h = rw e at h

  -- a reader that gives the same
  pub same : {g : ℕ → List ℕ → Got A} {r : End} → ((n : ℕ) → f n (drop at s) ≡ g n (drop at s)) → EndsBy g s at l r → EndsBy f s at l r
  same {g} {r} e h = record { ends = λ n k. by s l r _ _ (e n) (h.ends n k) }

  -- a reader that is done, one that is wrong, one that has no byte left
  pub done : {e : ℕ} (a : A) → l ≤ e → e ≤ length s → ((n : ℕ) → f n (drop at s) ≡ got a (drop e s)) → EndsBy f s at l (Some e)
  done {e} a h k q = record { ends = λ n _. by s l (Some e) _ (got a (drop e s)) (q n) (h, k, refl) }

  pub wrong : ((n : ℕ) → f n (drop at s) ≡ bad) → EndsBy f s at l None
  wrong q = record { ends = λ n _. by s l None _ bad (q n) tt }

  pub out : length s ≤ at → ((n : ℕ) → f n [] ≡ bad) → EndsBy f s at l None
  out h q = wrong (λ n. ap (f n) (drop_of_length-le s h) ∙ q n)

-- .. and back, for a reader that gives the same with any fuel and takes some bytes
module _ {A : Type 0} {f : ℕ → List ℕ → Got A} {s : List ℕ} {at : ℕ} (k : Steady f) where
  pub ends_of : {r : End} → r ≡ end_of s (f (length (drop at s)) (drop at s)) → EndsBy f s at (at + 1) r
  ends_of {r} e = ended (sym e) (record { ends = λ n j. by s (at + 1) (end_of s (f (length (drop at s)) (drop at s))) _ _ (k.fuel n (length (drop at s)) (drop at s) j (omega arith)) (go (f (length (drop at s)) (drop at s)) refl) })
    where
      go : (g : Got A) → f (length (drop at s)) (drop at s) ≡ g → Ends s (at + 1) (end_of s g) g
      go bad q = tt
      go (got a x) q = let i = k.leaves (length (drop at s)) (drop at s) a x q in pos_left s at i.0 i.1

-- A reader by its first byte: its fuel is at least one more than the other bytes need.
module _ {A : Type 0} {f : ℕ → List ℕ → Got A} {s : List ℕ} {at l : ℕ} (h : at < length s) (low : l ≤ at + 1) where
  by_first : {r : End} → ((n : ℕ) → length (drop (at + 1) s) ≤ n → Ends s l r (f (suc n) (get_or s at 0 ∷ drop (at + 1) s))) → EndsBy f s at l r
  by_first {r} k = record {
    ends = λ n j.
        fuel (λ i. Ends s l r (f i (drop at s))) n (length (drop (at + 1) s)) (omega (arith, left s at h)) λ i o.
        by s l r _ _ (ap (f (suc i)) (at_byte s at h)) (k i o);
  }

  module _ {r : End} {g : ℕ → List ℕ → Got A} where
    -- then a reader of the bytes after it, with this fuel or with one less
    pub first : ((n : ℕ) → f (suc n) (get_or s at 0 ∷ drop (at + 1) s) ≡ g (suc n) (drop (at + 1) s)) → EndsBy g s (at + 1) (at + 1) r → EndsBy f s at l r
    first q k = by_first (λ n j. by s l r _ _ (q n) (ends_from s l (at + 1) r _ low (k.ends (suc n) (omega arith))))

    pub first_below : ((n : ℕ) → f (suc n) (get_or s at 0 ∷ drop (at + 1) s) ≡ g n (drop (at + 1) s)) → EndsBy g s (at + 1) (at + 1) r → EndsBy f s at l r
    first_below q k = by_first (λ n j. by s l r _ _ (q n) (ends_from s l (at + 1) r _ low (k.ends n j)))

    -- a reader that gives the same
    pub first_same : ((n : ℕ) → f (suc n) (get_or s at 0 ∷ drop (at + 1) s) ≡ g (suc n) (get_or s at 0 ∷ drop (at + 1) s)) → EndsBy g s at l r → EndsBy f s at l r
    first_same q k = by_first (λ n j. by s l r _ _ (q n ∙ ap (g (suc n)) (sym (at_byte s at h))) (k.ends (suc n) (omega (arith, ap length (at_byte s at h)))))

  -- it ends the reading, well or not
  pub first_only : (a : A) → ((n : ℕ) → f (suc n) (get_or s at 0 ∷ drop (at + 1) s) ≡ got a (drop (at + 1) s)) → EndsBy f s at l (Some (at + 1))
  first_only a q = by_first (λ n j. by s l (Some (at + 1)) _ _ (q n) (low, omega arith, refl))

  pub first_bad : ((n : ℕ) → f (suc n) (get_or s at 0 ∷ drop (at + 1) s) ≡ bad) → EndsBy f s at l None
  first_bad q = by_first (λ n j. by s l None _ _ (q n) tt)

-- A reader, and one that goes on where it ends: k is given the bytes at the start, and what was read.
module _ {A B : Type 0} {f : ℕ → List ℕ → Got A} {s : List ℕ} {at l : ℕ} (low : at ≤ l) (k : List ℕ → A → ℕ → List ℕ → Got B) where
  pub bind : {e : ℕ} {r : End} → EndsBy f s at l (Some e) → ((a : A) → EndsBy (k (drop at s) a) s e e r) → EndsBy (λ n x. then (f n x) (λ a y. k x a n y)) s at l r
  bind {e} {r} h rest = record {
    ends = λ n j.
        let g = given h n j in
        let b = bounds h in
        by s l r _ _ (ap (λ (x : Got A). then x (λ a y. k (drop at s) a n y)) g.1) (ends_from s l e r _ b.0 ((rest g.0).ends n (shorter s at e n (omega (arith, b.0)) j)));
  }

  pub bind_bad : EndsBy f s at l None → EndsBy (λ n x. then (f n x) (λ a y. k x a n y)) s at l None
  bind_bad h = record { ends = λ n j. by s l None _ bad (ap (λ (x : Got A). then x (λ a y. k (drop at s) a n y)) (none h n j)) tt }

-- A reader whose result is changed.
module _ {A B : Type 0} {f : ℕ → List ℕ → Got A} {s : List ℕ} {at l : ℕ} where
  pub map : {r : End} (g : ℕ → List ℕ → A → B) → EndsBy f s at l r → EndsBy (λ n x. over (g n x) (f n x)) s at l r
  map {r} g h = record { ends = λ n j. ends_over s l r (g n (drop at s)) (f n (drop at s)) (h.ends n j) }

  pub renamed : (r : End) (g : List ℕ → A → List ℕ → B) → at ≤ l → EndsBy f s at l r → EndsBy (λ n x. then (f n x) (λ a y. got (g x a y) y)) s at l r
  renamed (Some e) g low h = bind low (λ x a n y. got (g x a y) y) h (λ a. done (g (drop at s) a (drop e s)) (omega arith) (bounds h).1 (λ n. refl))
  renamed None g low h = bind_bad low (λ x a n y. got (g x a y) y) h

module _ {A : Type 0} {s : List ℕ} {from l : ℕ} {r : End} where
  -- A reader of what stands past bytes that are passed over.
  pub moved : {p : List ℕ → List ℕ} {at : ℕ} (f : ℕ → List ℕ → Got A) → MovesTo p s from at → EndsBy f s at l r → EndsBy (λ n x. f n (p x)) s from l r
  moved {p} {at} f w h = record { ends = λ n j. by s l r _ _ (ap (f n) w.is) (h.ends n (shorter s from at n w.low j)) }

  -- A reader that goes one level deeper.
  pub deepened : (f : ℕ → ℕ → List ℕ → Got A) (d : ℕ) → (d ≡ 0 → ⊥) → EndsBy (f (d - 1)) s from l r → EndsBy (λ n x. deeper d (λ e. f e n x)) s from l r
  deepened f zero z h = absurd (z refl)
  deepened f (suc d) z h = rw sub-one at h
