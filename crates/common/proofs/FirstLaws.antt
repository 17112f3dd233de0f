-- The first of numbered conditions: the tests that decide them give its number.
use Rattle.std.specs.Prelude.{◌≡◌, refl, ◌↔◌, ◌⊎◌, Bool, true, false, cond, not, ◌&&◌, ◌||◌, List, [], ◌∷◌, ◌++◌, map, ℕ, zero, suc, ◌≤◌, ◌<◌, ltb, leb, eqb}
use Rattle.std.proofs.Common.{sym, ap, ◌∙◌, inl, inr, ⊎_elim, arith, ltb-true, ltb-false, leb-true, leb-false, eqb-true, eq-eqb}
use Rattle.std.proofs.lemmas.Bool.{false≢true, eqb-false, not-true}
use Rattle.common.specs.Truth.{both}
use Rattle.common.specs.First.{Rule, ◌on◌, Test, ◌when◌, condition, earlier, NoneOf, first, settle, numbers, among, distinct, Decides, holds, fails, Agree, done, ◌by◌, numbered, Pass, test, follows, Alike, none, more}

or_left : (a b : Bool) → a ≡ true → a || b ≡ true
or_left true b e = refl
or_left false b e = absurd (false≢true e)

or_right : (a b : Bool) → b ≡ true → a || b ≡ true
or_right true b e = refl
or_right false b e = e

or_past : (a b c : Bool) → a || c ≡ true → a || (b || c) ≡ true
or_past true b c e = refl
or_past false b c e = or_right b c e

-- a number that no rule has, and that isn't 0, isn't the answer
other : {rs : List Rule} {ts : List Test} → Agree rs ts → (n : ℕ) → eqb n 0 ≡ false → among n (numbers rs) ≡ false → first ts ≡ n → ⊥
other done n z e f = eqb-false n 0 z (sym f)
other (◌by◌ {n = m} {P = P} {b = b} {rs = rs} {ts = ts} d a) n z e f = go (eqb m n) refl b d (λ h. other (a h) n z) e f
  where
    go : (q : Bool) → eqb m n ≡ q → (b : Bool) → Decides P b → ((P → ⊥) → among n (numbers rs) ≡ false → first ts ≡ n → ⊥) → q || among n (numbers rs) ≡ false → first ((m when b) ∷ ts) ≡ n → ⊥
    go true k b d ih e f = absurd (false≢true (sym e))
    go false k true d ih e f = eqb-false m n k f
    go false k false (fails d) ih e f = ih d e f

-- THE FIRST REFUSAL STANDS: the answer is n exactly when the condition of n holds and no earlier one does
pub first_stands : {rs : List Rule} {ts : List Test} → Agree rs ts → distinct (numbers rs) ≡ true
    → (n : ℕ) → among n (numbers rs) ≡ true → (first ts ≡ n) ↔ (condition rs n × NoneOf (earlier rs n))
first_stands done u n e = absurd (false≢true e)
first_stands (◌by◌ {n = m} {P = P} {b = b} {rs = rs} {ts = ts} d a) u n e =
    let v = both (not (eqb m 0) && not (among m (numbers rs))) (distinct (numbers rs)) u in
    let w = both (not (eqb m 0)) _ v.0 in
    go (eqb m n) refl b d (not-true _ w.0) (not-true _ w.1) (λ h. first_stands (a h) v.1 n) e
  where
    go : (q : Bool) → eqb m n ≡ q → (b : Bool) → Decides P b → eqb m 0 ≡ false → among m (numbers rs) ≡ false
        → ((P → ⊥) → among n (numbers rs) ≡ true → (first ts ≡ n) ↔ (condition rs n × NoneOf (earlier rs n)))
        → q || among n (numbers rs) ≡ true
        → (first ((m when b) ∷ ts) ≡ n) ↔ (cond q P (condition rs n) × NoneOf (cond q [] ((m on P) ∷ earlier rs n)))
    go true k true (holds d) z w ih e = (λ f. (d, tt), λ h. eqb-true m n k)
    go true k false (fails d) z w ih e = (λ f. absurd (other (a d) m z w (f ∙ sym (eqb-true m n k))), λ h. absurd (d h.0))
    go false k true (holds d) z w ih e = (λ f. absurd (eqb-false m n k f), λ h. absurd (h.1.0 d))
    go false k false (fails d) z w ih e =
        let i = ih d e in
        (λ f. ((i.0 f).0, (d, (i.0 f).1)), λ h. i.1 (h.0, h.1.1))

-- .. and 0 exactly when none holds
pub none_stands : {rs : List Rule} {ts : List Test} → Agree rs ts → distinct (numbers rs) ≡ true → (first ts ≡ 0) ↔ NoneOf rs
none_stands done u = (λ f. tt, λ h. refl)
none_stands (◌by◌ {n = m} {P = P} {b = b} {rs = rs} {ts = ts} d a) u =
    let v = both (not (eqb m 0) && not (among m (numbers rs))) (distinct (numbers rs)) u in
    go b d (not-true _ (both (not (eqb m 0)) _ v.0).0) (λ h. none_stands (a h) v.1)
  where
    go : (b : Bool) → Decides P b → eqb m 0 ≡ false → ((P → ⊥) → (first ts ≡ 0) ↔ NoneOf rs) → (first ((m when b) ∷ ts) ≡ 0) ↔ ((P → ⊥) × NoneOf rs)
    go true (holds d) z i = (λ f. absurd (eqb-false m 0 z f), λ h. absurd (h.0 d))
    go false (fails d) z i = (λ f. (d, (i d).0 f), λ h. (i d).1 h.1)

-- two lists one after the other
pub agree_append : {qs rs : List Rule} {us ts : List Test} → Agree qs us → (NoneOf qs → Agree rs ts) → Agree (qs ++ rs) (us ++ ts)
agree_append done k = k tt
agree_append (d by a) k = d by λ h. agree_append (a h) (λ n. k (h, n))

-- every answer is 0 or a number of the list
pub in_range_lem : {rs : List Rule} {ts : List Test} → Agree rs ts → among (first ts) (0 ∷ numbers rs) ≡ true
in_range_lem done = refl
in_range_lem (◌by◌ {n = m} {P = P} {b = b} {rs = rs} {ts = ts} d a) = go b d (λ h. in_range_lem (a h))
  where
    go : (b : Bool) → Decides P b → ((P → ⊥) → among (first ts) (0 ∷ numbers rs) ≡ true) → among (first ((m when b) ∷ ts)) (0 ∷ m ∷ numbers rs) ≡ true
    go true d i = or_right (eqb 0 m) _ (or_left (eqb m m) _ (eq-eqb m m refl))
    go false (fails d) i = or_past (eqb 0 (first ts)) (eqb m (first ts)) _ (i d)

-- decisions
pub decides_bool : (b : Bool) → Decides (b ≡ true) b
decides_bool true = holds refl
decides_bool false = fails false≢true

pub decides_lt : (a b : ℕ) → Decides (a < b) (ltb a b)
decides_lt a b = go (ltb a b) refl
  where
    go : (q : Bool) → ltb a b ≡ q → Decides (a < b) q
    go true e = holds (ltb-true a b e)
    go false e = fails (λ h. let k = ltb-false a b e in omega arith)

pub decides_le : (a b : ℕ) → Decides (a ≤ b) (leb a b)
decides_le a b = go (leb a b) refl
  where
    go : (q : Bool) → leb a b ≡ q → Decides (a ≤ b) q
    go true e = holds (leb-true a b e)
    go false e = fails (λ h. let k = leb-false a b e in omega arith)

pub decides_eq : (a b : ℕ) → Decides (a ≡ b) (eqb a b)
decides_eq a b = go (eqb a b) refl
  where
    go : (q : Bool) → eqb a b ≡ q → Decides (a ≡ b) q
    go true e = holds (eqb-true a b e)
    go false e = fails (eqb-false a b e)

pub decides_not : {P : Type 0} {b : Bool} → Decides P b → Decides (P → ⊥) (not b)
decides_not (holds d) = fails (λ h. h d)
decides_not (fails d) = holds d

pub decides_or : {P Q : Type 0} {a b : Bool} → Decides P a → Decides Q b → Decides (P ⊎ Q) (a || b)
decides_or (holds d) e = holds (inl d)
decides_or (fails d) (holds e) = holds (inr e)
decides_or (fails d) (fails e) = fails (⊎_elim d e)

infixl 35 ◌and◌
pub ◌and◌ : {P Q : Type 0} {a b : Bool} → Decides P a → Decides Q b → Decides (P × Q) (a && b)
holds d and holds e = holds (d, e)
holds d and fails e = fails (λ h. e h.1)
fails d and e = fails (λ h. d h.0)

-- the same condition in other words
pub decides_iff : {P Q : Type 0} {b : Bool} → (P → Q) → (Q → P) → Decides P b → Decides Q b
decides_iff f g (holds d) = holds (f d)
decides_iff f g (fails d) = fails (λ q. d (g q))

-- what isn't false is true, of what a test decides
pub stable : {P : Type 0} {b : Bool} → Decides P b → ((P → ⊥) → ⊥) → P
stable (holds d) h = d
stable (fails d) h = absurd (h d)

-- where none holds, the condition under n doesn't
pub not_on : (rs : List Rule) → NoneOf rs → (n : ℕ) → condition rs n → ⊥
not_on [] h n c = c
not_on ((m on P) ∷ rs) h n c = go (eqb m n) h.0 (not_on rs h.1 n) c
  where
    go : (q : Bool) → (P → ⊥) → (condition rs n → ⊥) → cond q P (condition rs n) → ⊥
    go true now later c = now c
    go false now later c = later c

-- none of one, and none of the others
infixr 30 ◌also◌
pub ◌also◌ : {P Q : Type 0} → P → Q → P × Q
p also q = (p, q)

pub none_append : (qs rs : List Rule) → NoneOf qs → NoneOf rs → NoneOf (qs ++ rs)
none_append [] rs a b = b
none_append ((n on P) ∷ qs) rs a b = (a.0, none_append qs rs a.1 b)

pub none_left : (qs rs : List Rule) → NoneOf (qs ++ rs) → NoneOf qs
none_left [] rs a = tt
none_left ((n on P) ∷ qs) rs a = (a.0, none_left qs rs a.1)

pub none_right : (qs rs : List Rule) → NoneOf (qs ++ rs) → NoneOf rs
none_right [] rs a = a
none_right ((n on P) ∷ qs) rs a = none_right qs rs a.1

-- For the code's proofs: where one of the first tests refuses, the later ones aren't asked; ..
pub first_within : (us ts : List Test) → (first us ≡ 0 → ⊥) → first (us ++ ts) ≡ first us
first_within [] ts h = absurd (h refl)
first_within ((n when true) ∷ us) ts h = refl
first_within ((n when false) ∷ us) ts h = first_within us ts h

pub all_pass : (ts : List Test) → numbered ts ≡ true → first ts ≡ 0 → Pass ts
all_pass [] u e = tt
all_pass ((n when true) ∷ ts) u e = absurd (false≢true (sym (ap (λ (b : Bool). not b && numbered ts) (eq-eqb n 0 e)) ∙ u))
all_pass ((n when false) ∷ ts) u e = (refl, all_pass ts (both (not (eqb n 0)) (numbered ts) u).1 e)

first_next : (n : ℕ) {b : Bool} (ts : List Test) → b ≡ false → first ((n when b) ∷ ts) ≡ first ts
first_next n ts e = rw e

pub first_passed : (us ts : List Test) → Pass us → first (us ++ ts) ≡ first ts
first_passed [] ts p = refl
first_passed ((n when b) ∷ us) ts p = first_next n (us ++ ts) p.0 ∙ first_passed us ts p.1

pub pass_left : (us ts : List Test) → Pass (us ++ ts) → Pass us
pass_left [] ts p = tt
pass_left ((n when b) ∷ us) ts p = (p.0, pass_left us ts p.1)

-- .. where none of them does, only the later ones are
pub first_after : (us ts : List Test) → numbered us ≡ true → first us ≡ 0 → first (us ++ ts) ≡ first ts
first_after us ts u e = first_passed us ts (all_pass us u e)

-- A TEST BY ITS NUMBER: where all pass, the test under n is false
pub passed : (ts : List Test) → Pass ts → (n : ℕ) → test ts n ≡ false
passed [] p n = refl
passed ((m when b) ∷ ts) p n = go (eqb m n) p.0 (passed ts p.1 n)
  where
    go : (q : Bool) → b ≡ false → test ts n ≡ false → cond q b (test ts n) ≡ false
    go true e f = e
    go false e f = f

-- THE NEXT RULE: what passes the rules before m, and m, passes those before the one after m
pub earlier_next : (rs : List Rule) (m n : ℕ) → follows (numbers rs) m n ≡ true → NoneOf (earlier rs m) → (condition rs m → ⊥) → NoneOf (earlier rs n)
earlier_next [] m n f h c = tt
earlier_next ((a on P) ∷ []) m n f h c = absurd (false≢true f)
earlier_next ((a on P) ∷ (b on Q) ∷ rs) m n f h c = go (eqb a n) (eqb a m) f h c (earlier_next ((b on Q) ∷ rs) m n)
  where
    last : (p : Bool) → p ≡ true → NoneOf (cond p [] ((b on Q) ∷ earlier rs n))
    last true e = tt
    last false e = absurd (false≢true e)

    go : (x y : Bool) → cond y (eqb b n) (follows (b ∷ numbers rs) m n) ≡ true → NoneOf (cond y [] ((a on P) ∷ earlier ((b on Q) ∷ rs) m))
        → (cond y P (condition ((b on Q) ∷ rs) m) → ⊥)
        → (follows (b ∷ numbers rs) m n ≡ true → NoneOf (earlier ((b on Q) ∷ rs) m) → (condition ((b on Q) ∷ rs) m → ⊥) → NoneOf (earlier ((b on Q) ∷ rs) n))
        → NoneOf (cond x [] ((a on P) ∷ earlier ((b on Q) ∷ rs) n))
    go true y f h c ih = tt
    go false true f h c ih = (c, last (eqb b n) f)
    go false false f h c ih = (h.0, ih f h.1 c)

-- RULES IN OTHER WORDS

pub agree_alike : {ps qs : List Rule} {ts : List Test} → Alike ps qs → Agree ps ts → Agree qs ts
agree_alike none done = done
agree_alike (more f g l) (d by a) = decides_iff f g d by λ n. agree_alike l (a (λ p. n (f p)))

pub none_alike : {ps qs : List Rule} → Alike ps qs → NoneOf ps → NoneOf qs
none_alike none h = tt
none_alike (more f g l) h = ((λ q. h.0 (g q)), none_alike l h.1)

pub alike_back : {ps qs : List Rule} → Alike ps qs → Alike qs ps
alike_back none = none
alike_back (more f g l) = more g f (alike_back l)

-- a list of rules, whatever its numbers, said anew number by number
pub alike_on : (rs : List Rule) → distinct (numbers rs) ≡ true → (Q : ℕ → Type 0)
    → ((n : ℕ) → among n (numbers rs) ≡ true → (condition rs n → Q n) × (Q n → condition rs n)) → Alike rs (map (λ n. n on Q n) (numbers rs))
alike_on [] u Q h = none
alike_on ((m on P) ∷ rs) u Q h =
    let v = both (not (eqb m 0) && not (among m (numbers rs))) (distinct (numbers rs)) u in
    let w = not-true (among m (numbers rs)) (both (not (eqb m 0)) _ v.0).1 in
    let e = eq-eqb m m refl in
    let now = h m (or_left (eqb m m) _ e) in
    more (λ p. now.0 (rw e p)) (λ q. rw e at (now.1 q))
    (alike_on rs v.1 Q (λ n k. go n k (eqb m n) refl (h n (or_right (eqb m n) _ k)) w))
  where
    go : (n : ℕ) → among n (numbers rs) ≡ true → (q : Bool) → eqb m n ≡ q → (cond q P (condition rs n) → Q n) × (Q n → cond q P (condition rs n)) → among m (numbers rs) ≡ false
        → (condition rs n → Q n) × (Q n → condition rs n)
    go n k true e f w = absurd (false≢true (sym w ∙ ap (λ (x : ℕ). among x (numbers rs)) (eqb-true m n e) ∙ k))
    go n k false e f w = f

-- WHAT IS GIVEN, by the number

pub settle_good : {A : Type 0} (n : ℕ) (v : A) (f : ℕ → A) → n ≡ 0 → settle n v f ≡ v
settle_good zero v f e = refl
settle_good (suc n) v f e = absurd (omega arith)

pub settle_bad : {A : Type 0} (n : ℕ) (v : A) (f : ℕ → A) → (n ≡ 0 → ⊥) → settle n v f ≡ f n
settle_bad zero v f h = absurd (h refl)
settle_bad (suc n) v f h = refl

-- the answer in what is given is the number
pub settle_answer : {A : Type 0} (answer : A → ℕ) (n : ℕ) (v : A) (f : ℕ → A) → answer v ≡ 0 → ((m : ℕ) → answer (f m) ≡ m) → answer (settle n v f) ≡ n
settle_answer answer zero v f e g = e
settle_answer answer (suc n) v f e g = g (suc n)
