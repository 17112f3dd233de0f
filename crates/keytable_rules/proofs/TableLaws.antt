-- Laws of the key table's bytes: the test decides whether they are in order; where the entries lie; which keys they mean.
use Rattle.std.specs.Prelude.{◌≡◌, refl, Bool, true, false, not, ◌&&◌, List, ℕ, zero, suc, ◌+◌, ◌≤◌, ◌<◌, length, get_or}
use Rattle.std.proofs.Common.{sym, ap, subst, ⊎_elim, le_of_suc-le-suc, not-suc-le-zero, eq-or-lt_of_le, arith, add-one}
use Rattle.std.proofs.Math.Bool.{and-false}
use Rattle.common.specs.First.{Decides, holds}
use Rattle.common.proofs.FirstLaws.{decides_not, decides_le, decides_lt, decides_eq, stable, ◌and◌}
use Rattle.common.proofs.Decided.{when_true, decides_by, test_false}
use Rattle.common.proofs.SameLaws.{decides_same}
use Rattle.keytable_rules.specs.Key.{key, no_key}
use Rattle.keytable_rules.specs.Table.{entry_size, table_least, count_of, entry_place, Area, id_of, Placed, GoodEntry, GoodEntries, NewId, Wellformed, below, is_placed, is_good_entry, is_new_id, is_wellformed, bad_table, key_of, listed, keys}

-- a test of each number below n, number by number
module _ (t : ℕ → Bool) where
  pub below_none : true ≡ below 0 t
  unfolding below
  below_none = refl

  pub below_next : {i : ℕ} → true ≡ below i t → t i ≡ true → true ≡ below (i + 1) t
  unfolding below
  below_next {i} e f = rw (add-one, ← e, f)

  pub below_whole : {i n : ℕ} → true ≡ below i t → i ≤ n → n ≤ i → true ≡ below n t
  below_whole {i} {n} e h k = let f : i ≡ n = omega arith in rw (← f) e

  pub below_fails : {i n : ℕ} → i < n → t i ≡ false → below n t ≡ false
  unfolding below
  below_fails {i} {n = zero} h f = absurd (not-suc-le-zero h)
  below_fails {i} {n = suc n} h f = ⊎_elim (λ e. last (subst (λ (k : ℕ). t k ≡ false) e f)) (λ k. let e : below n t ≡ false = below_fails k f in rw e) (eq-or-lt_of_le (le_of_suc-le-suc h))
    where
      last : t n ≡ false → below n t && t n ≡ false
      last e = rw (e, and-false)

-- .. and what it decides
decides_below : {P : ℕ → Type 0} {t : ℕ → Bool} → ((i : ℕ) → Decides (P i) (t i)) → (n : ℕ) → Decides ((i : ℕ) → i < n → P i) (below n t)
unfolding below
decides_below d zero = holds (λ i h. absurd (not-suc-le-zero h))
decides_below {P} d (suc n) =
    decides_by (decides_below d n and d n)
    (λ h i l. ⊎_elim (λ e. subst P (sym e) h.1) (λ k. h.0 i k) (eq-or-lt_of_le (le_of_suc-le-suc l)))
    (λ h. (λ i l. h i (omega arith), h n (omega arith)))

-- each condition is decided by its test, in the same order
decides_placed : (T : List ℕ) (least most : ℕ) (a : Area) → Decides (Placed T least most a) (is_placed T least most a)
decides_placed T least most a =
    decides_by (decides_le _ _ and decides_le _ _ and decides_le _ _ and decides_le _ _)
    (λ h. record { long = h.0.0.0; short = h.0.0.1; begins = h.0.1; ends = h.1 })
    (λ p. (((p.long, p.short), p.begins), p.ends))

decides_entry : (T : List ℕ) (i : ℕ) → Decides (GoodEntry T i) (is_good_entry T i)
decides_entry T i =
    decides_by (decides_placed _ _ _ _ and decides_placed _ _ _ _ and decides_lt _ _ and decides_eq _ _)
    (λ h. record { id = h.0.0.0; secret = h.0.0.1; algorithms = h.0.1; zeros = h.1 })
    (λ e. (((e.id, e.secret), e.algorithms), e.zeros))

-- the entries that pass the test are good
pub entries_good : (T : List ℕ) (n : ℕ) → below n (is_good_entry T) ≡ true → GoodEntries T n
entries_good T n e = when_true (decides_below (decides_entry T) n) e

decides_new : (T : List ℕ) (j : ℕ) → Decides (NewId T j) (is_new_id T j)
decides_new T j = decides_below (λ i. decides_not (decides_same (id_of T i) (id_of T j))) j

decides_wellformed : (T : List ℕ) → Decides (Wellformed T) (is_wellformed T)
decides_wellformed T =
    decides_by (decides_le _ _ and decides_le _ _ and decides_eq _ _ and decides_le _ _ and decides_eq _ _ and decides_below (decides_entry T) _ and decides_below (decides_new T) _)
    (λ h. record {
      long = h.0.0.0.0.0.0;
      short = h.0.0.0.0.0.1;
      edition = h.0.0.0.0.1;
      count = h.0.0.0.1;
      total = h.0.0.1;
      entries = h.0.1;
      ids = h.1;
    })
    (λ w. ((((((w.long, w.short), w.edition), w.count), w.total), w.entries), w.ids))

-- THE TEST DECIDES: a table is bad exactly when it isn't in order
pub decides_bad : (T : List ℕ) → Decides (Wellformed T → ⊥) (bad_table T)
unfolding bad_table
decides_bad T = decides_not (decides_wellformed T)

pub decides_good : (T : List ℕ) → Decides (Wellformed T) (not (bad_table T))
unfolding bad_table
decides_good T = decides_by (decides_not (decides_bad T)) (stable (decides_wellformed T)) (λ w n. n w)

pub wellformed : (T : List ℕ) → bad_table T ≡ false → Wellformed T
wellformed T e = when_true (decides_good T) (ap not e)

-- THE KEYS

length_listed : {A : Type 0} (n : ℕ) (f : ℕ → A) → length (listed n f) ≡ n
unfolding listed
length_listed zero f = refl
length_listed (suc n) f = ap suc (length_listed n (λ i. f (suc i)))

get_d_listed : {A : Type 0} (n : ℕ) (f : ℕ → A) (i : ℕ) (d : A) → i < n → get_or (listed n f) i d ≡ f i
unfolding listed
get_d_listed zero f i d h = absurd (not-suc-le-zero h)
get_d_listed (suc n) f zero d h = refl
get_d_listed (suc n) f (suc i) d h = get_d_listed n (λ i. f (suc i)) i d (le_of_suc-le-suc h)

pub length_keys : (T : List ℕ) → length (keys T) ≡ count_of T
unfolding keys
length_keys T = length_listed (count_of T) (key_of T)

pub key_is : (T : List ℕ) (i : ℕ) → i < count_of T → key (keys T) i ≡ key_of T i
unfolding keys
key_is T i h = get_d_listed (count_of T) (key_of T) i no_key h

-- a table in order has room for its entries
pub room : (T : List ℕ) → table_least ≤ length T → GoodEntries T (count_of T) → entry_place (count_of T) ≤ length T
room T l g = go (count_of T) refl
  where
    go : (n : ℕ) → count_of T ≡ n → entry_place (count_of T) ≤ length T
    go zero e = omega arith
    go (suc n) e = let p = (g 0 (omega arith)).id in omega (arith, p.begins, p.ends)

-- .. so that entries past the table's end aren't all good
pub crowded : (T : List ℕ) → table_least ≤ length T → length T < entry_place (count_of T) → below (count_of T) (is_good_entry T) ≡ false
crowded T l h = test_false (decides_below (decides_entry T) (count_of T)) (λ g. omega (arith, room T l g))

-- entry i of a table in order: it lies within the table, is good, and means key i
pub record Entry (T : List ℕ) (i : ℕ) : Type 0 where
  pub counted : i < count_of T
  pub within : entry_place i + entry_size ≤ length T
  pub good : GoodEntry T i
  pub means : key (keys T) i ≡ key_of T i

pub entry : (T : List ℕ) → bad_table T ≡ false → (i : ℕ) → i < length (keys T) → Entry T i
entry T e i h =
    let w = wellformed T e in
    let c : i < count_of T = omega (arith, length_keys T) in
    let r = room T w.long w.entries in
    record { counted = c; within = omega arith; good = w.entries i c; means = key_is T i c }
