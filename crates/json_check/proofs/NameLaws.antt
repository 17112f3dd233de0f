-- Names that stand twice: a law for each way through each function.
use mathlib.Core.Path.{◌≡◌, refl, sym, ap, ◌∙◌, subst}
use mathlib.Core.Bool.{Bool, true, false, ◌||◌}
use mathlib.Core.List.{List, [], ◌∷◌}
use Prim.Native.Nat.{ℕ, suc, ◌+◌, ◌-◌, ◌≤◌, ◌<◌}
use native.Mathlib.Omega.{arith}
use native.Mathlib.Numerals.{add-one, sub-one}
use lib.ListN.{length, drop, set}
use Rattle.json_grammar_rules.specs.Value.{among}
use Rattle.json_grammar_rules.specs.Scan.{opens, closes, marks, around, beyond, search, every, no_more}
use Rattle.json_grammar_rules.proofs.ScanLaws.{search_parts}
use Rattle.json_string.specs.Strings.{same_text, fingerprint_at}
use Rattle.json_check.specs.declared.names.Kept.{Kept}
use Rattle.json_check.specs.declared.names.Search.{Search}
use Rattle.json_check.specs.declared.names.Search.TheVariants.{Twice, Once, Unfinished}
use Rattle.json_check.specs.Marks.{Shows, NameShown, NoMarks}
use Rattle.json_check.specs.Stacks.{place_at, marked, base_around}
use Rattle.json_check.specs.Twice.{Finds, none, Held, outermost, Holds, Meets, TwiceFrom, Searched}
use Rattle.json_check.proofs.StackLaws.{held_names, held_low, held_name, held_opens, held_closes, Without, found}

-- WHAT THE SEARCH FINDS, by the next mark

module _ {kept : List ℕ → List (List ℕ) → List (List ℕ)} {s : List ℕ} {p e : ℕ} (b : List (List ℕ)) (o : List (List (List ℕ))) where
  finds_opens : {r : Bool} → Shows s p e (opens ∷ []) → Finds kept s e [] (b ∷ o) r → Finds kept s p b o r
  unfolding search
  finds_opens h f = record { is = λ n l. let i = h.is n l in f.is i.0 i.1 ∙ sym (ap (search kept b o) i.2) }

  finds_closes : {r : Bool} → Shows s p e (closes ∷ []) → Finds kept s e (around o) (beyond o) r → Finds kept s p b o r
  unfolding search
  finds_closes h f = record { is = λ n l. let i = h.is n l in f.is i.0 i.1 ∙ sym (ap (search kept b o) i.2) }

  module _ {q : ℕ} (h : NameShown s p q e) where
    -- a name that is new to its object
    finds_new : {r : Bool} → among h.text b ≡ false → Finds kept s e (kept h.text b) o r → Finds kept s p b o r
    unfolding search
    finds_new w f = record {
      is = λ n l.
          let i = h.shows.is n l in
          f.is i.0 i.1 ∙ ap (λ (t : Bool). t || search kept (kept h.text b) o (marks i.0 (drop e s))) (sym w) ∙ sym (ap (search kept b o) i.2);
    }

    -- a name that its object has
    finds_known : among h.text b ≡ true → Finds kept s p b o true
    unfolding search
    finds_known w = record {
      is = λ n l. let i = h.shows.is n l in sym (ap (search kept b o) i.2 ∙ ap (λ (t : Bool). t || search kept (kept h.text b) o (marks i.0 (drop e s))) w);
    }

module _ {kept : List ℕ → List (List ℕ) → List (List ℕ)} {s : List ℕ} {p : ℕ} (b : List (List ℕ)) (o : List (List (List ℕ))) where
  finds_none : NoMarks s p → Finds kept s p b o false
  unfolding search
  finds_none h = record { is = λ n l. sym (ap (search kept b o) (h.is n l)) }

-- names that are there, and names among themselves
module _ {s : List ℕ} {p : ℕ} {b : List (List ℕ)} {o : List (List (List ℕ))} where
  parts : {t : Bool} → Finds no_more s p b o t → (n : ℕ) → length (drop p s) ≤ n → search every b o (marks n (drop p s)) ≡ t || search every [] [] (marks n (drop p s))
  parts f n l = let ms = marks n (drop p s) in search_parts b o ms ∙ ap (λ (t : Bool). t || search every [] [] ms) (sym (f.is n l))

  parts_met : Finds no_more s p b o true → Finds every s p b o true
  parts_met f = record { is = λ n l. sym (parts f n l) }

  parts_past : Finds no_more s p b o false → (r : Bool) → TwiceFrom s p r → Finds every s p b o r
  parts_past f r h = record { is = λ n l. h.is n l ∙ sym (parts f n l) }

-- A PASS

-- the pass from `from` on came to p, and holds names of the objects that are open there
pub record Filling (s : List ℕ) (from : ℕ) (a : List Kept) (j k p : ℕ) : Type 0 where
  pub low : from + k ≤ p
  pub high : p ≤ length s
  pub holds : Holds s a j k
  pub agrees : (r : Bool) → Finds every s p holds.inner holds.outer r → TwiceFrom s from r

pub filling_start : {s : List ℕ} {from : ℕ} (a : List Kept) → from ≤ length s → Filling s from a 0 0 from
filling_start a h = record { low = omega arith; high = h; holds = record { inner = []; outer = []; held = outermost none }; agrees = λ r f. f }

module _ {s : List ℕ} {from : ℕ} {a : List Kept} {j k p : ℕ} (fl : Filling s from a j k p) where
  abbrev b : List (List ℕ)
  b = fl.holds.inner

  abbrev o : List (List (List ℕ))
  o = fl.holds.outer

  module _ {q e : ℕ} (h : NameShown s p q e) where
    pub filling_found : (i : ℕ) → j ≤ i → i < k → same_text s q s (place_at a i) ≡ true → Searched s from Twice
    unfolding Searched
    filling_found i u l c = fl.agrees true (finds_known b o h (found (held_names fl.holds.held) i q u l h.text h.stands c))

    pub filling_name : (x : ℕ) → Without s a j k q → x ≡ fingerprint_at s q → k < length a → Filling s from (set a k (record { place = q; print = x })) j (k + 1) e
    filling_name x w f u = record {
      low = omega (arith, fl.low, h.shows.later);
      high = h.shows.high;
      holds = record { inner = h.text ∷ b; outer = o; held = held_name fl.holds.held (record { place = q; print = x }) h.text h.stands f u };
      agrees = λ r z. fl.agrees r (finds_new b o h (w.is h.text b (held_names fl.holds.held) h.stands) z);
    }

  module _ {e : ℕ} where
    pub filling_opens : Shows s p e (opens ∷ []) → k < length a → Filling s from (marked a k j) (k + 1) (k + 1) e
    filling_opens h u = record {
      low = omega (arith, fl.low, h.later);
      high = h.high;
      holds = record { inner = []; outer = b ∷ o; held = held_opens fl.holds.held u };
      agrees = λ r z. fl.agrees r (finds_opens b o h z);
    }

    pub filling_closes : Shows s p e (closes ∷ []) → Filling s from a (base_around a j) (j - 1) e
    filling_closes h = record {
      low = omega (arith, fl.low, h.later, held_low fl.holds);
      high = h.high;
      holds = record { inner = around o; outer = beyond o; held = held_closes fl.holds.held };
      agrees = λ r f. fl.agrees r (finds_closes b o h f);
    }

  pub filling_last : NoMarks s p → Searched s from Once
  unfolding Searched
  filling_last h = fl.agrees false (finds_none b o h)

  -- no more room
  module _ {t : Bool} (h : Meets s a j k p t) where
    met : {u : Bool} → t ≡ u → Finds no_more s p b o u
    met e = subst (λ (z : Bool). Finds no_more s p b o z) e (h.is b o fl.holds.held)

    pub filling_met : t ≡ true → Searched s from Twice
    unfolding Searched
    filling_met e = fl.agrees true (parts_met (met e))

    pub filling_past : t ≡ false → 0 < k → Searched s from (Unfinished p)
    unfolding Searched
    filling_past e l = (omega (arith, fl.low), fl.high, λ r f. fl.agrees r (parts_past (met e) r f))

-- NO MORE ROOM: i objects have opened since and are open; nothing is held of them, and below them are b and o
pub data Hidden (b : List (List ℕ)) (o : List (List (List ℕ))) : ℕ → List (List ℕ) → List (List (List ℕ)) → Type 0 where
  plain : Hidden b o 0 b o
  deeper : {i : ℕ} {c : List (List ℕ)} {d : List (List (List ℕ))} → Hidden b o i c d → Hidden b o (suc i) [] (c ∷ d)

module _ {b : List (List ℕ)} {o : List (List (List ℕ))} where
  at_plain : {i : ℕ} {c : List (List ℕ)} {d : List (List (List ℕ))} → Hidden b o i c d → i ≡ 0 → c ≡ b
  at_plain plain z = refl
  at_plain (deeper h) z = absurd (omega arith)

  at_deeper : {i : ℕ} {c : List (List ℕ)} {d : List (List (List ℕ))} → Hidden b o i c d → (i ≡ 0 → ⊥) → c ≡ []
  at_deeper plain z = absurd (z refl)
  at_deeper (deeper h) z = refl

  -- an object closes: one of the i, or one that is held
  hidden_out : {i : ℕ} {c : List (List ℕ)} {d : List (List (List ℕ))} → Hidden b o i c d → (i ≡ 0 → ⊥) → Hidden b o (i - 1) (around d) (beyond d)
  hidden_out plain z = absurd (z refl)
  hidden_out (deeper h) z = rw sub-one h

  hidden_held : {i : ℕ} {c : List (List ℕ)} {d : List (List (List ℕ))} → Hidden b o i c d → i ≡ 0 → Hidden (around o) (beyond o) i (around d) (beyond d)
  hidden_held plain z = plain
  hidden_held (deeper h) z = absurd (omega arith)

-- what is found from p on, with c and d, is what is found from `from` on, with b and o
pub record Met (s : List ℕ) (a : List Kept) (from j k i p : ℕ) (b : List (List ℕ)) (o : List (List (List ℕ))) : Type 0 where
  pub holds : Holds s a j k
  pub c : List (List ℕ)
  pub d : List (List (List ℕ))
  pub hidden : Hidden holds.inner holds.outer i c d
  pub agrees : (r : Bool) → Finds no_more s p c d r → Finds no_more s from b o r

pub record Meeting (s : List ℕ) (a : List Kept) (top n from j k i p : ℕ) : Type 0 where
  pub low : i ≤ p
  pub high : p ≤ length s
  pub is : (b : List (List ℕ)) (o : List (List (List ℕ))) → Held s a top n b o → Met s a from j k i p b o

pub meeting_start : {s : List ℕ} {a : List Kept} (top n : ℕ) {from : ℕ} → from ≤ length s → Meeting s a top n from top n 0 from
meeting_start top n h = record {
  low = omega arith;
  high = h;
  is = λ b o y. record { holds = record { inner = b; outer = o; held = y }; c = b; d = o; hidden = plain; agrees = λ r f. f };
}

module _ {s : List ℕ} {a : List Kept} {top n from j k i p : ℕ} (mt : Meeting s a top n from j k i p) where
  pub meeting_holds : Holds s a top n → Holds s a j k
  meeting_holds h = (mt.is h.inner h.outer h.held).holds

  pub meeting_last : NoMarks s p → Meets s a top n from false
  meeting_last h = record { is = λ b o y. let t = mt.is b o y in t.agrees false (finds_none t.c t.d h) }

  module _ {q e : ℕ} (h : NameShown s p q e) where
    passed : ((b : List (List ℕ)) (o : List (List (List ℕ))) (t : Met s a from j k i p b o) → among h.text t.c ≡ false) → Meeting s a top n from j k i e
    passed w = record {
      low = omega (arith, mt.low, h.shows.later);
      high = h.shows.high;
      is = λ b o y.
          let t = mt.is b o y in
          record { holds = t.holds; c = t.c; d = t.d; hidden = t.hidden; agrees = λ r f. t.agrees r (finds_new t.c t.d h (w b o t) f) };
    }

    -- a name of an object of which names are held
    module _ (z : i ≡ 0) where
      pub meeting_found : (x : ℕ) → j ≤ x → x < k → same_text s q s (place_at a x) ≡ true → Meets s a top n from true
      meeting_found x u l f = record {
        is = λ b o y.
            let t = mt.is b o y in
            t.agrees true (finds_known t.c t.d h (ap (among h.text) (at_plain t.hidden z) ∙ found (held_names t.holds.held) x q u l h.text h.stands f));
      }

      pub meeting_name : Without s a j k q → Meeting s a top n from j k i e
      meeting_name w = passed λ b o t. ap (among h.text) (at_plain t.hidden z) ∙ w.is h.text t.holds.inner (held_names t.holds.held) h.stands

    -- and of another
    pub meeting_inner : (i ≡ 0 → ⊥) → Meeting s a top n from j k i e
    unfolding among
    meeting_inner z = passed λ b o t. ap (among h.text) (at_deeper t.hidden z)

  pub meeting_opens : {e : ℕ} → Shows s p e (opens ∷ []) → Meeting s a top n from j k (i + 1) e
  meeting_opens h = record {
    low = omega (arith, mt.low, h.later);
    high = h.high;
    is = λ b o y.
        let t = mt.is b o y in
        record { holds = t.holds; c = []; d = t.c ∷ t.d; hidden = rw add-one (deeper t.hidden); agrees = λ r f. t.agrees r (finds_opens t.c t.d h f) };
  }

  module _ {e : ℕ} (h : Shows s p e (closes ∷ [])) where
    pub meeting_out : (i ≡ 0 → ⊥) → Meeting s a top n from j k (i - 1) e
    meeting_out z = record {
      low = omega (arith, mt.low, h.later);
      high = h.high;
      is = λ b o y.
          let t = mt.is b o y in
          record { holds = t.holds; c = around t.d; d = beyond t.d; hidden = hidden_out t.hidden z; agrees = λ r f. t.agrees r (finds_closes t.c t.d h f) };
    }

    -- back to the object around, held or not
    pub meeting_closes : i ≡ 0 → Meeting s a top n from (base_around a j) (j - 1) i e
    meeting_closes z = record {
      low = omega (arith, mt.low, h.later);
      high = h.high;
      is = λ b o y.
          let t = mt.is b o y in
          record {
            holds = record { inner = around t.holds.outer; outer = beyond t.holds.outer; held = held_closes t.holds.held };
            c = around t.d;
            d = beyond t.d;
            hidden = hidden_held t.hidden z;
            agrees = λ r f. t.agrees r (finds_closes t.c t.d h f);
          };
    }

-- PASS BY PASS

-- the places that are left to a search
abbrev pub left : List ℕ → Search → ℕ
left s Twice = 0
left s Once = 0
left s (Unfinished q) = suc (length s - q)

module _ (s : List ℕ) (p : ℕ) {x : Search} (h : Searched s p x) where
  searched : {y : Search} → x ≡ y → Searched s p y
  searched e = subst (λ (z : Search). Searched s p z) e h

  pub twice : x ≡ Twice → TwiceFrom s p true
  unfolding Searched
  twice e = searched e

  pub once : x ≡ Once → TwiceFrom s p false
  unfolding Searched
  once e = searched e

  unfinished : {q : ℕ} → x ≡ Unfinished q → (p < q) × (q ≤ length s) × ((r : Bool) → TwiceFrom s q r → TwiceFrom s p r)
  unfolding Searched
  unfinished e = searched e

  -- a search that goes on at q
  module _ {q : ℕ} (e : x ≡ Unfinished q) where
    pub within_text : q ≤ length s
    within_text = (unfinished e).1

    pub on : (y : Search) → Searched s q y → Searched s p y × (left s y < left s x)
    unfolding Searched
    on Twice k = ((unfinished e).2 true k, rw e (omega arith))
    on Once k = ((unfinished e).2 false k, rw e (omega arith))
    on (Unfinished z) k = ((omega (arith, (unfinished e).0, k.0), k.1, λ r f. (unfinished e).2 r (k.2 r f)), rw e (omega (arith, k.0, k.1)))
