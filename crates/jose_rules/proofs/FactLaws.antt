-- Facts by their three cases: the member is absent, of the wrong kind, or says something. And the facts of two headers together.
use Rattle.std.specs.Prelude.{◌≡◌, refl, Bool, cond, not, ℕ, Option as Perhaps, Some, None}
use Rattle.std.proofs.Common.{sym}
use Rattle.std.proofs.Math.Bool.{true, false}
use mathlib.Core.List.{List, [], ◌∷◌}
use Rattle.std.proofs.Math.Option.{Option, none, some}
use Rattle.common.specs.Options.{absent, given, bind}
use Rattle.common.specs.Same.{same}
use Rattle.json_grammar_rules.specs.Value.{Value, Members, mnil, mcons}
use Rattle.keytable_rules.specs.Key.{Key}
use Rattle.jose_rules.specs.declared.Algorithm.{Algorithm}
use Rattle.jose_rules.specs.declared.Listed.{Listed}
use Rattle.jose_rules.specs.declared.Said.{Said}
use Rattle.jose_rules.specs.Names.{alg, kid, typ, cty, crit, fmt, HS256}
use Rattle.jose_rules.specs.Members.{Meaning, string, strings, integer}
use Rattle.jose_rules.specs.Facts.{lookup, pick, fact, said, alg_by, found_by, names_from, names_by, alg_fact, kid_fact, text_fact, crit_fact, fmt_fact, facts_of, joined, said_or, merged}

-- a function of a fact, by the three cases
module _ {A F B : Type 0} {a w : F} {f : A → F} (k : Meaning A) (g : F → B) {a' w' : B} {f' : A → B} (p : g a ≡ a') (q : g w ≡ w') (r : (x : A) → g (f x) ≡ f' x) where
  pub by_cases : (o : Option Value) → g (fact a w f k o) ≡ fact a' w' f' k o
  by_cases none = p
  by_cases (some v) = go (k v)
    where
      go : (o : Option A) → g (pick a w f o) ≡ pick a' w' f' o
      go none = q
      go (some x) = r x

-- what is computed of a member's value, as cases
module _ {A : Type 0} (k : Meaning A) where
  pub wrong_cases : (o : Option Value) → given (λ v. absent (k v)) o ≡ fact false true (λ _. false) k o
  wrong_cases none = refl
  wrong_cases (some v) = go (k v)
    where
      go : (o : Option A) → absent o ≡ pick false true (λ _. false) o
      go none = refl
      go (some x) = refl

  pub there_cases : (o : Option Value) → not (absent o) ≡ fact false true (λ _. true) k o
  there_cases none = refl
  there_cases (some v) = go (k v)
    where
      go : (o : Option A) → true ≡ pick false true (λ _. true) o
      go none = refl
      go (some x) = refl

  pub given_cases : (p : A → Bool) (o : Option Value) → given p (bind o k) ≡ fact false false p k o
  given_cases p none = refl
  given_cases p (some v) = go (k v)
    where
      go : (o : Option A) → given p o ≡ pick false false p o
      go none = refl
      go (some x) = refl

  pub bind_cases : {B : Type 0} (f : A → Option B) (o : Option Value) → bind (bind o k) f ≡ fact none none f k o
  bind_cases f none = refl
  bind_cases {B} f (some v) = go (k v)
    where
      go : (o : Option A) → bind o f ≡ pick none none f o
      go none = refl
      go (some x) = refl

-- what holds of any names holds of those of `crit`
module _ (P : Listed → Type 0) (all : (b l : Bool) → P (record { bad = b; fmt = l })) where
  from_names : (ns : List (List ℕ)) (l b : Bool) → P (names_from l b ns)
  unfolding names_from
  from_names [] l b = all b l
  from_names (n ∷ ns) l b = go (same n fmt) (from_names ns _ _) (from_names ns _ _)
    where
      go : {x y : Listed} (t : Bool) → P x → P y → P (cond t x y)
      go true x y = x
      go false x y = y

  pub by_names : (ns : List (List ℕ)) → P (names_by ns)
  by_names [] = all true false
  by_names (n ∷ ns) = from_names (n ∷ ns) false false

-- what holds of both algorithms, and of a key found or not
pub by_algorithm : (P : Algorithm → Type 0) → P Algorithm.HS256 → P Algorithm.Other → (s : List ℕ) → P (alg_by s)
by_algorithm P x y s = go (same s HS256)
  where
    go : (b : Bool) → P (cond b Algorithm.HS256 Algorithm.Other)
    go true = x
    go false = y

pub by_found : (P : Said (Perhaps ℕ) → Type 0) → ((i : ℕ) → P (Said.Is (Some i))) → P (Said.Is None) → (f : Perhaps ℕ) → P (Said.Is f)
by_found P x y (Some i) = x i
by_found P x y None = y

-- TWO HEADERS

abbrev either : Option Value → Option Value → Option Value
either none o = o
either (some v) o = some v

pub lookup_joined : (n : List ℕ) (ps us : Members) → lookup n (joined ps us) ≡ either (lookup n ps) (lookup n us)
unfolding lookup joined
lookup_joined n mnil us = refl
lookup_joined n (mcons m v ps) us = go (same m n) (lookup_joined n ps us)
  where
    go : (b : Bool) → lookup n (joined ps us) ≡ either (lookup n ps) (lookup n us) → cond b (some v) (lookup n (joined ps us)) ≡ either (cond b (some v) (lookup n ps)) (lookup n us)
    go true e = refl
    go false e = e

-- the first one's fact stands unless it is absent
module _ {A F : Type 0} (a w : F) (f : A → F) (k : Meaning A) (or : F → F → F) (first : (x : F) → or a x ≡ x) (wrong : (x : F) → or w x ≡ w) (says : (y : A) (x : F) → or (f y) x ≡ f y) where
  fact_either : (o q : Option Value) → fact a w f k (either o q) ≡ or (fact a w f k o) (fact a w f k q)
  fact_either none q = sym (first (fact a w f k q))
  fact_either (some v) q = go (k v) (fact a w f k q)
    where
      go : (o : Option A) (x : F) → pick a w f o ≡ or (pick a w f o) x
      go none x = sym (wrong x)
      go (some y) x = sym (says y x)

said_either : {A B : Type 0} (f : A → B) (k : Meaning A) (o q : Option Value) → said f k (either o q) ≡ said_or (said f k o) (said f k q)
said_either f k = fact_either Said.Absent Said.Wrong (λ a. Said.Is (f a)) k said_or (λ x. refl) (λ x. refl) (λ y x. refl)

-- THE FACTS OF JOINED MEMBERS are the merged facts
pub facts_joined : (ps us : Members) (ks : List Key) → facts_of (joined ps us) ks ≡ merged (facts_of ps ks) (facts_of us ks)
unfolding facts_of merged alg_fact kid_fact text_fact crit_fact fmt_fact
facts_joined ps us ks =
    let text : (n : List ℕ) → _ = λ n. said_either (λ _. tt {0}) string (lookup n ps) (lookup n us) in
    rw (
      lookup_joined alg ps us,
      lookup_joined kid ps us,
      lookup_joined typ ps us,
      lookup_joined cty ps us,
      lookup_joined crit ps us,
      lookup_joined fmt ps us,
      said_either alg_by string (lookup alg ps) (lookup alg us),
      said_either (found_by ks) string (lookup kid ps) (lookup kid us),
      text typ,
      text cty,
      said_either names_by strings (lookup crit ps) (lookup crit us),
      said_either (λ z. z) integer (lookup fmt ps) (lookup fmt us),
    )
