-- The facts together: each of the first member with its name.
use mathlib.Core.Path.{◌≡◌, refl, sym, ap, ◌∙◌}
use mathlib.Core.Bool.{Bool, true, false, cond}
use mathlib.Core.List.{List}
use mathlib.Core.Option.{some}
use Prim.Native.Nat.{ℕ}
use Rattle.common.specs.Same.{same}
use Rattle.json_grammar_rules.specs.Value.{LMembers, named, lnil, lcons, plain_item, plain_members}
use Rattle.json_members.specs.Slots.{item_of, plain_of, ShowsAll}
use Rattle.keytable_rules.specs.Key.{Key}
use Rattle.std.specs.Prelude.{ℤ, ⊤, Option as Perhaps}
use Rattle.jose_rules.specs.declared.Said.{Said}
use Rattle.jose_rules.specs.declared.Algorithm.{Algorithm}
use Rattle.jose_rules.specs.declared.Listed.{Listed}
use Rattle.jose_rules.specs.Names.{alg, kid, typ, cty, crit, fmt}
use Rattle.jose_rules.specs.Facts.{lookup, alg_fact, kid_fact, text_fact, crit_fact, fmt_fact, facts_of}
use Rattle.jose_facts.specs.declared.members.Known.{Known}
use Rattle.jose_facts.specs.Known.{Which, the_alg, the_kid, the_typ, the_cty, the_crit, the_fmt, name, slot, SomeShown, FactsAre}
use Rattle.jose_facts.specs.Says.{ShownAt, ShownSomewhere, FactIs, TextFactIs, CritFactIs}

-- the first member with a name, with its places and without them
lookup_item : (n : List ℕ) (ms : LMembers) → lookup n (plain_members ms) ≡ plain_of (item_of n ms)
unfolding lookup item_of plain_members
lookup_item n lnil = refl
lookup_item n (lcons (named f t m v) ms) = go (same m n) (lookup_item n ms)
  where
    go : (b : Bool) → lookup n (plain_members ms) ≡ plain_of (item_of n ms)
        → cond b (some (plain_item v)) (lookup n (plain_members ms)) ≡ plain_of (cond b (some v) (item_of n ms))
    go true e = refl
    go false e = e

module _ {h : List ℕ} {d : ℕ} {m : Known} (s : SomeShown h d m) (w : Which) where
  pub shown_at : ShownAt h d (slot w m)
  shown_at = record { item = item_of (name w) s.members; shows = s.shows w }

  pub shown_some : ShownSomewhere h (slot w m)
  shown_some = record { depth = d; at = shown_at }

pub facts_made : {h : List ℕ} {d : ℕ} {m : Known} {ks : List Key} {a : Said Algorithm} {k : Said (Perhaps ℕ)} {t u : Said ⊤} {c : Said Listed} {f : Said ℤ}
    → FactIs h m.alg alg_fact a → FactIs h m.kid (kid_fact ks) k → TextFactIs m.typ t → TextFactIs m.cty u → CritFactIs h d m.crit c → FactIs h m.fmt fmt_fact f
    → FactsAre h d m ks (record { alg = a; kid = k; typ = t; cty = u; crit = c; fmt = f })
unfolding facts_of
facts_made {h} {d} {m} {ks} {a} {k} {t} {u} {c} {f} sa sk st su sc sf = record { is = are }
  where
    are : (ms : LMembers) → ShowsAll name slot h d m ms → record { alg = a; kid = k; typ = t; cty = u; crit = c; fmt = f } ≡ facts_of (plain_members ms) ks
    are ms w =
        let ea : a ≡ alg_fact (lookup alg (plain_members ms)) = sa.is d _ (w the_alg) ∙ ap alg_fact (sym (lookup_item alg ms)) in
        let ek : k ≡ kid_fact ks (lookup kid (plain_members ms)) = sk.is d _ (w the_kid) ∙ ap (kid_fact ks) (sym (lookup_item kid ms)) in
        let et : t ≡ text_fact (lookup typ (plain_members ms)) = st.is h d _ (w the_typ) ∙ ap text_fact (sym (lookup_item typ ms)) in
        let eu : u ≡ text_fact (lookup cty (plain_members ms)) = su.is h d _ (w the_cty) ∙ ap text_fact (sym (lookup_item cty ms)) in
        let ec : c ≡ crit_fact (lookup crit (plain_members ms)) = sc.is _ (w the_crit) ∙ ap crit_fact (sym (lookup_item crit ms)) in
        let ef : f ≡ fmt_fact (lookup fmt (plain_members ms)) = sf.is d _ (w the_fmt) ∙ ap fmt_fact (sym (lookup_item fmt ms)) in
        rw (ea, ek, et, eu, ec, ef)
