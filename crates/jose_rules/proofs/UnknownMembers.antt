-- "No `jku`, `jwk`, `x5u`, `x5t` or `x5c` has a say in which key is taken": left out, they change nothing that the header says; nor does any other unknown member.
use Rattle.std.specs.Prelude.{◌≡◌, refl, Bool, true, false, cond, ◌||◌, List, ℕ}
use Rattle.std.proofs.Math.Option.{some}
use Rattle.common.specs.First.{Decides, holds, fails}
use Rattle.common.specs.Same.{same}
use Rattle.common.proofs.SameLaws.{decides_same}
use Rattle.common.specs.Truth.{neither}
use Rattle.json_grammar_rules.specs.Value.{Members, mnil, mcons, among}
use Rattle.keytable_rules.specs.Key.{Key}
use Rattle.common.specs.Ascii.{ascii}
use Rattle.jose_rules.specs.Names.{alg, kid, typ, cty, crit, fmt, known_names}
use Rattle.jose_rules.specs.Facts.{lookup, facts_of}

-- the members whose name isn't n
unfoldable pub without : List ℕ → Members → Members
without n mnil = mnil
without n (mcons m v ms) = cond (same m n) (without n ms) (mcons m v (without n ms))

lookup_without : (n x : List ℕ) → same n x ≡ false → (ms : Members) → lookup x (without n ms) ≡ lookup x ms
unfolding lookup without
lookup_without n x d mnil = refl
lookup_without n x d (mcons m v ms) = go (same m n) (decides_same m n) (lookup_without n x d ms)
  where
    go : (b : Bool) → Decides (m ≡ n) b → lookup x (without n ms) ≡ lookup x ms
        → lookup x (cond b (without n ms) (mcons m v (without n ms))) ≡ cond (same m x) (some v) (lookup x ms)
    go true (holds e) ih = rw (e, d) ih
    go false (fails e) ih = rw ih

-- A MEMBER OF AN UNKNOWN NAME, left out, changes no fact, so that neither the answer nor the choice is another; ..
pub unknown_ignored : (n : List ℕ) → among n known_names ≡ false → (ms : Members) (ks : List Key) → facts_of (without n ms) ks ≡ facts_of ms ks
unfolding among facts_of
unknown_ignored n new ms ks =
    let a = neither _ _ new in
    let b = neither _ _ a.1 in
    let c = neither _ _ b.1 in
    let d = neither _ _ c.1 in
    let e = neither _ _ d.1 in
    let f = neither _ _ e.1 in
    rw (
      lookup_without n alg a.0 ms,
      lookup_without n kid b.0 ms,
      lookup_without n typ c.0 ms,
      lookup_without n cty d.0 ms,
      lookup_without n crit e.0 ms,
      lookup_without n fmt f.0 ms,
    )

-- .. and these are such names
pub five_unknown : among (ascii "jku") known_names || (among (ascii "jwk") known_names || (among (ascii "x5u") known_names || (among (ascii "x5t") known_names || among (ascii "x5c") known_names))) ≡ false
unfolding among same ascii alg kid typ cty crit fmt
five_unknown = refl
