-- `note`, slot by slot.
use mathlib.Core.Path.{◌≡◌, refl}
use mathlib.Core.Bool.{true}
use mathlib.Core.List.{List}
use Prim.Native.Nat.{ℕ}
use Rattle.common.specs.Ascii.{ascii}
use Rattle.json_string.specs.WordLaws.{is_ascii}
use Rattle.json_members.specs.declared.steps.Entry.{Entry}
use Rattle.json_members.specs.Slots.{taken_at, Noted}
use Rattle.json_members.specs.WalkLaws as walk
use Rattle.jose_rules.specs.Names.{alg, kid, typ, cty, crit, fmt}
use Rattle.jose_facts.specs.declared.members.Known.{Known}
use Rattle.jose_facts.specs.Known.{Which, the_alg, the_kid, the_typ, the_cty, the_crit, the_fmt, name, slot}
use Rattle.jose_facts.proofs.members.Known.note.Goals as goal

words : (w : Which) → is_ascii (name w) ≡ true
unfolding is_ascii ascii alg kid typ cty crit fmt
words the_alg = refl
words the_kid = refl
words the_typ = refl
words the_cty = refl
words the_crit = refl
words the_fmt = refl

module _ {h : List ℕ} {p : ℕ} {m : Entry} {old new : Known} where
  all : new.alg ≡ taken_at h p m alg old.alg → new.kid ≡ taken_at h p m kid old.kid → new.typ ≡ taken_at h p m typ old.typ
      → new.cty ≡ taken_at h p m cty old.cty → new.crit ≡ taken_at h p m crit old.crit → new.fmt ≡ taken_at h p m fmt old.fmt
      → Noted name slot h p m old new
  all a k t c r f = walk.noted words by
    where
      by : (w : Which) → slot w new ≡ taken_at h p m (name w) (slot w old)
      by the_alg = a
      by the_kid = k
      by the_typ = t
      by the_cty = c
      by the_crit = r
      by the_fmt = f

pub returns : goal.returns
unfolding ascii alg kid typ cty crit fmt
returns c =
    all c.noted.ensures c.noted-2.ensures c.noted-3.ensures c.noted-4.ensures c.noted-5.ensures c.noted-6.ensures
