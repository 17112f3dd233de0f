-- The walk over the members that begin at a place, if there are any: before each step, some are passed, or all are.
use Rattle.std.specs.Prelude.{◌≡◌, refl, List, ℕ, ◌-◌, ◌<◌, length, Some, None}
use Rattle.std.proofs.Common.{arith}
use Rattle.json_string.specs.Ends.{End}
use Rattle.json_members.specs.declared.steps.Entry.{Entry}
use Rattle.json_members.specs.Members.{EntryAt}
use Rattle.json_members.specs.Steps.{entry_at}
use Rattle.json_members.specs.Slots.{Within, Noted, KnownFrom}
use Rattle.json_members.specs.WalkLaws.{Walking, walk_start, walk_next, walk_end, walk_nothing, from_some, from_none}
use Rattle.jose_facts.specs.declared.members.Known.{Known}
use Rattle.jose_facts.specs.Known.{Which, the_alg, the_kid, the_typ, the_cty, the_crit, the_fmt, name, slot}

-- of no members
abbrev pub none_known : Known
none_known = record { alg = None; kid = None; typ = None; cty = None; crit = None; fmt = None }

-- how far the walk has to go
abbrev pub left : List ℕ → End → ℕ
left h None = 0
left h (Some p) = length h - p

module _ (h : List ℕ) (from : End) (d : ℕ) where
  -- of the members at `from`, those before `at` are passed
  abbrev pub Going : End → Known → Type 0
  Going None m = KnownFrom name slot h from d m
  Going (Some p) m = (p < length h) × ((f : ℕ) × (from ≡ Some f) × Walking name slot h f p d m)

  pub going_start : Within h from → Going from none_known
  going_start w = go from refl
    where
      none : (w : Which) → slot w none_known ≡ None
      none the_alg = refl
      none the_kid = refl
      none the_typ = refl
      none the_cty = refl
      none the_crit = refl
      none the_fmt = refl

      go : (r : End) → from ≡ r → Going r none_known
      go None e = from_none e none
      go (Some p) e = (w.at p e, (p, e, walk_start none))

  module _ {p : ℕ} {old : Known} (g : Going (Some p) old) where
    -- nothing is read
    pub going_nothing : None ≡ entry_at h p d → KnownFrom name slot h from d old
    going_nothing e = from_some g.1.1 (walk_nothing g.1.2 e)

    -- a member more
    pub going_next : {m : Entry} {new : Known} → EntryAt h p d m → Noted name slot h p m old new → Going m.next new
    going_next {m} {new} en nt = go m.next refl
      where
        go : (r : End) → m.next ≡ r → Going r new
        go None e = from_some g.1.1 (walk_end g.1.2 en nt e)
        go (Some q) e = ((en.later q e).1, (g.1.0, g.1.1, walk_next g.1.2 en nt e))

    pub going_less : {m : Entry} → EntryAt h p d m → left h m.next < left h (Some p)
    going_less {m} en = go m.next refl
      where
        go : (r : End) → m.next ≡ r → left h r < left h (Some p)
        go None e = let l = g.0 in omega arith
        go (Some q) e = let l = en.later q e in omega arith
