-- Functions of a thing that may be absent.
use Rattle.std.specs.Prelude.{Bool, true, false}
use Rattle.std.proofs.Math.Option.{Option, none, some}

module _ {A : Type 0} where
  abbrev pub absent : Option A → Bool
  absent none = true
  absent (some a) = false

  -- there is one, and p of it
  abbrev pub given : (A → Bool) → Option A → Bool
  given p none = false
  given p (some a) = p a

  abbrev pub bind : {B : Type 0} → Option A → (A → Option B) → Option B
  bind none f = none
  bind (some a) f = f a

  abbrev pub or_else : Option A → A → A
  or_else none d = d
  or_else (some a) d = a
