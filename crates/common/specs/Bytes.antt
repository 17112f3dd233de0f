-- Lists of bytes: every element is below 256. A slice's contents always are.
use Rattle.std.specs.Prelude.{List, [], ◌∷◌, ℕ, ◌<◌}

pub data Bytes : List ℕ → Type 0 where
  none : Bytes []
  more : {x : ℕ} {s : List ℕ} → x < 256 → Bytes s → Bytes (x ∷ s)
