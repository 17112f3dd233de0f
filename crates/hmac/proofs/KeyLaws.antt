-- The key's block, as it is written into a buffer of zeros.
use mathlib.Core.Path.{◌≡◌}
use mathlib.Core.List.{List}
use Prim.Native.Nat.{ℕ, ◌≤◌, ◌<◌}
use borrow.Author.Tests.{lt-ltb, le-ltb}
use lib.ListN.{length, replicate}
use lib.Seq.{paste}
use Rattle.common.specs.Laid.{copied_zeros}
use Rattle.hmac.specs.Hmac.{key_block}

module _ (hash : List ℕ → List ℕ) (block : ℕ) (key : List ℕ) where
  pub short_key : length key ≤ block → paste (replicate block 0) 0 key (length key) ≡ key_block hash block key
  short_key h = simp (le-ltb block (length key) h) (copied_zeros block key)

  pub long_key : (h : List ℕ) → h ≡ hash key → block < length key → paste (replicate block 0) 0 h (length h) ≡ key_block hash block key
  long_key h e l = simp (lt-ltb block (length key) l) (rw e (copied_zeros block (hash key)))
