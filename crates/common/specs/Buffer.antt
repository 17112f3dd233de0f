-- What a lent buffer holds: some bytes, and then zeros or what it held before.
use Rattle.std.specs.Prelude.{◌≡◌, List, ◌++◌, ℕ, ◌-◌, length, drop, replicate}

-- `room` bytes: s, and then zeros
abbrev pub filled : ℕ → List ℕ → List ℕ
filled room s = s ++ replicate (room - length s) 0

-- the buffer with s at its front, and then what it held before
abbrev pub laid : List ℕ → List ℕ → List ℕ
laid s out = s ++ drop (length s) out

-- s stands at its front, n bytes long, and what follows is as it was
pub record Front (s old : List ℕ) (n : ℕ) (out : List ℕ) : Type 0 where
  pub size : n ≡ length s
  pub buffer : out ≡ laid s old

-- the buffer with every byte 0
abbrev pub cleared : List ℕ → List ℕ
cleared out = replicate (length out) 0
