-- UTF-8 (RFC 3629 section 3): the octets of code points.
use Rattle.std.specs.Prelude.{cond, List, [], ◌∷◌, ◌++◌, ℕ, ◌+◌, ◌/◌, ◌%◌, ◌≤◌, leb}

-- 10xxxxxx, with the lowest six bits of x
abbrev pub tail : ℕ → ℕ
tail x = 0x80 + x % 64

-- the table of section 3, row by row
unfoldable pub octets : ℕ → List ℕ
octets c =
    -- 0000 0000-0000 007F: 0xxxxxxx
    cond (leb c 0x7F) (c ∷ [])
    -- 0000 0080-0000 07FF: 110xxxxx 10xxxxxx
    (cond (leb c 0x7FF) ((0xC0 + c / 64) ∷ tail c ∷ [])
    -- 0000 0800-0000 FFFF: 1110xxxx 10xxxxxx 10xxxxxx
    (cond (leb c 0xFFFF) ((0xE0 + c / 4096) ∷ tail (c / 64) ∷ tail c ∷ [])
    -- 0001 0000-0010 FFFF: 11110xxx 10xxxxxx 10xxxxxx 10xxxxxx
    ((0xF0 + c / 262144) ∷ tail (c / 4096) ∷ tail (c / 64) ∷ tail c ∷ [])))

unfoldable pub utf8 : List ℕ → List ℕ
utf8 [] = []
utf8 (c ∷ cs) = octets c ++ utf8 cs

-- RFC 3629 section 3: the code points that have octets, U+0000 to U+10FFFF but the surrogates U+D800 to U+DFFF (Unicode scalar values)
pub data Scalar (c : ℕ) : Type 0 where
  low : c ≤ 0xD7FF → Scalar c
  high : 0xE000 ≤ c → c ≤ 0x10FFFF → Scalar c

-- P holds of every number of a list
pub data Each (P : ℕ → Type 0) : List ℕ → Type 0 where
  none : Each P []
  more : {x : ℕ} {xs : List ℕ} → P x → Each P xs → Each P (x ∷ xs)
