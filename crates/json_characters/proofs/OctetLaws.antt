-- The octets of a code point, row by row of the table.
use mathlib.Core.Path.{◌≡◌}
use mathlib.Core.List.{[], ◌∷◌}
use Prim.Native.Nat.{ℕ, ◌+◌, ◌/◌, ◌≤◌, ◌<◌}
use native.Mathlib.Omega.{arith}
use borrow.Author.Tests.{le-leb, lt-leb}
use Rattle.json_characters.specs.Utf8.{tail, octets}

pub one_octet : (c x : ℕ) → c ≤ 0x7F → x ≡ c → x ∷ [] ≡ octets c
unfolding octets
one_octet c x h e = rw (le-leb c 0x7F h, e)

pub two_octets : (c x y : ℕ) → 0x7F < c → c ≤ 0x7FF → x ≡ 0xC0 + c / 64 → y ≡ tail c → x ∷ y ∷ [] ≡ octets c
unfolding octets
two_octets c x y l h e f = rw (lt-leb c 0x7F l, le-leb c 0x7FF h, e, f)

pub three_octets : (c x y z : ℕ) → 0x7FF < c → c ≤ 0xFFFF → x ≡ 0xE0 + c / 4096 → y ≡ tail (c / 64) → z ≡ tail c → x ∷ y ∷ z ∷ [] ≡ octets c
unfolding octets
three_octets c x y z l h e f g = rw (lt-leb c 0x7F (omega arith), lt-leb c 0x7FF l, le-leb c 0xFFFF h, e, f, g)

pub four_octets : (c x y z w : ℕ) → 0xFFFF < c → x ≡ 0xF0 + c / 262144 → y ≡ tail (c / 4096) → z ≡ tail (c / 64) → w ≡ tail c → x ∷ y ∷ z ∷ w ∷ [] ≡ octets c
unfolding octets
four_octets c x y z w l e f g h = rw (lt-leb c 0x7F (omega arith), lt-leb c 0x7FF (omega arith), lt-leb c 0xFFFF l, e, f, g, h)
