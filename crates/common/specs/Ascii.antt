-- Texts of ASCII characters, as their bytes.
use Rattle.std.specs.Prelude.{List, [], ◌∷◌, ℕ}
use Prim.Native.Char.{code}
use Prim.Native.String.{String, [] as end, ◌∷◌ as ◌and◌}

unfoldable pub ascii : String → List ℕ
ascii end = []
ascii (◌and◌ c s) = code c ∷ ascii s
