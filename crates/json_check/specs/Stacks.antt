-- The stack of names that a search keeps: what stands at a place of it.
use Rattle.std.specs.Prelude.{ℕ, zero, suc, List, get_or, set}
use Rattle.json_check.specs.declared.names.Kept.{Kept}

abbrev pub nothing : Kept
nothing = record { place = 0; print = 0 }

-- the place, and the fingerprint, that are kept at i
abbrev pub place_at : List Kept → ℕ → ℕ
place_at a i = (get_or a i nothing).place

abbrev pub print_at : List Kept → ℕ → ℕ
print_at a i = (get_or a i nothing).print

-- the place p kept at k, where an object opens
abbrev pub marked : List Kept → ℕ → ℕ → List Kept
marked a k p = set a k (record { place = p; print = print_at a k })

-- where the names begin of the object around the one whose names begin at j; the start of the stack where nothing is kept of it
unfoldable pub base_around : List Kept → ℕ → ℕ
base_around a zero = zero
base_around a (suc j) = place_at a j
