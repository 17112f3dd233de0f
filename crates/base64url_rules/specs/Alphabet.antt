-- The alphabet of base64url (RFC 4648 section 5, table 2). Characters are numbers.
use Rattle.std.specs.Prelude.{Bool, cond, ℕ, ◌+◌, ◌-◌, ltb, eqb}
use Rattle.common.specs.Ranges.{within}

-- the character of a value, 0 to 63: A to Z, a to z, 0 to 9, - and _
unfoldable pub character : ℕ → ℕ
character v =
    cond (ltb v 26) (v + 65)
    (cond (ltb v 52) (v + 71)
    (cond (ltb v 62) (v - 4)
    (cond (eqb v 62) 45 95)))

-- the value of a character; 64 for any other, as = + / and white space
unfoldable pub value : ℕ → ℕ
value c =
    cond (within 65 90 c) (c - 65)
    (cond (within 97 122 c) (c - 71)
    (cond (within 48 57 c) (c + 4)
    (cond (eqb c 45) 62
    (cond (eqb c 95) 63 64))))

abbrev pub in_alphabet : ℕ → Bool
in_alphabet c = ltb (value c) 64
