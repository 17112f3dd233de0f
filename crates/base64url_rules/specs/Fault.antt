-- What is wrong with a text, as a place in it.
use Rattle.std.specs.Prelude.{cond, List, [], ◌∷◌, ℕ, suc, ◌-◌, ltb, eqb, length}
use Rattle.std.proofs.Math.Option.{Option, none, some}
use Rattle.base64url_rules.specs.Alphabet.{in_alphabet}
use Rattle.base64url_rules.specs.Base64url.{bad_length, unused_bits}

-- the place of the first character outside the alphabet, or the text's length
unfoldable pub first_outside : List ℕ → ℕ
first_outside [] = 0
first_outside (c ∷ s) = cond (in_alphabet c) (suc (first_outside s)) 0

-- the first character outside the alphabet; failing that, the end of a text of a bad length; failing that, the last character, where it has unused bits that are not 0; or nothing
unfoldable pub fault : List ℕ → Option ℕ
fault s =
    cond (ltb (first_outside s) (length s)) (some (first_outside s))
    (cond (bad_length s) (some (length s))
    (cond (eqb (unused_bits s) 0) none (some (length s - 1))))
