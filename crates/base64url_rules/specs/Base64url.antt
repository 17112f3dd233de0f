-- Strict base64url without padding (RFC 4648 sections 4 and 5; RFC 7515 section 2). Texts and bytes are lists of numbers.
use Rattle.std.specs.Prelude.{Bool, true, cond, not, ◌&&◌, List, [], ◌∷◌, ℕ, ◌+◌, ◌-◌, ◌*◌, ◌/◌, ◌%◌, eqb, length, get_or}
use Rattle.base64url_rules.specs.Alphabet.{value, character, in_alphabet}

-- section 4: three bytes are four characters of six bits each, the highest first; a last group of one or two bytes is filled up with zero bits to two or three characters
unfoldable pub encode : List ℕ → List ℕ
encode [] = []
encode (x ∷ []) = character (x / 4) ∷ character (x % 4 * 16) ∷ []
encode (x ∷ y ∷ []) = character (x / 4) ∷ character (x % 4 * 16 + y / 16) ∷ character (y % 16 * 4) ∷ []
encode (x ∷ y ∷ z ∷ s) = character (x / 4) ∷ character (x % 4 * 16 + y / 16) ∷ character (y % 16 * 4 + z / 64) ∷ character (z % 64) ∷ encode s

-- n bytes take this many characters: 4 for every three bytes, and 0, 2 or 3 for a rest of 0, 1 or 2
abbrev pub encoded_length : ℕ → ℕ
encoded_length n = 4 * (n / 3) + cond (eqb (n % 3) 0) 0 (n % 3 + 1)

-- the bytes of two neighbouring characters, of the first and second, the second and third, the third and fourth of a group
abbrev pub byte1 : ℕ → ℕ → ℕ
byte1 a b = value a * 4 + value b / 16

abbrev pub byte2 : ℕ → ℕ → ℕ
byte2 b c = value b % 16 * 16 + value c / 4

abbrev pub byte3 : ℕ → ℕ → ℕ
byte3 c d = value c % 4 * 64 + value d

-- the bytes that a text stands for, if it is strict
unfoldable pub decode : List ℕ → List ℕ
decode [] = []
decode (a ∷ []) = []
decode (a ∷ b ∷ []) = byte1 a b ∷ []
decode (a ∷ b ∷ c ∷ []) = byte1 a b ∷ byte2 b c ∷ []
decode (a ∷ b ∷ c ∷ d ∷ s) = byte1 a b ∷ byte2 b c ∷ byte3 c d ∷ decode s

-- and how many: 3 for every four characters, and 0, 0, 1 or 2 for a rest of 0, 1, 2 or 3 (the difference 0 - 1 is 0)
abbrev pub decoded_length : ℕ → ℕ
decoded_length n = 3 * (n / 4) + (n % 4 - 1)

-- every character is one of the alphabet: no padding, no white space
unfoldable pub alphabetic : List ℕ → Bool
alphabetic [] = true
alphabetic (c ∷ s) = in_alphabet c && alphabetic s

-- the low bits of the last character that belong to no byte: four after a rest of two characters, two after a rest of three
unfoldable pub unused_bits : List ℕ → ℕ
unused_bits s =
    cond (eqb (length s % 4) 2) (value (get_or s (length s - 1) 0) % 16)
    (cond (eqb (length s % 4) 3) (value (get_or s (length s - 1) 0) % 4) 0)

-- a length that no number of bytes has
abbrev pub bad_length : List ℕ → Bool
bad_length s = eqb (length s % 4) 1

unfoldable pub strict : List ℕ → Bool
strict s = alphabetic s && (not (bad_length s) && eqb (unused_bits s) 0)
