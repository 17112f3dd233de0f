-- What the public functions' contracts cite: strings at places of a slice.
use Rattle.std.specs.Prelude.{◌≡◌, Bool, false, cond, List, [], ◌∷◌, ℕ, ◌*◌, ◌/◌, ◌%◌, ◌^◌, ◌≤◌, leb, length, drop, Option, Some, None}
use Rattle.std.specs.Int.Bits.{bit_or, bit_xor}
use Rattle.common.specs.Buffer.{laid, cleared}
use Rattle.common.specs.Same.{same}
use Rattle.json_grammar_rules.specs.Reader.{Got, bad, got, read_chars}
use Rattle.json_string.specs.Ends.{End, Ends, end_of}
use Rattle.json_characters.specs.Utf8.{utf8}

-- the code points of the string whose first character is at p, and the bytes past its closing quotation mark; `bad` where no string stands
unfoldable pub text_at : List ℕ → ℕ → Got (List ℕ)
text_at s p = read_chars (length (drop p s)) (drop p s)

-- the end of the string whose first character is at `from`: the place after its closing quotation mark; nowhere where no string stands
unfoldable pub string_end : List ℕ → ℕ → End
string_end s from = end_of s (text_at s from)

-- r is that end: the same, for reasoning
unfoldable pub StringEnds : List ℕ → ℕ → End → Type 0
StringEnds s from r = (n : ℕ) → length (drop from s) ≤ n → Ends s from r (read_chars n (drop from s))

-- the characters cs and a quotation mark stand at p
unfoldable pub NameAt : List ℕ → ℕ → List ℕ → Type 0
NameAt s p cs = (n : ℕ) × (length (drop p s) ≤ n) × (r : List ℕ) × (read_chars n (drop p s) ≡ got cs r)

-- f of what was read; d where nothing was
abbrev pub given : {A B : Type 0} → (A → B) → B → Got A → B
given f d (got a r) = f a
given f d bad = d

-- whether both are strings, and have the same code points
abbrev pub same_of : Got (List ℕ) → Got (List ℕ) → Bool
same_of (got cs r) k = given (same cs) false k
same_of bad k = false

-- whether strings stand at p in s and at q in t, and have the same code points
unfoldable pub same_text : List ℕ → ℕ → List ℕ → ℕ → Bool
same_text s p t q = same_of (text_at s p) (text_at t q)

-- A FINGERPRINT of 64 bits. One more code point: the low half, with the code point in it, times a prime; and over that the whole, rotated by half
abbrev pub mix : ℕ → ℕ → ℕ
mix h c = bit_xor (bit_xor (h % 2 ^ 32) c * 2654435761) (bit_or (h / 2 ^ 32) ((h * 2 ^ 32) % 2 ^ 64))

-- that of no code points: not 0, which a code point 0 would leave
abbrev pub unmixed : ℕ
unmixed = 0x9E3779B97F4A7C15

unfoldable pub mix_all : ℕ → List ℕ → ℕ
mix_all h [] = h
mix_all h (c ∷ cs) = mix_all (mix h c) cs

-- what mixing the code points of the string at p into h gives; 0 where no string stands
unfoldable pub mixed_at : List ℕ → ℕ → ℕ → ℕ
mixed_at s p h = given (mix_all h) 0 (text_at s p)

-- the fingerprint of the string at p; 0 where no string stands
abbrev pub fingerprint_at : List ℕ → ℕ → ℕ
fingerprint_at s p = mixed_at s p unmixed

-- whether a string stands at p that, in UTF-8, is the word w
unfoldable pub text_is : List ℕ → ℕ → List ℕ → Bool
text_is s p w = given (λ cs. same (utf8 cs) w) false (text_at s p)

-- the answer, and what the buffer then holds that held old, of resolving to the octets u
unfoldable pub resolved : List ℕ → List ℕ → Option ℕ
resolved old u = cond (leb (length u) (length old)) (Some (length u)) None

unfoldable pub resolved_to : List ℕ → List ℕ → List ℕ
resolved_to old u = cond (leb (length u) (length old)) (laid u old) (cleared old)

-- the same of resolving the string at p; nothing, and zeros, where no string stands
unfoldable pub resolved_at : List ℕ → ℕ → List ℕ → Option ℕ
resolved_at s p old = given (λ cs. resolved old (utf8 cs)) None (text_at s p)

unfoldable pub resolved_to_at : List ℕ → ℕ → List ℕ → List ℕ
resolved_to_at s p old = given (λ cs. resolved_to old (utf8 cs)) (cleared old) (text_at s p)
