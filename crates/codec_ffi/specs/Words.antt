-- The answers of decoding and encoding as two words, and the lent buffer.
use Rattle.std.specs.Prelude.{List, [], ◌∷◌, ℕ}
use Rattle.base64url_rules.specs.Outcome.{Decoded, Encoded, Decoding, Encoding}

-- 0 and how many bytes were written, 1 and the place of the fault, 2 and 0 for a buffer that is too short
abbrev pub decoded_words : Decoded → List ℕ
decoded_words (Decoded.Bytes n) = 0 ∷ n ∷ []
decoded_words (Decoded.Fault place) = 1 ∷ place ∷ []
decoded_words Decoded.Short = 2 ∷ 0 ∷ []

-- 0 and how many characters were written, 2 and 0 for a buffer that is too short
abbrev pub encoded_words : Encoded → List ℕ
encoded_words (Encoded.Text n) = 0 ∷ n ∷ []
encoded_words Encoded.Short = 2 ∷ 0 ∷ []

-- what a call leaves in the two words and in the buffer
pub record Call : Type 0 where
  pub words : List ℕ
  pub buffer : List ℕ

abbrev pub call : List ℕ → List ℕ → Call
call words buffer = record { words = words; buffer = buffer }

abbrev pub decode_call : Decoding → Call
decode_call d = call (decoded_words d.answer) d.buffer

abbrev pub encode_call : Encoding → Call
encode_call e = call (encoded_words e.answer) e.buffer
