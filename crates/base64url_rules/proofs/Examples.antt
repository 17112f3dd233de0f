-- Worked examples, on the definitions: rows under a single claim.
use Rattle.std.specs.Prelude.{◌≡◌, refl, true, false, List, [], ◌∷◌, ℕ}
use Rattle.std.proofs.Math.Option.{none, some}
use Rattle.common.specs.Ranges.{within}
use Rattle.base64url_rules.specs.Alphabet.{value, character}
use Rattle.base64url_rules.specs.Base64url.{encode, decode, alphabetic, unused_bits, strict}
use Rattle.base64url_rules.specs.Fault.{first_outside, fault}
use Rattle.base64url_rules.specs.Outcome.{Decoded, Encoded, decoded_to, decoding, encoded_to, encoding}

-- 36 46 48 50, and `JC4wMg`, with a character after it or in the place of its last
abbrev pub bytes : List ℕ
bytes = 36 ∷ 46 ∷ 48 ∷ 50 ∷ []

abbrev pub JC4wM : List ℕ → List ℕ
JC4wM rest = 74 ∷ 67 ∷ 52 ∷ 119 ∷ 77 ∷ rest

pub record Examples : Type 0 where
  pub encodes : encode bytes ≡ JC4wM (103 ∷ [])
  pub decodes : decode (JC4wM (103 ∷ [])) ≡ bytes
  pub is_strict : strict (JC4wM (103 ∷ [])) ≡ true
  -- `JC4wMh`: an unused bit is 1, at the last character
  pub unused_bit : (strict (JC4wM (104 ∷ [])) ≡ false) × (fault (JC4wM (104 ∷ [])) ≡ some 5)
  -- `JC4wM`: a character is missing at the end
  pub bad_length_lem : (strict (JC4wM []) ≡ false) × (fault (JC4wM []) ≡ some 5)
  -- `JC4wMg==`: the first padding character
  pub padding : (strict (JC4wM (103 ∷ 61 ∷ 61 ∷ [])) ≡ false) × (fault (JC4wM (103 ∷ 61 ∷ 61 ∷ [])) ≡ some 6)
  -- `JC4wM` and a line feed: the line feed
  pub white_space : (strict (JC4wM (10 ∷ [])) ≡ false) × (fault (JC4wM (10 ∷ [])) ≡ some 5)
  -- `JC4wM+`: a character of plain base64
  pub other_alphabet : (strict (JC4wM (43 ∷ [])) ≡ false) × (fault (JC4wM (43 ∷ [])) ≡ some 5)
  -- `-_-_`: the two characters that are neither letters nor digits
  pub signs : (strict (45 ∷ 95 ∷ 45 ∷ 95 ∷ []) ≡ true) × (decode (45 ∷ 95 ∷ 45 ∷ 95 ∷ []) ≡ 251 ∷ 255 ∷ 191 ∷ [])
  -- a buffer of just the right length is not too short
  pub full : (decoding (JC4wM (103 ∷ [])) (0 ∷ 0 ∷ 0 ∷ 0 ∷ []) ≡ decoded_to (Decoded.Bytes 4) bytes) × (encoding bytes (0 ∷ 0 ∷ 0 ∷ 0 ∷ 0 ∷ 0 ∷ []) ≡ encoded_to (Encoded.Text 6) (JC4wM (103 ∷ [])))
  -- an empty text: strict, and no bytes
  pub empty : (strict [] ≡ true) × (decode [] ≡ []) × (fault [] ≡ none)

pub examples : Examples
unfolding encode decode character within value strict alphabetic unused_bits first_outside fault decoding encoding
examples =
    record {
      encodes = refl;
      decodes = refl;
      is_strict = refl;
      unused_bit = (refl, refl);
      bad_length_lem = (refl, refl);
      padding = (refl, refl);
      white_space = (refl, refl);
      other_alphabet = (refl, refl);
      signs = (refl, refl);
      full = (refl, refl);
      empty = (refl, refl, refl);
    }
