-- Decoding undoes encoding, and encoding decoding: a strict text is the only one for its bytes.
use Rattle.std.specs.Prelude.{◌≡◌, refl, true, List, [], ◌∷◌, ℕ, ◌+◌, ◌*◌, ◌/◌, ◌%◌}
use Rattle.std.proofs.Common.{◌∙◌, arith}
use Rattle.common.specs.Bytes.{Bytes, none, more}
use Rattle.base64url_rules.specs.Alphabet.{value}
use Rattle.base64url_rules.proofs.AlphabetLaws.{value_character, character_in_alphabet}
use Rattle.base64url_rules.specs.Base64url.{encode, decode, alphabetic, unused_bits, strict, byte1, byte2, byte3}
use Rattle.base64url_rules.proofs.GroupLaws.{strict_append, strict_groups}
use Rattle.base64url_rules.proofs.StrictGroups.{done, ◌and◌, Strict, nothing, two, three, four, by_groups}

pub decode_encode : {s : List ℕ} → Bytes s → decode (encode s) ≡ s
unfolding decode encode
decode_encode none = refl
decode_encode (more {x} hx none) =
    let e : x / 4 * 4 + x % 4 * 16 / 16 ≡ x = omega arith in
    rw (value_character (x / 4) (omega arith), value_character (x % 4 * 16) (omega arith), e)
decode_encode (more {x} hx (more {x = y} hy none)) =
    let e : x / 4 * 4 + (x % 4 * 16 + y / 16) / 16 ≡ x = omega arith in
    let f : (x % 4 * 16 + y / 16) % 16 * 16 + y % 16 * 4 / 4 ≡ y = omega arith in
    rw (value_character (x / 4) (omega arith), value_character (x % 4 * 16 + y / 16) (omega arith), value_character (y % 16 * 4) (omega arith), e, f)
decode_encode (more {x} hx (more {x = y} hy (more {x = z} {s = s} hz b))) =
    let e : x / 4 * 4 + (x % 4 * 16 + y / 16) / 16 ≡ x = omega arith in
    let f : (x % 4 * 16 + y / 16) % 16 * 16 + (y % 16 * 4 + z / 64) / 4 ≡ y = omega arith in
    let g : (y % 16 * 4 + z / 64) % 4 * 64 + z % 64 ≡ z = omega arith in
    rw (
      value_character (x / 4) (omega arith),
      value_character (x % 4 * 16 + y / 16) (omega arith),
      value_character (y % 16 * 4 + z / 64) (omega arith),
      value_character (z % 64) (omega arith),
      e,
      f,
      g,
      decode_encode b,
    )

pub strict_encode : {s : List ℕ} → Bytes s → strict (encode s) ≡ true
unfolding strict encode alphabetic unused_bits
strict_encode none = refl
strict_encode (more {x} hx none) =
    let a = character_in_alphabet (x / 4) (omega arith) in
    let b = character_in_alphabet (x % 4 * 16) (omega arith) in
    let e : x % 4 * 16 % 16 ≡ 0 = omega arith in
    rw (a, b, value_character (x % 4 * 16) (omega arith), e)
strict_encode (more {x} hx (more {x = y} hy none)) =
    let a = character_in_alphabet (x / 4) (omega arith) in
    let b = character_in_alphabet (x % 4 * 16 + y / 16) (omega arith) in
    let c = character_in_alphabet (y % 16 * 4) (omega arith) in
    let e : y % 16 * 4 % 4 ≡ 0 = omega arith in
    rw (a, b, c, value_character (y % 16 * 4) (omega arith), e)
strict_encode (more {x} hx (more {x = y} hy (more {x = z} {s = s} hz h))) =
    let group = encode (x ∷ y ∷ z ∷ []) in
    let a = character_in_alphabet (x / 4) (omega arith) in
    let b = character_in_alphabet (x % 4 * 16 + y / 16) (omega arith) in
    let c = character_in_alphabet (y % 16 * 4 + z / 64) (omega arith) in
    let d = character_in_alphabet (z % 64) (omega arith) in
    strict_append group (encode s) refl ∙ rw (strict_groups group refl, a, b, c, d, strict_encode h)

pub decode_bytes : (s : List ℕ) → strict s ≡ true → Bytes (decode s)
unfolding decode
decode_bytes s e = go (by_groups s e)
  where
    go : {s : List ℕ} → Strict s → Bytes (decode s)
    go nothing = none
    go (two {a} {b} (p and q and done) h) = more {x = byte1 a b} (omega arith) none
    go (three {a} {b} {c} (p and q and r and done) h) = more {x = byte1 a b} (omega arith) (more {x = byte2 b c} (omega arith) none)
    go (four {a} {b} {c} {d} (p and q and r and t and done) v) =
        more {x = byte1 a b} (omega arith) (more {x = byte2 b c} (omega arith) (more {x = byte3 c d} (omega arith) (go v)))

pub encode_decode : (s : List ℕ) → strict s ≡ true → encode (decode s) ≡ s
unfolding decode encode
encode_decode s e = go (by_groups s e)
  where
    go : {s : List ℕ} → Strict s → encode (decode s) ≡ s
    go nothing = refl
    go (two {a} {b} (p and q and done) h) =
        let e : byte1 a b / 4 ≡ value a = omega arith in
        let f : byte1 a b % 4 * 16 ≡ value b = omega arith in
        rw (e, f, p.back, q.back)
    go (three {a} {b} {c} (p and q and r and done) h) =
        let e : byte1 a b / 4 ≡ value a = omega arith in
        let f : byte1 a b % 4 * 16 + byte2 b c / 16 ≡ value b = omega arith in
        let g : byte2 b c % 16 * 4 ≡ value c = omega arith in
        rw (e, f, g, p.back, q.back, r.back)
    go (four {a} {b} {c} {d} (p and q and r and t and done) v) =
        let e : byte1 a b / 4 ≡ value a = omega arith in
        let f : byte1 a b % 4 * 16 + byte2 b c / 16 ≡ value b = omega arith in
        let g : byte2 b c % 16 * 4 + byte3 c d / 64 ≡ value c = omega arith in
        let h : byte3 c d % 64 ≡ value d = omega arith in
        rw (e, f, g, h, p.back, q.back, r.back, t.back, go v)
