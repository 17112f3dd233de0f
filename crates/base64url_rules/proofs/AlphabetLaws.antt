-- Values and characters are each other's inverses.
use Rattle.std.specs.Prelude.{◌≡◌, refl, Bool, true, false, cond, ℕ, ◌<◌, ◌≤◌, ltb}
use Rattle.std.proofs.Common.{arith, lt-ltb, ltb-true, ltb-false, ne_eqb}
use Rattle.common.specs.Ranges.{within}
use Rattle.common.specs.RangeLaws.{above}
use Rattle.base64url_rules.specs.Alphabet.{value, character, in_alphabet}
use Rattle.base64url_rules.proofs.Tables.{entries, agree}

-- for all values at once, by one computed table
pub value_character : (v : ℕ) → v < 64 → value (character v) ≡ v
unfolding entries within value character
value_character v h = agree (λ v. value (character v)) (λ v. v) 64 v refl h

-- past the last letter there are no characters
pub value_past : (c : ℕ) → 123 ≤ c → value c ≡ 64
unfolding value
value_past c h =
    simp (
      above 65 90 c (omega arith),
      above 97 122 c (omega arith),
      above 48 57 c (omega arith),
      ne_eqb c 45 (λ e. omega arith),
      ne_eqb c 95 (λ e. omega arith),
    )

-- so a character of the alphabet is below 123
pub character_below : (c : ℕ) → value c < 64 → c < 123
character_below c h = go (ltb c 123) refl
  where
    go : (t : Bool) → ltb c 123 ≡ t → c < 123
    go true e = ltb-true c 123 e
    go false e = let p = value_past c (ltb-false c 123 e) in absurd (omega arith)

-- for all numbers below 123 at once, by one computed table
returned : ℕ → ℕ
returned c = cond (in_alphabet c) (character (value c)) c

pub character_value : (c : ℕ) → in_alphabet c ≡ true → character (value c) ≡ c
unfolding returned entries within value character
character_value c e =
    let a : returned c ≡ c = agree returned (λ c. c) 123 c refl (character_below c (ltb-true (value c) 64 e)) in
    rw e at a

pub character_in_alphabet : (v : ℕ) → v < 64 → in_alphabet (character v) ≡ true
character_in_alphabet v h = rw (value_character v h) (lt-ltb v 64 h)
