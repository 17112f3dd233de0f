-- The whole hash: from the values after the whole blocks and after the last ones to the definition.
use Rattle.std.specs.Prelude.{◌≡◌, List, ◌++◌, ℕ, zero, ◌+◌, ◌-◌, ◌*◌, ◌/◌, ◌%◌, ◌<◌, length, take, drop}
use Rattle.std.proofs.Common.{ap, ap₂, sym, ◌∙◌, zero-add, div-mul-le_self, mul-div_cancel, length-drop}
use Rattle.std.proofs.Math.Nat.{mod-add-mod, mod-eq-sub-div-mul}
use Rattle.common.specs.Laid.{part_from}
use Rattle.sha2_rules.specs.Parameters.{Parameters}
use Rattle.sha2_rules.specs.Hash.{block_bytes, length_bytes, padding, hash_value, hash_after, word_bytes}
use Rattle.sha2_rules.proofs.BlockLaws.{in_parts}
use Rattle.sha2_rules.proofs.PaddedLaws.{ends}

module _ (P : Parameters) where
  -- where the whole blocks of m end
  abbrev pub whole : List ℕ → ℕ
  whole m = length m / block_bytes P * block_bytes P

  -- the bytes past them, as the code lends them
  abbrev pub rest : List ℕ → List ℕ
  rest m = take (length m - whole m) (drop (whole m) m)

  -- .. and how many blocks they are with the padding
  abbrev pub last_blocks : List ℕ → ℕ
  last_blocks m = (length m - whole m + (block_bytes P + length_bytes P)) / block_bytes P

  pub length_rest : (m : List ℕ) → length (rest m) ≡ length m - whole m
  length_rest m = ap length (part_from (whole m) m) ∙ length-drop (whole m) m

  module _ (z : zero < block_bytes P) where
    -- .. as the padding has it, where n bytes of whole blocks stand before m
    pub ends_there : (m : List ℕ) (n : ℕ) → n % block_bytes P ≡ 0
        → (length (rest m) ≡ (n + length m) % block_bytes P) × (last_blocks m * block_bytes P ≡ length (rest m ++ padding P (n + length m)))
    ends_there m n h =
        let B = block_bytes P in
        let l : length (rest m) ≡ (n + length m) % B =
        length_rest m ∙ sym (mod-eq-sub-div-mul (length m) B) ∙ (rw (h, zero-add) at (mod-add-mod n B (length m))) in
        (l, ap (λ (x : ℕ). (x + (B + length_bytes P)) / B * B) (sym (length_rest m)) ∙ sym (ends P (rest m) (n + length m) z l))

    -- n bytes stand before m, and the last blocks stand at the front of d
    pub finished : (s m v f d : List ℕ) (n : ℕ) → n % block_bytes P ≡ 0
        → take (last_blocks m * block_bytes P) d ≡ rest m ++ padding P (n + length m)
        → v ≡ hash_value P s m (length m / block_bytes P)
        → f ≡ hash_value P v (take (last_blocks m * block_bytes P) d) (length (take (last_blocks m * block_bytes P) d) / block_bytes P)
        → word_bytes (P.w / 8) f P.digest_words ≡ hash_after P s n m
    finished s m v f d n h ed ev ef =
        let B = block_bytes P in
        let l : List ℕ = drop (whole m) m ++ padding P (n + length m) in
        let el : take (last_blocks m * B) d ≡ l = ed ∙ ap (λ (x : List ℕ). x ++ padding P (n + length m)) (part_from (whole m) m) in
        let ll : length l ≡ last_blocks m * B = ap length (sym el ∙ ed) ∙ sym (ends_there m n h).1 in
        in_parts P s m v f n (length m / B) (last_blocks m) z (div-mul-le_self (length m) B) ll ev
        (ef ∙ ap₂ (hash_value P v) el (ap (λ (x : ℕ). x / B) (ap length el ∙ ll) ∙ mul-div_cancel (last_blocks m) z))
