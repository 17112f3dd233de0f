-- The hash value block by block: hashing may go on from a block boundary.
use Rattle.std.specs.Prelude.{◌≡◌}
use Rattle.std.proofs.Math.Path.{refl, ap, ap₂, sym}
use Rattle.std.proofs.Common.{◌∙◌, div-add-mod', arith, length-append, take-append-drop}
use mathlib.Core.List.{List, ◌++◌, append_assoc}
use Prim.Native.Nat.{ℕ, zero, suc, ◌+◌, ◌-◌, ◌*◌, ◌/◌, ◌%◌, ◌≤◌, ◌<◌}
use Rattle.std.proofs.Math.Nat.{add-sub_cancel_left, add-zero, add-suc, add-mul, suc-mul, mul-div_cancel, mul-add-div_right}
use Rattle.std.proofs.Math.ListN.{length, take, drop, length-drop}
use Rattle.std.proofs.lemmas.List.{take-append-le}
use Rattle.std.proofs.Math.Seq.{drop-append-le, drop-append-add, length-take-le}
use Rattle.common.specs.Laid.{part_from}
use Rattle.sha2_rules.specs.Parameters.{Parameters}
use Rattle.sha2_rules.specs.Compression.{compressed}
use Rattle.sha2_rules.specs.Hash.{block_bytes, padding, padded, hash_value, hash, hash_after, word_bytes}

module _ (P : Parameters) where
  -- only the blocks' own bytes count
  pub prefix : (h x y : List ℕ) (n : ℕ) → n * block_bytes P ≤ length x → hash_value P h (x ++ y) n ≡ hash_value P h x n
  unfolding hash_value
  prefix h x y zero p = refl
  prefix h x y (suc n) p =
      let B = block_bytes P in
      let s : suc n * B ≡ n * B + B = suc-mul n B in
      let e : drop (n * B) (x ++ y) ≡ drop (n * B) x ++ y = drop-append-le (n * B) x y (omega arith) in
      let l : B ≤ length (drop (n * B) x) = simp length-drop (omega arith) in
      ap₂ (compressed P) (prefix h x y n (omega arith)) (rw e (take-append-le B (drop (n * B) x) y l))

  -- the blocks of x, then those of y
  pub joined : (h x y : List ℕ) (a b : ℕ) → length x ≡ a * block_bytes P → hash_value P h (x ++ y) (a + b) ≡ hash_value P (hash_value P h x a) y b
  unfolding hash_value
  joined h x y a zero p = rw add-zero (prefix h x y a (omega arith))
  joined h x y a (suc b) p =
      let B = block_bytes P in
      let f : (a + b) * B ≡ length x + b * B = add-mul a b B ∙ rw p in
      let g : drop ((a + b) * B) (x ++ y) ≡ drop (b * B) y = rw f (drop-append-add x y (b * B)) in
      rw add-suc (ap₂ (compressed P) (joined h x y a b p) (ap (take B) g))

  -- n blocks more, after q of them, as the code lends them
  pub more_blocks : (h m : List ℕ) (q n at : ℕ) {v r : List ℕ} → q * block_bytes P ≡ at → at + n * block_bytes P ≤ length m → v ≡ hash_value P h m q
      → r ≡ hash_value P v (take (at + n * block_bytes P - at) (drop at m)) n → r ≡ hash_value P h m (q + n)
  more_blocks h m q n at {v} p l e f =
      let B = block_bytes P in
      let x = take at m in
      let y = drop at m in
      let lx : length x ≡ q * B = length-take-le at m (omega arith) ∙ sym p in
      let parts : m ≡ x ++ y = sym (take-append-drop at m) in
      let value : v ≡ hash_value P h x q = e ∙ ap (λ (z : List ℕ). hash_value P h z q) parts ∙ prefix h x y q (omega arith) in
      let z = take (n * B) y in
      let ly : n * B ≤ length y = simp length-drop (omega arith) in
      let front : hash_value P v z n ≡ hash_value P v y n =
      sym (ap (λ (u : List ℕ). hash_value P v u n) (sym (take-append-drop (n * B) y)) ∙ prefix v z (drop (n * B) y) n (rw (length-take-le (n * B) y ly) (omega arith))) in
      f ∙ ap (λ (k : ℕ). hash_value P v (take k y) n) (add-sub_cancel_left at (n * B)) ∙ front ∙ ap (λ (u : List ℕ). hash_value P u y n) value
      ∙ sym (joined h x y q n lx) ∙ ap (λ (u : List ℕ). hash_value P h u (q + n)) (sym parts)

  -- all blocks in two parts, the first of n bytes, as the code lends them
  pub two_parts : (h m : List ℕ) (n : ℕ) {v r : List ℕ} → zero < block_bytes P → n ≤ length m → n % block_bytes P ≡ 0
      → v ≡ hash_value P h (take n m) (length (take n m) / block_bytes P)
      → r ≡ hash_value P v (take (length m - n) (drop n m)) (length (take (length m - n) (drop n m)) / block_bytes P)
      → r ≡ hash_value P h m (length m / block_bytes P)
  two_parts h m n {v} z l d ev er =
      let B = block_bytes P in
      let a = n / B in
      let x = take n m in
      let y = drop n m in
      let whole : n ≡ a * B = sym (div-add-mod' n B) ∙ rw (d, add-zero) in
      let lx : length x ≡ n = length-take-le n m l in
      let ly : length m ≡ n + length y = omega (arith, length-drop n m) in
      let blocks : length m / B ≡ a + length y / B = ap (λ (k : ℕ). k / B) (ly ∙ ap (λ (k : ℕ). k + length y) whole) ∙ mul-add-div_right z a (length y) in
      er ∙ ap (λ (u : List ℕ). hash_value P v u (length u / B)) (part_from n m)
      ∙ ap (λ (u : List ℕ). hash_value P u y (length y / B)) (ev ∙ ap (λ (k : ℕ). hash_value P h x (k / B)) lx)
      ∙ sym (joined h x y a (length y / B) (lx ∙ whole)) ∙ ap₂ (hash_value P h) (take-append-drop n m) (sym blocks)

  -- the digest in two parts: from the value v after q blocks of m, and the value f after the b blocks that are the rest of m and the padding
  pub in_parts : (h m v f : List ℕ) (n q b : ℕ) → zero < block_bytes P → q * block_bytes P ≤ length m
      → length (drop (q * block_bytes P) m ++ padding P (n + length m)) ≡ b * block_bytes P
      → v ≡ hash_value P h m q → f ≡ hash_value P v (drop (q * block_bytes P) m ++ padding P (n + length m)) b
      → word_bytes (P.w / 8) f P.digest_words ≡ hash_after P h n m
  unfolding hash_after
  in_parts h m v f n q b z lm ll ev ef =
      let B = block_bytes P in
      let x = take (q * B) m in
      let l = drop (q * B) m ++ padding P (n + length m) in
      let lx : length x ≡ q * B = length-take-le (q * B) m lm in
      let split : m ≡ x ++ drop (q * B) m = sym (take-append-drop (q * B) m) in
      let ev' : v ≡ hash_value P h x q = ev ∙ ap (λ (y : List ℕ). hash_value P h y q) split ∙ prefix h x (drop (q * B) m) q (omega arith) in
      let parts : m ++ padding P (n + length m) ≡ x ++ l =
      ap (λ (y : List ℕ). y ++ padding P (n + length m)) split ∙ append_assoc x (drop (q * B) m) _ in
      let blocks : length (x ++ l) / B ≡ q + b = ap (λ (k : ℕ). k / B) (length-append x l ∙ rw (ll, lx, ← add-mul)) ∙ mul-div_cancel (q + b) z in
      ap (λ (y : List ℕ). word_bytes (P.w / 8) y P.digest_words)
      (ef ∙ ap (λ (y : List ℕ). hash_value P y l b) ev' ∙ sym (joined h x l q b lx)
      ∙ ap (hash_value P h (x ++ l)) (sym blocks) ∙ ap (λ (y : List ℕ). hash_value P h y (length y / B)) (sym parts))

  -- after the whole blocks p it is the hash of p and then m
  pub after_blocks : (p m : List ℕ) → zero < block_bytes P → length p % block_bytes P ≡ 0
      → hash_after P (hash_value P P.H0 p (length p / block_bytes P)) (length p) m ≡ hash P (p ++ m)
  unfolding hash padded hash_after
  after_blocks p m z h =
      let B = block_bytes P in
      let a = length p / B in
      let l = m ++ padding P (length p + length m) in
      let lp : length p ≡ a * B = sym (div-add-mod' (length p) B) ∙ rw (h, add-zero) in
      let parts : (p ++ m) ++ padding P (length (p ++ m)) ≡ p ++ l =
      ap (λ (n : ℕ). (p ++ m) ++ padding P n) (length-append p m) ∙ append_assoc p m _ in
      let blocks : length (p ++ l) / B ≡ a + length l / B = ap (λ (k : ℕ). k / B) (length-append p l ∙ ap (λ (k : ℕ). k + length l) lp) ∙ mul-add-div_right z a (length l) in
      ap (λ (y : List ℕ). word_bytes (P.w / 8) y P.digest_words)
      (sym (joined P.H0 p l a (length l / B) lp)
      ∙ ap (hash_value P P.H0 (p ++ l)) (sym blocks) ∙ ap (λ (y : List ℕ). hash_value P P.H0 y (length y / B)) (sym parts))
