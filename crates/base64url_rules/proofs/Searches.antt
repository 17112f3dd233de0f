-- A search through a list, place by place.
use Rattle.std.specs.Prelude.{◌≡◌, Bool, true, false, List, ℕ, ◌≤◌, ◌<◌, length, get_or, position, Some, None}
use Rattle.std.proofs.Common.{arith, lt-ltb, le-ltb}
use Rattle.std.proofs.lemmas.List.Sums.{position_or_len_is}

module _ {X : Type 0} (p : X → Bool) (xs : List X) (d : X) where
  -- none of the first n is what is searched for
  abbrev pub Unmet : ℕ → Type 0
  Unmet n = (k : ℕ) → k < n → p (get_or xs k d) ≡ false

  pub met : (i : ℕ) → Unmet i → i < length xs → p (get_or xs i d) ≡ true → Some i ≡ position p xs
  met i u l e = rw (position_or_len_is p xs i d (omega (arith, l)) u (λ _. e), lt-ltb i (length xs) l)

  pub unmet : {n : ℕ} → Unmet n → length xs ≤ n → None ≡ position p xs
  unmet u m =
      let all : Unmet (length xs) = λ k h. u k (omega (arith, h, m)) in
      rw (position_or_len_is p xs (length xs) d (omega arith) all (λ l. absurd (omega (arith, l))), le-ltb (length xs) (length xs) (omega arith))
