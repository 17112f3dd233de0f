-- The schedules of eight blocks side by side: word t of block l stands at place 8 t + l.
use Rattle.std.specs.Prelude.{◌≡◌, List, ℕ, ◌-◌, ◌*◌, ◌/◌, ◌%◌, ◌<◌, get_or, take, drop}
use Rattle.sha2_rules.specs.Parameters.{Parameters}
use Rattle.sha2_rules.specs.Compression.{◌⊞◌, schedule}
use Rattle.sha2_rules.specs.Hash.{block_bytes}

module _ (P : Parameters) where
  -- block l of the bytes b
  abbrev pub block_of : List ℕ → ℕ → List ℕ
  block_of b l = take (block_bytes P) (drop (l * block_bytes P) b)

  -- the word at place i
  abbrev pub woven_word : List ℕ → ℕ → ℕ
  woven_word b i = get_or (schedule P (block_of b (i % 8)) P.round_count) (i / 8) 0

  -- the first n words of an array are those
  abbrev pub Woven : List ℕ → List ℕ → ℕ → Type 0
  Woven b w n = (i : ℕ) → i < n → get_or w i 0 ≡ woven_word b i

  -- a later word, of the words before it: those of one block stand eight places apart
  abbrev pub later_woven : List ℕ → ℕ → ℕ
  later_woven w i = ◌⊞◌ P (◌⊞◌ P (◌⊞◌ P (P.sigma1 (get_or w (i - 16) 0)) (get_or w (i - 56) 0)) (P.sigma0 (get_or w (i - 120) 0))) (get_or w (i - 128) 0)
