-- The hash value, one block at a time, and its bytes, one word at a time.
use Rattle.std.specs.Prelude.{◌≡◌, List, ℕ, suc, ◌+◌, ◌-◌, ◌*◌, ◌≤◌, length, get_or, take, drop}
use Rattle.std.proofs.Common.{ap, ◌∙◌, suc-mul, add-one}
use Rattle.std.proofs.Math.Nat.{add-sub_cancel_left}
use Rattle.std.proofs.Math.Seq.{paste}
use Rattle.common.specs.BigEndian.{big_endian}
use Rattle.common.specs.BigEndianLaws.{length_big_endian}
use Rattle.sha2_rules.specs.Parameters.{Parameters}
use Rattle.sha2_rules.specs.Compression.{compressed}
use Rattle.sha2_rules.specs.Hash.{block_bytes, hash_value, word_bytes}
use Rattle.sha2_rules.proofs.ListLaws.{copied}

-- one block more, after q of them
pub next_block : (P : Parameters) (h m : List ℕ) (q : ℕ) {v r : List ℕ} → v ≡ hash_value P h m q
    → r ≡ compressed P v (take (block_bytes P) (drop (q * block_bytes P) m)) → r ≡ hash_value P h m (suc q)
unfolding hash_value
next_block P h m q e f = f ∙ rw e

-- .. at the byte `at`, as the code lends it
pub one_block : (P : Parameters) (h m : List ℕ) (at q : ℕ) {v r : List ℕ} → q * block_bytes P ≡ at → v ≡ hash_value P h m q
    → r ≡ compressed P v (take (at + block_bytes P - at) (drop at m)) → r ≡ hash_value P h m (suc q)
one_block P h m at q p e f = next_block P h m q e (f ∙ rw (p, add-sub_cancel_left))

-- one word of k bytes more
pub one_word_bytes : (k : ℕ) (h b d d₂ : List ℕ) (i : ℕ) → i * k ≤ length d → take (i * k) d ≡ word_bytes k h i → b ≡ big_endian k (get_or h i 0)
    → d₂ ≡ paste d (i * k) b (length b) → take ((i + 1) * k) d₂ ≡ word_bytes k h (i + 1)
unfolding word_bytes
one_word_bytes k h b d d₂ i l e eb ed =
    let lb : length b ≡ k = ap length eb ∙ length_big_endian k (get_or h i 0) in
    rw (ed, lb, add-one, suc-mul) (copied (word_bytes k h i) d b (i * k) k lb l e ∙ rw eb)
