-- A function on groups, n numbers to m, that is computed group after group into a buffer, and then a rest. One law serves decoding and encoding.
use Rattle.std.specs.Prelude.{◌≡◌, List, [], ◌++◌, ℕ, zero, suc, ◌+◌, ◌-◌, ◌*◌, ◌/◌, ◌%◌, ◌<◌, ◌≤◌, length, get_or, take, drop}
use Rattle.std.specs.Simd.{first_chunks}
use Rattle.std.proofs.Math.Nat.{suc-mul, zero-mul}
use Rattle.std.proofs.Common.{ap, sym, ◌∙◌, arith, take-append-drop, length-drop, drop-drop, take-add, length-take-le}
use Rattle.std.proofs.lemmas.List.Edits.{sets}
use borrow.Rule.Slice.PartMut.{put_mid}
use Rattle.common.specs.Buffer.{laid}
use Rattle.common.specs.Laid.{part_from, grown, grown_part, laid_part}
use Rattle.base64url_rules.specs.Base64url.{encode, decode}
use Rattle.base64url_rules.proofs.GroupLaws.{decode_append, encode_append}
use Rattle.base64url_rules.proofs.LengthLaws.{length_decode, length_encode, encoded_length_lem}
use Rattle.base64url_rules.proofs.Listed.{as_entries}
use Rattle.base64url_rules.proofs.Tables.{entries}

-- f gives m numbers for each n; and for whole groups and what follows them, what it gives for each
pub record Grouping (f : List ℕ → List ℕ) (n m : ℕ) : Type 0 where
  pub append : (s t : List ℕ) → length s % n ≡ 0 → f (s ++ t) ≡ f s ++ f t
  pub size : (s : List ℕ) → length s % n ≡ 0 → length (f s) ≡ length s / n * m

pub decode_grouping : Grouping decode 4 3
decode_grouping = record { append = decode_append; size = λ s h. omega (arith, length_decode s) }

pub encode_grouping : Grouping encode 3 4
encode_grouping = record { append = encode_append; size = λ s h. omega (arith, length_encode s, encoded_length_lem (length s)) }

-- the chunk of k numbers that stands there, among n of a list
pub chunk_at : (k n i : ℕ) (s : List ℕ) {chunks : List (List ℕ)} → chunks ≡ first_chunks k n s → i < n → get_or chunks i [] ≡ take k (drop (i * k) s)
chunk_at k n i s e h = ap (λ (l : List (List ℕ)). get_or l i []) e ∙ go n i s h
  where
    go : (n i : ℕ) (s : List ℕ) → i < n → get_or (first_chunks k n s) i [] ≡ take k (drop (i * k) s)
    go zero i s h = absurd (omega arith)
    go (suc n) zero s h = rw zero-mul
    go (suc n) (suc i) s h =
        let next : suc i * k ≡ k + i * k = omega (arith, suc-mul i k) in
        go n i (drop k s) (omega arith) ∙ rw next (ap (take k) (drop-drop (i * k) k s))

-- the group of n numbers from a on, by the part of k numbers that the code takes there
abbrev pub group_at : List ℕ → ℕ → ℕ → ℕ → List ℕ
group_at s a k n = entries (λ i. get_or (take k (drop a s)) i 0) 0 n

-- what f gives for the first a numbers, whole groups of n, stands at the front of the buffer, b numbers
module _ {f : List ℕ → List ℕ} {n m : ℕ} (g : Grouping f n m) (s out₀ : List ℕ) (a b : ℕ) (groups : a % n ≡ 0) (place : a / n * m ≡ b) (within : a ≤ length s) where
  front : length (take a s) ≡ a
  front = length-take-le a s within

  split : (t : List ℕ) → f (take a s ++ t) ≡ f (take a s) ++ f t
  split t = g.append (take a s) t (rw front groups)

  size : length (f (take a s)) ≡ b
  size = g.size (take a s) (rw front groups) ∙ rw front place

  -- a part more, stored behind
  pub part_more : (k end : ℕ) {out vs : List ℕ} → end ≡ a + k → b + length vs ≤ length out₀ → out ≡ laid (f (take a s)) out₀ → f (take k (drop a s)) ≡ vs
      → sets out b vs ≡ laid (f (take end s)) out₀
  part_more k end {out} {vs} d room w v = rw (d, take-add a k s) (grown f (take a s) (take k (drop a s)) out₀ b (split _) size out vs w v room)

  -- a group more, number by number
  pub group_more : (k end : ℕ) {out vs : List ℕ} → k ≡ n → end ≡ a + n → a + n ≤ length s → b + length vs ≤ length out₀
      → out ≡ laid (f (take a s)) out₀ → f (group_at s a k n) ≡ vs → sets out b vs ≡ laid (f (take end s)) out₀
  group_more k end e d h room w v =
      let long : length (take k (drop a s)) ≡ n = length-take-le k (drop a s) (rw (length-drop a s) (omega arith)) ∙ e in
      part_more k end (omega arith) room w (ap f (sym (as_entries (take k (drop a s)) n long)) ∙ v)

  -- the rest, written into the part behind
  pub then_rest : (out₁ out₂ : List ℕ) → out₁ ≡ laid (f (take a s)) out₀ → out₂ ≡ laid (f (take (length s - a) (drop a s))) (take (length out₁ - b) (drop b out₁))
      → put_mid b (length out₁ - b) out₁ out₂ ≡ laid (f s) out₀
  then_rest out₁ out₂ d e =
      grown_part f (take a s) (drop a s) out₀ b (split (drop a s)) size out₁ out₂ d (rw (part_from a s) at e) ∙ ap (λ (l : List ℕ). laid (f l) out₀) (take-append-drop a s)
