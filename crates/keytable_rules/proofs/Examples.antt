-- Tables on both sides of the rules, computed: the rows of one claim.
use Rattle.std.specs.Prelude.{◌≡◌, refl, true, false, List, [], ◌∷◌, ◌++◌, ℕ, zero, suc, ◌+◌, ◌-◌, ◌*◌, ◌/◌, ◌%◌, ◌≤◌, length, replicate, Some, None}
use Rattle.std.proofs.Common.{arith}
use Rattle.std.proofs.lemmas.List.{length-replicate}
use Rattle.common.specs.Same.{same}
use Rattle.keytable_rules.specs.Key.{Key, find, allows_hs256, allows_format}
use Rattle.keytable_rules.specs.Table.{Wellformed, bad_table, keys, below, listed}

-- the first eight bytes, for numbers below 256
abbrev pub head : ℕ → ℕ → ℕ → List ℕ
head edition n total = 0 ∷ edition ∷ 0 ∷ n ∷ 0 ∷ 0 ∷ 0 ∷ total ∷ []

-- an entry: id offset and length, secret offset and length, algorithms, the last byte; its formats are 1 and 3
abbrev pub entry : ℕ → ℕ → ℕ → ℕ → ℕ → ℕ → List ℕ
entry a m b n algorithms last = 0 ∷ a ∷ 0 ∷ m ∷ 0 ∷ b ∷ 0 ∷ n ∷ algorithms ∷ 5 ∷ 0 ∷ last ∷ []

-- one key; the bytes after its entry are 65
abbrev pub one : ℕ → List ℕ → List ℕ
one total e = head 1 1 total ++ (e ++ replicate (total - 20) 65)

-- two keys, with ids among 65 66 65 66 67 and one secret
abbrev pub two : ℕ → ℕ → ℕ → ℕ → List ℕ
two a m b n = head 1 2 69 ++ (entry a m 37 32 1 0 ++ (entry b n 37 32 0 0 ++ ((65 ∷ 66 ∷ 65 ∷ 66 ∷ 67 ∷ []) ++ replicate 32 7)))

-- an entry with numbers of two bytes; HS256 and format 1
abbrev pub wide_entry : ℕ → ℕ → ℕ → ℕ → List ℕ
wide_entry a m b n = a / 256 ∷ a % 256 ∷ m / 256 ∷ m % 256 ∷ b / 256 ∷ b % 256 ∷ n / 256 ∷ n % 256 ∷ 1 ∷ 1 ∷ 0 ∷ 0 ∷ []

-- k entries from key i on: the id of key i is the byte at first + i, and the 32 bytes at first are every key's secret
unfoldable pub entries_from : ℕ → ℕ → ℕ → List ℕ
entries_from first i zero = []
entries_from first i (suc k) = wide_entry (first + i) 1 first 32 ++ entries_from first (suc i) k

unfoldable pub up_from : ℕ → ℕ → List ℕ
up_from i zero = []
up_from i (suc k) = i ∷ up_from (suc i) k

-- n keys, 32 or more, with the ids 0, 1, .. of one byte each
abbrev pub many : ℕ → List ℕ
many n = 0 ∷ 1 ∷ 0 ∷ n ∷ 0 ∷ 0 ∷ (8 + 13 * n) / 256 ∷ (8 + 13 * n) % 256 ∷ (entries_from (8 + 12 * n) 0 n ++ up_from 0 n)

-- no keys, and n bytes in no area
abbrev pub blank : ℕ → List ℕ
blank n = 0 ∷ 1 ∷ 0 ∷ 0 ∷ 0 ∷ 0 ∷ (8 + n) / 256 ∷ (8 + n) % 256 ∷ replicate n 0

length_blank : (n : ℕ) → length (blank n) ≡ 8 + n
length_blank n = omega (arith, length-replicate {A = ℕ} n 0)

blank_good : (n : ℕ) → 8 + n ≤ 8192 → Wellformed (blank n)
blank_good n h = record {
  long = omega (arith, length_blank n);
  short = omega (arith, length_blank n);
  edition = refl;
  count = omega arith;
  total = omega (arith, length_blank n);
  entries = λ i l. absurd (omega arith);
  ids = λ j l. absurd (omega arith);
}

-- a key with these algorithms and formats
abbrev pub allowing : ℕ → ℕ → Key
allowing algorithms formats = record { id = []; secret = []; algorithms = algorithms; formats = formats }

pub record Examples : Type 0 where
  -- the empty table, whole; one byte more belongs to no area; a wrong edition, a count of 1, a total that isn't the lent length
  pub empty : bad_table (head 1 0 8) ≡ false
  pub no_keys : keys (head 1 0 8) ≡ []
  pub longer : bad_table (head 1 0 9 ++ (0 ∷ [])) ≡ false
  pub edition_2 : bad_table (head 2 0 8) ≡ true
  pub no_entry_lem : bad_table (head 1 1 8) ≡ true
  pub total_9 : bad_table (head 1 0 9) ≡ true
  pub total_8 : bad_table (head 1 0 8 ++ (0 ∷ [])) ≡ true
  -- the shortest with one key: 52 bytes, its id inside its secret; with areas apart, 53
  pub shortest : bad_table (one 52 (entry 20 1 20 32 1 0)) ≡ false
  pub its_key : keys (one 52 (entry 20 1 20 32 1 0)) ≡ record { id = 65 ∷ []; secret = replicate 32 65; algorithms = 1; formats = 5 } ∷ []
  pub apart : bad_table (one 53 (entry 20 1 21 32 1 0)) ≡ false
  pub past_end : bad_table (one 52 (entry 20 1 21 32 1 0)) ≡ true
  pub early_id : bad_table (one 52 (entry 19 1 20 32 1 0)) ≡ true
  pub early_secret : bad_table (one 52 (entry 20 1 19 32 1 0)) ≡ true
  pub no_id : bad_table (one 52 (entry 20 0 20 32 1 0)) ≡ true
  pub id_64 : bad_table (one 84 (entry 20 64 20 32 1 0)) ≡ false
  pub id_65 : bad_table (one 85 (entry 20 65 20 32 1 0)) ≡ true
  pub secret_31 : bad_table (one 52 (entry 20 1 20 31 1 0)) ≡ true
  pub secret_128 : bad_table (one 148 (entry 20 1 20 128 1 0)) ≡ false
  pub secret_129 : bad_table (one 149 (entry 20 1 20 129 1 0)) ≡ true
  pub bit_1 : bad_table (one 52 (entry 20 1 20 32 2 0)) ≡ true
  pub last_byte : bad_table (one 52 (entry 20 1 20 32 1 1)) ≡ true
  -- ids equal in two places or in one; an id that only begins like another is another
  pub equal_ids : bad_table (two 32 2 34 2) ≡ true
  pub one_place : bad_table (two 32 2 32 2) ≡ true
  pub prefix : bad_table (two 32 2 34 3) ≡ false
  pub second : find (65 ∷ 66 ∷ 67 ∷ []) (keys (two 32 2 34 3)) ≡ Some 1
  pub neither : find (65 ∷ []) (keys (two 32 2 34 3)) ≡ None
  -- HS256 by bit 0 of the algorithms; formats 1 and 3 by bits 0 and 2 of the formats, and not 2 or 4; format 8 by bit 7
  pub hs256 : allows_hs256 (allowing 1 0) ≡ true
  pub no_hs256 : allows_hs256 (allowing 0 1) ≡ false
  pub format_1 : allows_format (allowing 0 5) 1 ≡ true
  pub format_2 : allows_format (allowing 0 5) 2 ≡ false
  pub format_3 : allows_format (allowing 0 5) 3 ≡ true
  pub format_4 : allows_format (allowing 0 5) 4 ≡ false
  pub format_8 : allows_format (allowing 0 128) 8 ≡ true
  -- 32 keys, and 33; 8,192 bytes, and 8,193
  pub keys_32 : bad_table (many 32) ≡ false
  pub keys_33 : bad_table (many 33) ≡ true
  pub bytes_8192 : Wellformed (blank 8184)
  pub bytes_8193 : Wellformed (blank 8185) → ⊥

pub examples : Examples
unfolding bad_table keys below listed same find allows_hs256 allows_format entries_from up_from
examples = record {
  empty = refl;
  no_keys = refl;
  longer = refl;
  edition_2 = refl;
  no_entry_lem = refl;
  total_9 = refl;
  total_8 = refl;
  shortest = refl;
  its_key = refl;
  apart = refl;
  past_end = refl;
  early_id = refl;
  early_secret = refl;
  no_id = refl;
  id_64 = refl;
  id_65 = refl;
  secret_31 = refl;
  secret_128 = refl;
  secret_129 = refl;
  bit_1 = refl;
  last_byte = refl;
  equal_ids = refl;
  one_place = refl;
  prefix = refl;
  second = refl;
  neither = refl;
  hs256 = refl;
  no_hs256 = refl;
  format_1 = refl;
  format_2 = refl;
  format_3 = refl;
  format_4 = refl;
  format_8 = refl;
  keys_32 = refl;
  keys_33 = refl;
  bytes_8192 = blank_good 8184 (omega arith);
  bytes_8193 = λ w. omega (arith, length_blank 8185, w.short);
}
