-- The key table, edition 1: when its bytes are in order, and the list of keys that they mean. Nothing else in the library looks at offsets.
-- Words in quotation marks are those of the specification, "Key table". "Each number is unsigned, its high byte first."
use Rattle.std.specs.Prelude.{◌≡◌, Bool, true, not, ◌&&◌, List, [], ◌∷◌, ℕ, zero, suc, ◌+◌, ◌*◌, ◌≤◌, ◌<◌, eqb, leb, ltb, length, get_or, take, drop}
use Rattle.common.specs.First.{Rule, ◌on◌, Test, ◌when◌}
use Rattle.common.specs.BigEndian.{number2, number4}
use Rattle.common.specs.Same.{same}
use Rattle.keytable_rules.specs.Key.{Key}

-- SIZES AND LIMITS

-- the bytes before the entries, and those of an entry
abbrev pub head_size : ℕ
head_size = 8

abbrev pub entry_size : ℕ
entry_size = 12

abbrev pub table_least : ℕ
table_least = 8

abbrev pub table_most : ℕ
table_most = 8192

abbrev pub keys_most : ℕ
keys_most = 32

abbrev pub id_least : ℕ
id_least = 1

abbrev pub id_most : ℕ
id_most = 64

abbrev pub secret_least : ℕ
secret_least = 32

abbrev pub secret_most : ℕ
secret_most = 128

-- bit 0 alone may be set
abbrev pub algorithms_end : ℕ
algorithms_end = 2

-- WHERE THINGS STAND

-- bytes 0, 1: "edition"; 2, 3: "n, how many keys"; 4 to 7: "length of the table"
abbrev pub edition_of : List ℕ → ℕ
edition_of T = number2 T 0

abbrev pub count_of : List ℕ → ℕ
count_of T = number2 T 2

abbrev pub total_of : List ℕ → ℕ
total_of T = number4 T 4

-- "from 8 on": "n entries of 12 bytes". Where entry i begins, and for i = n where the entries end
abbrev pub entry_place : ℕ → ℕ
entry_place i = head_size + entry_size * i

-- an area of the table: its offset and its length, which stand at `at`; and its bytes
pub record Area : Type 0 where
  pub offset : ℕ
  pub size : ℕ

abbrev pub area_at : List ℕ → ℕ → Area
area_at T at = record { offset = number2 T at; size = number2 T (at + 2) }

abbrev pub part : List ℕ → Area → List ℕ
part T a = take a.size (drop a.offset T)

-- bytes of an entry: 0, 1 and 2, 3 "where the id begins, and its length"; 4, 5 and 6, 7 "where the secret begins, and its length"; 8 "algorithms"; 9 "formats"; 10, 11 "zero"
abbrev pub id_area : List ℕ → ℕ → Area
id_area T i = area_at T (entry_place i)

abbrev pub secret_area : List ℕ → ℕ → Area
secret_area T i = area_at T (entry_place i + 4)

abbrev pub algorithms_of : List ℕ → ℕ → ℕ
algorithms_of T i = get_or T (entry_place i + 8) 0

abbrev pub formats_of : List ℕ → ℕ → ℕ
formats_of T i = get_or T (entry_place i + 9) 0

abbrev pub zeros_of : List ℕ → ℕ → ℕ
zeros_of T i = number2 T (entry_place i + 10)

abbrev pub id_of : List ℕ → ℕ → List ℕ
id_of T i = part T (id_area T i)

-- A TABLE IN ORDER

-- lengths "1 to 64" of an id, "32 to 128" of a secret; "Each id and each secret begins behind the entries and ends within the table."
pub record Placed (T : List ℕ) (least most : ℕ) (a : Area) : Type 0 where
  pub long : least ≤ a.size
  pub short : a.size ≤ most
  pub begins : entry_place (count_of T) ≤ a.offset
  pub ends : a.offset + a.size ≤ length T

pub record GoodEntry (T : List ℕ) (i : ℕ) : Type 0 where
  pub id : Placed T id_least id_most (id_area T i)
  pub secret : Placed T secret_least secret_most (secret_area T i)
  pub algorithms : algorithms_of T i < algorithms_end
  pub zeros : zeros_of T i ≡ 0

abbrev pub GoodEntries : List ℕ → ℕ → Type 0
GoodEntries T n = (i : ℕ) → i < n → GoodEntry T i

-- id j is none of those before it
abbrev pub NewId : List ℕ → ℕ → Type 0
NewId T j = (i : ℕ) → i < j → id_of T i ≡ id_of T j → ⊥

-- "A table that differs from this in anything is bad." (The areas lie behind the entries and within the table, so the entries lie within it too: `room` of TableLaws)
pub record Wellformed (T : List ℕ) : Type 0 where
  pub long : table_least ≤ length T
  pub short : length T ≤ table_most
  pub edition : edition_of T ≡ 1
  pub count : count_of T ≤ keys_most
  pub total : total_of T ≡ length T
  pub entries : GoodEntries T (count_of T)
  pub ids : (j : ℕ) → j < count_of T → NewId T j

-- THE SAME AS A TEST: `decides_bad` of TableLaws says that they agree

-- each number below n passes the test
unfoldable pub below : ℕ → (ℕ → Bool) → Bool
below zero t = true
below (suc n) t = below n t && t n

abbrev pub is_placed : List ℕ → ℕ → ℕ → Area → Bool
is_placed T least most a =
    leb least a.size
    && leb a.size most
    && leb (entry_place (count_of T)) a.offset
    && leb (a.offset + a.size) (length T)

abbrev pub is_good_entry : List ℕ → ℕ → Bool
is_good_entry T i =
    is_placed T id_least id_most (id_area T i)
    && is_placed T secret_least secret_most (secret_area T i)
    && ltb (algorithms_of T i) algorithms_end
    && eqb (zeros_of T i) 0

abbrev pub is_new_id : List ℕ → ℕ → Bool
is_new_id T j = below j (λ i. not (same (id_of T i) (id_of T j)))

abbrev pub is_wellformed : List ℕ → Bool
is_wellformed T =
    leb table_least (length T)
    && leb (length T) table_most
    && eqb (edition_of T) 1
    && leb (count_of T) keys_most
    && eqb (total_of T) (length T)
    && below (count_of T) (is_good_entry T)
    && below (count_of T) (is_new_id T)

unfoldable pub bad_table : List ℕ → Bool
bad_table T = not (is_wellformed T)

-- 2: "the table is bad"
abbrev pub table_rule : List ℕ → Rule
table_rule T = 2 on (Wellformed T → ⊥)

abbrev pub table_test : List ℕ → Test
table_test T = 2 when bad_table T

-- ITS MEANING, used where the table isn't bad

abbrev pub key_of : List ℕ → ℕ → Key
key_of T i = record { id = id_of T i; secret = part T (secret_area T i); algorithms = algorithms_of T i; formats = formats_of T i }

-- f 0, f 1, .. f (n - 1)
unfoldable pub listed : {A : Type 0} → ℕ → (ℕ → A) → List A
listed zero f = []
listed (suc n) f = f 0 ∷ listed n (λ i. f (suc i))

unfoldable pub keys : List ℕ → List Key
keys T = listed (count_of T) (key_of T)
