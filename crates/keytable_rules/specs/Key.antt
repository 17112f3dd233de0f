-- What a key table means, whatever its edition: a list of keys, what a key allows, and which key an id names.
use Rattle.std.specs.Prelude.{◌≡◌, Bool, cond, List, [], ◌∷◌, ℕ, suc, ◌-◌, ◌/◌, ◌%◌, ◌^◌, ◌<◌, eqb, length, get_or, Option, Some, None}
use Rattle.common.specs.Same.{same}

pub record Key : Type 0 where
  pub id : List ℕ
  pub secret : List ℕ
  pub algorithms : ℕ
  pub formats : ℕ

-- bit b of x is set
abbrev pub bit : ℕ → ℕ → Bool
bit x b = eqb (x / 2 ^ b % 2) 1

-- algorithms: "1 allows HS256, 0 allows none"
unfoldable pub allows_hs256 : Key → Bool
allows_hs256 k = bit k.algorithms 0

-- formats: "bit 0 allows format 1, and so on up to bit 7 for format 8"
unfoldable pub allows_format : Key → ℕ → Bool
allows_format k f = bit k.formats (f - 1)

-- key i of a list, from 0; past the last, a key of nothing
unfoldable pub no_key : Key
no_key = record { id = []; secret = []; algorithms = 0; formats = 0 }

abbrev pub key : List Key → ℕ → Key
key ks i = get_or ks i no_key

-- "No two ids are the same bytes."
abbrev pub Distinct : List Key → Type 0
Distinct ks = (i j : ℕ) → i < j → j < length ks → (key ks i).id ≡ (key ks j).id → ⊥

-- key i of the list has the id
pub record Named (id : List ℕ) (ks : List Key) (i : ℕ) : Type 0 where
  pub within : i < length ks
  pub is : (key ks i).id ≡ id

-- the index of the key that has the id, or nothing where none has. (Of distinct ids the first is the only one: `find_is` of KeyLaws)
pub data Finds (id : List ℕ) (ks : List Key) : Option ℕ → Type 0 where
  first : {i : ℕ} → Named id ks i → ((j : ℕ) → j < i → (key ks j).id ≡ id → ⊥) → Finds id ks (Some i)
  none : ((j : ℕ) → Named id ks j → ⊥) → Finds id ks None

-- the same, computed: `finds` of KeyLaws
abbrev pub one_on : Option ℕ → Option ℕ
one_on (Some i) = Some (suc i)
one_on None = None

unfoldable pub find : List ℕ → List Key → Option ℕ
find id [] = None
find id (k ∷ ks) = cond (same k.id id) (Some 0) (one_on (find id ks))
