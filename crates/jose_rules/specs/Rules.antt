-- The conditions of answers 9 to 14, over a reading's members and what it is judged by, each in the specification's words under its number.
-- ms: all the members that are judged; us: those of them that stand in an unprotected header, of which a compact token has none.
use Rattle.std.specs.Prelude.{◌≡◌, ◌⊎◌, false, List, [], ◌∷◌, ◌++◌, ℕ, ℤ, pos, nat_abs, ◌<ℤ◌}
use Rattle.common.specs.First.{Rule, ◌on◌, Decides}
use Rattle.json_grammar_rules.specs.Value.{Value, Members}
use Rattle.json_grammar_rules.specs.Twice.{Repeated}
use Rattle.json_characters.specs.Utf8.{utf8}
use Rattle.keytable_rules.specs.Key.{Key, key, Named, allows_hs256, allows_format}
use Rattle.keytable_rules.specs.Table.{keys}
use Rattle.jose_rules.specs.declared.Choice.{Choice}
use Rattle.jose_rules.specs.Names.{alg, kid, typ, cty, crit, fmt, extensions, HS256}
use Rattle.jose_rules.specs.Members.{Has, Lacks, string, strings, integer, Says, Wrong, Some}

-- What a reading is judged by: the table's keys.
pub record Terms : Type 0 where
  pub keys : List Key

-- those of the table T
abbrev pub terms_of : List ℕ → Terms
terms_of T = record { keys = keys T }

-- 9: `alg` is missing, or a known member is of the wrong kind
abbrev pub MissingOrWrong : Members → Type 0
MissingOrWrong ms =
    -- "`alg` is missing, or a member with a meaning isn't what it must be": `alg` a string;
    Lacks alg ms ⊎ Wrong string alg ms
    -- `kid`, `typ` and `cty`, where they stand, strings;
    ⊎ Wrong string kid ms ⊎ Wrong string typ ms ⊎ Wrong string cty ms
    -- `crit` "an array in which everything is a string";
    ⊎ Wrong strings crit ms
    -- `fmt` "a number from -2^63 to 2^63 - 1, spelled without `.`, `e` or `E`"
    ⊎ Wrong integer fmt ms

-- `crit` lists the name n
abbrev pub Listed : List ℕ → Members → Type 0
Listed n ms = (ns : List (List ℕ)) × Says strings crit ms ns × Some (λ m. m ≡ n) ns

-- 10: "`crit` breaks its rules, or `fmt` stands there and isn't listed"
abbrev pub CriticalBroken : Members → Members → Type 0
CriticalBroken ms us =
    ((ns : List (List ℕ)) × Says strings crit ms ns
    -- "`crit`, where it stands, lists at least one name, none of them twice,
    × ((ns ≡ []) ⊎ Repeated ns
    -- only names that this library understands (that is `fmt` alone), and only members that are there.
    ⊎ Some (λ n. Some (λ e. n ≡ e) extensions → ⊥) ns ⊎ Some (λ n. Lacks n ms) ns))
    -- A `fmt` that no `crit` lists is a fault."
    ⊎ Some (λ e. (v : Value) × Has e v ms × (Listed e ms → ⊥)) extensions
    -- RFC 7515 section 4.1.11: it "MUST occur only within the JWS Protected Header"
    ⊎ ((v : Value) × Has crit v us)

-- key i is the chosen one: "The key is the one whose id is the UTF-8 of `kid`. Without `kid` there is none"
abbrev pub Chosen : Members → List Key → ℕ → Type 0
Chosen ms ks i = (s : List ℕ) × Says string kid ms s × Named (utf8 s) ks i

-- the chosen key is such that P
abbrev pub ChosenKey : Members → List Key → (Key → Type 0) → Type 0
ChosenKey ms ks P = (i : ℕ) × Chosen ms ks i × P (key ks i)

-- "the payload's format; 1 if missing"
abbrev pub Format : Members → ℤ → Type 0
Format ms z = Says integer fmt ms z ⊎ (Lacks fmt ms × (z ≡ pos 1))

-- "the key doesn't allow the format, or there is no such format": "Formats are 1 to 8." (For these `nat_abs z` is z.)
abbrev pub Lacking : Key → ℤ → Type 0
Lacking k z = (z <ℤ pos 1) ⊎ (pos 8 <ℤ z) ⊎ (allows_format k (nat_abs z) ≡ false)

-- THE RULES in their order: on the known members, ..
abbrev pub known_rules : Members → Members → List Rule
known_rules ms us =
    9 on MissingOrWrong ms
    ∷ 10 on CriticalBroken ms us
    -- "`alg` is another algorithm"
    ∷ 11 on ((s : List ℕ) × Says string alg ms s × (s ≡ HS256 → ⊥))
    ∷ []

-- .. and on the key
abbrev pub key_rules : Members → Terms → List Rule
key_rules ms q =
    -- "`kid` is missing, or no key has this id"
    12 on ((i : ℕ) → Chosen ms q.keys i → ⊥)
    -- "the key doesn't allow HS256"
    ∷ 13 on ChosenKey ms q.keys (λ k. allows_hs256 k ≡ false)
    -- "the key doesn't allow the format, or there is no such format"
    ∷ 14 on ChosenKey ms q.keys (λ k. (z : ℤ) × Format ms z × Lacking k z)
    ∷ []

abbrev pub choosing : Members → Members → Terms → List Rule
choosing ms us q = known_rules ms us ++ key_rules ms q

-- WHAT IS CHOSEN: the key's index from 0, whether `kid` is there, and the format
pub record Chooses (ms : Members) (ks : List Key) (c : Choice) : Type 0 where
  pub key_is : Chosen ms ks c.key_index
  pub kid_is : Decides ((v : Value) × Has kid v ms) c.kid_present
  pub format_is : Format ms (pos c.format)
