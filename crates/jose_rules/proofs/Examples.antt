-- The definitions, run on readings: each answer from 9 to 14, and what is chosen where none is given.
use Rattle.std.specs.Prelude.{◌≡◌, refl, true, List, [], ◌∷◌, ℕ}
use Prim.Native.String.{String}
use Rattle.common.specs.First.{first}
use Rattle.common.specs.Ranges.{within, is_digit}
use Rattle.json_grammar_rules.specs.Value.{Value, Values, Members, string_v, number_v, true_v, array_v, object_v, vnil, vcons, mnil, mcons}
use Rattle.json_characters.specs.Utf8.{utf8, octets}
use Rattle.decimal_rules.specs.Integer.{integer_of, all_digits, after}
use Rattle.common.specs.Same.{same}
use Rattle.keytable_rules.specs.Key.{Key, find, allows_hs256, allows_format}
use Rattle.common.specs.Ascii.{ascii}
use Rattle.jose_rules.specs.Names.{alg, kid, typ, cty, crit, fmt, HS256}
use Rattle.jose_rules.specs.Members.{strings_in}
use Rattle.jose_rules.specs.Header.{nowhere}
use Rattle.jose_rules.specs.Facts.{lookup, names_from, alg_fact, kid_fact, text_fact, crit_fact, fmt_fact, facts_of, no_facts, lacking, missing_or_wrong, critical_broken, choosing_tests, choice_by}

-- "name": value, before the members ms
abbrev pub ◌∶◌then◌ : String → Value → Members → Members
n ∶ v then ms = mcons (ascii n) v ms

infixr 60 ◌∶◌then◌
abbrev pub text : String → Value
text s = string_v (ascii s)

abbrev pub number : String → Value
number s = number_v (ascii s)

abbrev pub texts : List String → Values
texts [] = vnil
texts (s ∷ ss) = vcons (text s) (texts ss)

abbrev pub array : List String → Value
array ss = array_v (texts ss)

-- a key that allows HS256 and format 1; one that allows HS256 and formats 2 and 8; one that allows format 1 alone
abbrev pub hs1 : Key
hs1 = record { id = ascii "cellar 1"; secret = []; algorithms = 1; formats = 0x01 }

abbrev pub hs28 : Key
hs28 = record { id = ascii "cellar 2"; secret = []; algorithms = 1; formats = 0x82 }

abbrev pub none1 : Key
none1 = record { id = ascii "cellar 3"; secret = []; algorithms = 0; formats = 0x01 }

abbrev pub Answers : Members → List Key → ℕ → Type 0
Answers ms ks n = first (choosing_tests (facts_of ms ks) no_facts ks) ≡ n

abbrev pub Gives : Members → List Key → ℕ → ℕ → Type 0
Gives ms ks i f = Answers ms ks 0 × (choice_by (facts_of ms ks) nowhere nowhere ≡ record { key_index = i; kid_present = true; format = f; typ = nowhere; cty = nowhere })

pub examples :
    Gives ("alg" ∶ text "HS256" then "kid" ∶ text "cellar 1" then mnil) (hs1 ∷ []) 0 1
    × Gives ("kid" ∶ text "cellar 2" then "crit" ∶ array ("fmt" ∷ []) then "fmt" ∶ number "8" then "alg" ∶ text "HS256" then mnil) (hs1 ∷ hs28 ∷ []) 1 8
    -- `jku` chooses nothing
    × Gives ("jku" ∶ text "cellar 2" then "alg" ∶ text "HS256" then "kid" ∶ text "cellar 1" then mnil) (hs1 ∷ hs28 ∷ []) 0 1
    -- `alg` is missing, or a known member is of the wrong kind
    × Answers mnil (hs1 ∷ []) 9
    × Answers ("alg" ∶ true_v then mnil) (hs1 ∷ []) 9
    × Answers ("alg" ∶ text "HS256" then "kid" ∶ number "1" then mnil) (hs1 ∷ []) 9
    × Answers ("alg" ∶ text "HS256" then "crit" ∶ array_v (vcons (text "fmt") (vcons true_v vnil)) then mnil) (hs1 ∷ []) 9
    × Answers ("alg" ∶ text "HS256" then "crit" ∶ object_v mnil then mnil) (hs1 ∷ []) 9
    × Answers ("alg" ∶ text "HS256" then "crit" ∶ array ("fmt" ∷ []) then "fmt" ∶ text "1" then mnil) (hs1 ∷ []) 9
    × Answers ("alg" ∶ text "HS256" then "crit" ∶ array ("fmt" ∷ []) then "fmt" ∶ number "1e0" then mnil) (hs1 ∷ []) 9
    × Answers ("alg" ∶ text "HS256" then "crit" ∶ array ("fmt" ∷ []) then "fmt" ∶ number "9223372036854775808" then mnil) (hs1 ∷ []) 9
    -- critical rule broken
    × Answers ("alg" ∶ text "HS256" then "fmt" ∶ number "2" then mnil) (hs1 ∷ []) 10
    × Answers ("alg" ∶ text "HS256" then "crit" ∶ array [] then mnil) (hs1 ∷ []) 10
    × Answers ("alg" ∶ text "HS256" then "crit" ∶ array ("fmt" ∷ []) then mnil) (hs1 ∷ []) 10
    × Answers ("alg" ∶ text "HS256" then "crit" ∶ array ("fmt" ∷ "fmt" ∷ []) then "fmt" ∶ number "1" then mnil) (hs1 ∷ []) 10
    × Answers ("alg" ∶ text "HS256" then "crit" ∶ array ("jku" ∷ []) then "jku" ∶ true_v then mnil) (hs1 ∷ []) 10
    -- alg isn't `HS256`
    × Answers ("alg" ∶ text "HS512" then mnil) (hs1 ∷ []) 11
    -- no key found: `kid` is missing, whichever keys there are, or no key has this id
    × Answers ("alg" ∶ text "HS256" then mnil) [] 12
    × Answers ("alg" ∶ text "HS256" then mnil) (hs1 ∷ []) 12
    × Answers ("alg" ∶ text "HS256" then mnil) (hs1 ∷ hs28 ∷ []) 12
    × Answers ("alg" ∶ text "HS256" then "jku" ∶ text "cellar 1" then mnil) (hs1 ∷ []) 12
    × Answers ("alg" ∶ text "HS256" then "kid" ∶ text "" then mnil) (hs1 ∷ []) 12
    × Answers ("alg" ∶ text "HS256" then "kid" ∶ text "cellar" then mnil) (hs1 ∷ []) 12
    -- the key's HS256 bit is 0
    × Answers ("alg" ∶ text "HS256" then "kid" ∶ text "cellar 3" then mnil) (hs1 ∷ none1 ∷ []) 13
    -- the key's formats lack this format
    × Answers ("alg" ∶ text "HS256" then "kid" ∶ text "cellar 2" then mnil) (hs28 ∷ []) 14
    × Answers ("alg" ∶ text "HS256" then "kid" ∶ text "cellar 1" then "crit" ∶ array ("fmt" ∷ []) then "fmt" ∶ number "-0" then mnil) (hs1 ∷ []) 14
    × Answers ("alg" ∶ text "HS256" then "kid" ∶ text "cellar 1" then "crit" ∶ array ("fmt" ∷ []) then "fmt" ∶ number "9" then mnil) (hs1 ∷ []) 14
unfolding ascii alg kid typ cty crit fmt HS256 utf8 octets within is_digit integer_of all_digits after same find allows_hs256 allows_format
    strings_in lookup names_from alg_fact kid_fact text_fact crit_fact fmt_fact facts_of missing_or_wrong critical_broken lacking choice_by
examples = (
  (refl, refl),
  (refl, refl),
  (refl, refl),
  refl,
  refl,
  refl,
  refl,
  refl,
  refl,
  refl,
  refl,
  refl,
  refl,
  refl,
  refl,
  refl,
  refl,
  refl,
  refl,
  refl,
  refl,
  refl,
  refl,
  refl,
  refl,
  refl,
  refl,
)
