-- What a header says of its known members, apart from its text; the facts of two headers together; the tests of answers 9 to 14 by facts
-- alone, and what is chosen.
use Rattle.std.specs.Prelude.{Bool, true, false, cond, not, ◌||◌, List, [], ◌∷◌, ◌++◌, ℕ, ℤ, pos, nat_abs, Option as Perhaps, Some, None, ⊤}
use Rattle.std.proofs.Math.Option.{Option, none, some}
use Rattle.std.specs.Int.Signed.{lt_z}
use Rattle.common.specs.First.{Test, ◌when◌, first, settle}
use Rattle.common.specs.Options.{absent, given, or_else}
use Rattle.common.specs.Same.{same}
use Rattle.json_grammar_rules.specs.Value.{Value, Members, mnil, mcons}
use Rattle.json_characters.specs.Utf8.{utf8}
use Rattle.keytable_rules.specs.Key.{Key, key, find, allows_hs256, allows_format}
use Rattle.jose_rules.specs.declared.Said.{Said}
use Rattle.jose_rules.specs.declared.Algorithm.{Algorithm}
use Rattle.jose_rules.specs.declared.Listed.{Listed}
use Rattle.jose_rules.specs.declared.Facts.{Facts}
use Rattle.jose_rules.specs.Verdict.{Verdict}
use Rattle.jose_rules.specs.declared.Part.{Part}
use Rattle.jose_rules.specs.declared.Choice.{Choice}
use Rattle.jose_rules.specs.Names.{alg, kid, typ, cty, crit, fmt, HS256}
use Rattle.jose_rules.specs.Members.{Meaning, string, strings, integer}

-- the value of the first member with the name n
unfoldable pub lookup : List ℕ → Members → Option Value
lookup n mnil = none
lookup n (mcons m v ms) = cond (same m n) (some v) (lookup n ms)

-- THE FACTS, each of the value of its member, if there is one

-- what is known of a member: that it is absent, that its kind is wrong, or f of what it says
module _ {A F : Type 0} (absent-is wrong-is : F) (f : A → F) where
  abbrev pub pick : Option A → F
  pick none = wrong-is
  pick (some a) = f a

  abbrev pub fact : Meaning A → Option Value → F
  fact k none = absent-is
  fact k (some v) = pick (k v)

-- what a header says of a member: that it is absent, that its kind is wrong, or f of what it says
abbrev pub said : {A B : Type 0} → (A → B) → Meaning A → Option Value → Said B
said f k o = fact Said.Absent Said.Wrong (λ a. Said.Is (f a)) k o

abbrev pub alg_by : List ℕ → Algorithm
alg_by s = cond (same s HS256) Algorithm.HS256 Algorithm.Other

abbrev pub alg_other : Said Algorithm → Bool
alg_other Said.Absent = false
alg_other Said.Wrong = false
alg_other (Said.Is Algorithm.HS256) = false
alg_other (Said.Is Algorithm.Other) = true

-- the key whose id is the UTF-8 of s
abbrev pub found_by : List Key → List ℕ → Perhaps ℕ
found_by ks s = find (utf8 s) ks

-- the names of `crit` one after the other: l, whether `fmt` was listed; b, whether a name stood twice or may not be listed
unfoldable pub names_from : Bool → Bool → List (List ℕ) → Listed
names_from l b [] = record { bad = b; fmt = l }
names_from l b (n ∷ ns) = cond (same n fmt) (names_from true (b || l) ns) (names_from l true ns)

-- an empty list is as bad
abbrev pub names_by : List (List ℕ) → Listed
names_by [] = record { bad = true; fmt = false }
names_by (n ∷ ns) = names_from false false (n ∷ ns)

unfoldable pub alg_fact : Option Value → Said Algorithm
alg_fact o = said alg_by string o

unfoldable pub kid_fact : List Key → Option Value → Said (Perhaps ℕ)
kid_fact ks o = said (found_by ks) string o

unfoldable pub text_fact : Option Value → Said ⊤
text_fact o = said (λ _. tt {0}) string o

unfoldable pub crit_fact : Option Value → Said Listed
crit_fact o = said names_by strings o

unfoldable pub fmt_fact : Option Value → Said ℤ
fmt_fact o = said (λ z. z) integer o

unfoldable pub facts_of : Members → List Key → Facts
facts_of ms ks =
    record {
      alg = alg_fact (lookup alg ms);
      kid = kid_fact ks (lookup kid ms);
      typ = text_fact (lookup typ ms);
      cty = text_fact (lookup cty ms);
      crit = crit_fact (lookup crit ms);
      fmt = fmt_fact (lookup fmt ms);
    }

-- of no members
abbrev pub no_facts : Facts
no_facts = record { alg = Said.Absent; kid = Said.Absent; typ = Said.Absent; cty = Said.Absent; crit = Said.Absent; fmt = Said.Absent }

-- TWO HEADERS: the members of both, those of the first before those of the second

unfoldable pub joined : Members → Members → Members
joined mnil us = us
joined (mcons n v ps) us = mcons n v (joined ps us)

-- the first one's fact stands unless it is absent
abbrev pub said_or : {A : Type 0} → Said A → Said A → Said A
said_or Said.Absent b = b
said_or Said.Wrong b = Said.Wrong
said_or (Said.Is a) b = Said.Is a

unfoldable pub merged : Facts → Facts → Facts
merged a b =
    record {
      alg = said_or a.alg b.alg;
      kid = said_or a.kid b.kid;
      typ = said_or a.typ b.typ;
      cty = said_or a.cty b.cty;
      crit = said_or a.crit b.crit;
      fmt = said_or a.fmt b.fmt;
    }

-- WHAT ONE FACT SAYS

module _ {A : Type 0} where
  abbrev pub is_missing : Said A → Bool
  is_missing Said.Absent = true
  is_missing Said.Wrong = true
  is_missing (Said.Is a) = false

  abbrev pub is_wrong : Said A → Bool
  is_wrong Said.Absent = false
  is_wrong Said.Wrong = true
  is_wrong (Said.Is a) = false

  abbrev pub is_there : Said A → Bool
  is_there Said.Absent = false
  is_there Said.Wrong = true
  is_there (Said.Is a) = true

abbrev pub differ : Bool → Bool → Bool
differ true b = not b
differ false b = b

-- `crit` lists badly, or what it lists isn't what is there
abbrev pub lists_badly : Said Listed → Bool → Bool
lists_badly Said.Absent there = there
lists_badly Said.Wrong there = there
lists_badly (Said.Is c) there = c.bad || differ c.fmt there

-- the chosen key, and the format
abbrev pub index_of : Perhaps ℕ → Option ℕ
index_of (Some i) = some i
index_of None = none

abbrev pub chosen_key : Said (Perhaps ℕ) → Option ℕ
chosen_key Said.Absent = none
chosen_key Said.Wrong = none
chosen_key (Said.Is o) = index_of o

abbrev pub format_by : Said ℤ → Option ℤ
format_by Said.Absent = some (pos 1)
format_by Said.Wrong = none
format_by (Said.Is z) = some z

unfoldable pub lacking : Key → ℤ → Bool
lacking k z = lt_z z (pos 1) || (lt_z (pos 8) z || not (allows_format k (nat_abs z)))

-- THE TESTS, in the rules' order: f of all the members, u of those in an unprotected header

unfoldable pub missing_or_wrong : Facts → Bool
missing_or_wrong f = is_missing f.alg || (is_wrong f.kid || (is_wrong f.typ || (is_wrong f.cty || (is_wrong f.crit || is_wrong f.fmt))))

unfoldable pub critical_broken : Facts → Facts → Bool
critical_broken f u = lists_badly f.crit (is_there f.fmt) || is_there u.crit

abbrev pub known_tests : Facts → Facts → List Test
known_tests f u = 9 when missing_or_wrong f ∷ 10 when critical_broken f u ∷ 11 when alg_other f.alg ∷ []

-- there is a chosen key, and p of it
abbrev pub of_chosen : Facts → List Key → (Key → Bool) → Bool
of_chosen f ks p = given (λ i. p (key ks i)) (chosen_key f.kid)

abbrev pub key_tests : Facts → List Key → List Test
key_tests f ks =
    12 when absent (chosen_key f.kid)
    ∷ 13 when of_chosen f ks (λ k. not (allows_hs256 k))
    ∷ 14 when of_chosen f ks (λ k. given (lacking k) (format_by f.fmt))
    ∷ []

abbrev pub choosing_tests : Facts → Facts → List Key → List Test
choosing_tests f u ks = known_tests f u ++ key_tests f ks

-- WHAT IS CHOSEN: the key's index and the format, used where no test refuses; with the raw texts of `typ` and `cty`
abbrev pub index_by : Facts → ℕ
index_by f = or_else (chosen_key f.kid) 0

abbrev pub number_by : Facts → ℕ
number_by f = nat_abs (or_else (format_by f.fmt) (pos 0))

unfoldable pub choice_by : Facts → Part → Part → Choice
choice_by f t c = record { key_index = index_by f; kid_present = is_there f.kid; format = number_by f; typ = t; cty = c }

-- what the facts decide, by the number of the first rule that refuses, or 0
abbrev pub verdict_by : ℕ → Facts → Verdict
verdict_by n f = settle n (Verdict.Takes (index_by f) (is_there f.kid) (number_by f)) (λ m. Verdict.Refused m)

unfoldable pub verdict : Facts → Facts → List Key → Verdict
verdict f u ks = verdict_by (first (choosing_tests f u ks)) f
