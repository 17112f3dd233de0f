-- What a header decides, computed from its bytes.
use Rattle.std.specs.Prelude.{◌≡◌, refl, true, List, [], ◌∷◌, ◌++◌, ℕ, zero, suc, replicate}
use Rattle.common.specs.Ascii.{ascii}
use Rattle.common.specs.First.{first}
use Rattle.common.specs.Ranges.{is_digit}
use Rattle.common.specs.Same.{same}
use Rattle.json_grammar_rules.specs.Bytes.{within, is_ws, is_digit19, is_e, is_hex, hex_val, all_hex, hex4, is_high, is_low}
use Rattle.json_grammar_rules.specs.Value.{among, repeated, names, twice, plain, plain_members}
use Rattle.json_grammar_rules.specs.Places.{kind_of, pos, margin, placed}
use Rattle.json_grammar_rules.specs.Reader.{skip, is_unescaped1, char_lead, escape_lead_of, read_char, read_chars, value_lead, past_number, read_value, read}
use Rattle.json_characters.specs.Utf8.{utf8, octets}
use Rattle.decimal_rules.specs.Integer.{integer_of, all_digits, after}
use Rattle.keytable_rules.specs.Key.{Key, find, allows_hs256, allows_format}
use Rattle.jose_rules.specs.declared.Choice.{Choice}
use Rattle.jose_rules.specs.Names.{alg, kid, typ, cty, crit, fmt, HS256}
use Rattle.jose_rules.specs.Members.{strings_in}
use Rattle.jose_rules.specs.Header.{nowhere, NamesNoKey}
use Rattle.jose_rules.specs.Facts.{lookup, names_from, alg_fact, kid_fact, text_fact, crit_fact, fmt_fact, facts_of, lacking, missing_or_wrong, critical_broken, choice_by}
use Rattle.jose_rules.proofs.Examples.{hs1}
use Rattle.jose_rules.specs.HeaderTests.{jose_tests, raw_text, header_choice}
use Rattle.jose_rules.proofs.NamingLaws.{nameless_read}

-- the raw text of `typ` begins at byte 8 and has 3 bytes; `cty` is absent
pub typ_place : header_choice (ascii "{\"typ\":\"JWT\",\"alg\":\"HS256\",\"kid\":\"cellar 1\"}") (hs1 ∷ [])
    ≡ record { key_index = 0; kid_present = true; format = 1; typ = record { start = 8; length = 3 }; cty = record { start = 0; length = 0 } }
unfolding header_choice raw_text choice_by facts_of kid_fact fmt_fact lookup find utf8 octets same ascii alg kid typ cty crit fmt read read_value read_chars read_char char_lead escape_lead_of
    value_lead skip is_unescaped1 plain plain_members within is_ws is_hex all_hex hex4 placed pos margin kind_of
typ_place = refl

-- two keys, `A` and `B`, each with a secret of its own; both allow HS256 and formats 1 and 3
abbrev pub pair : List Key
pair =
    record { id = ascii "A"; secret = replicate 32 7; algorithms = 1; formats = 5 }
    ∷ record { id = ascii "B"; secret = replicate 32 8; algorithms = 1; formats = 5 }
    ∷ []

abbrev pub header : List ℕ
header = ascii "{\"alg\":\"HS256\",\"kid\":\"B\",\"crit\":[\"fmt\"],\"fmt\":3}"

-- what it decides: the second key, named, and format 3; no `typ`, no `cty`
abbrev pub its_choice : Choice
its_choice = record { key_index = 1; kid_present = true; format = 3; typ = nowhere; cty = nowhere }

pub second_key : (first (jose_tests header (record { keys = pair })) ≡ 0) × (header_choice header pair ≡ its_choice)
unfolding missing_or_wrong critical_broken lacking header_choice raw_text choice_by facts_of names_from alg_fact kid_fact text_fact crit_fact fmt_fact lookup strings_in integer_of all_digits after
    find allows_hs256 allows_format ascii alg kid typ cty crit fmt HS256 utf8 octets same among repeated names twice plain plain_members
    read read_value read_chars read_char char_lead value_lead skip is_unescaped1 past_number within is_digit is_digit19 is_e is_ws
second_key = (refl, refl)

-- BY ESCAPES, their digits small and capital; the key's id is the UTF-8 of U+00E9, and it allows format 3
abbrev accented : List Key
accented = record { id = 0xC3 ∷ 0xA9 ∷ []; secret = replicate 32 9; algorithms = 1; formats = 4 } ∷ []

abbrev by_small : List ℕ
by_small = ascii "{\"a\\u006cg\":\"\\u0048S256\",\"\\u006bid\":\"\\u00e9\",\"crit\":[\"f\\u006dt\"],\"f\\u006dt\":3}"

abbrev by_capital : List ℕ
by_capital = ascii "{\"a\\u006Cg\":\"\\u0048S256\",\"\\u006Bid\":\"\\u00E9\",\"crit\":[\"f\\u006Dt\"],\"f\\u006Dt\":3}"

-- the case of a digit says nothing, but `\u004c` is the letter L: `alg` is missing
abbrev another_name : List ℕ
another_name = ascii "{\"a\\u004cg\":\"HS256\",\"kid\":\"\\u00e9\"}"

-- both headers choose this key and format 3; the third gets 9
pub by_escapes : (first (jose_tests by_small (record { keys = accented })) ≡ 0) × (header_choice by_small accented ≡ record { key_index = 0; kid_present = true; format = 3; typ = nowhere; cty = nowhere })
    × (first (jose_tests by_capital (record { keys = accented })) ≡ 0) × (header_choice by_capital accented ≡ header_choice by_small accented)
    × (first (jose_tests another_name (record { keys = accented })) ≡ 9)
unfolding missing_or_wrong critical_broken lacking header_choice raw_text choice_by facts_of names_from alg_fact kid_fact text_fact crit_fact fmt_fact lookup strings_in integer_of all_digits after
    find allows_hs256 allows_format ascii alg kid typ cty crit fmt HS256 utf8 octets same among repeated names twice plain plain_members
    read read_value read_chars read_char char_lead escape_lead_of value_lead skip is_unescaped1 past_number within is_digit is_digit19 is_e is_ws is_hex hex_val all_hex hex4 is_high is_low
by_escapes = (refl, refl, refl, refl, refl)

-- ONE KEY, whose id is one byte; it allows HS256 and formats 1 and 3
abbrev pub single : ℕ → List Key
single x = record { id = x ∷ []; secret = replicate 32 65; algorithms = 1; formats = 5 } ∷ []

-- the header `{"alg":"HS256","kid":"A"}`, and then n spaces
abbrev pub naming : ℕ → List ℕ
naming n = ascii "{\"alg\":\"HS256\",\"kid\":\"A\"}" ++ replicate n 0x20

-- what it decides where that is the key's id: this key, named, and format 1; no `typ`, no `cty`
abbrev pub first_choice : Choice
first_choice = record { key_index = 0; kid_present = true; format = 1; typ = nowhere; cty = nowhere }

-- nothing but white space
blank : (n : ℕ) → skip is_ws (replicate n 0x20) ≡ []
unfolding skip is_ws
blank zero = refl
blank (suc n) = blank n

pub first_key : (n : ℕ) → (first (jose_tests (naming n) (record { keys = single 65 })) ≡ 0) × (header_choice (naming n) (single 65) ≡ first_choice)
unfolding missing_or_wrong critical_broken lacking header_choice raw_text choice_by facts_of alg_fact kid_fact text_fact crit_fact fmt_fact lookup
    find allows_hs256 allows_format ascii alg kid typ cty crit fmt HS256 utf8 octets same among repeated names twice plain plain_members
    read read_value read_chars read_char char_lead value_lead skip is_unescaped1 within is_ws
first_key n = (rw (blank n), rw (blank n))

-- the header `{"alg":"HS256"}`, which names no key
abbrev pub nameless : List ℕ
nameless = ascii "{\"alg\":\"HS256\"}"

-- 12: where the header names no key, and where the one key has another id, `B`
pub no_key_lem : (first (jose_tests nameless (record { keys = single 65 })) ≡ 12) × (first (jose_tests (naming 0) (record { keys = single 66 })) ≡ 12)
unfolding missing_or_wrong critical_broken lacking facts_of alg_fact kid_fact text_fact crit_fact fmt_fact lookup find ascii alg kid typ cty crit fmt HS256 utf8 octets
    same among repeated names twice plain plain_members read read_value read_chars read_char char_lead value_lead skip is_unescaped1 within is_ws
no_key_lem = (refl, refl)

pub names_no_key : NamesNoKey nameless
unfolding ascii kid same among repeated names twice plain plain_members read read_value read_chars read_char char_lead value_lead skip is_unescaped1 within is_ws
names_no_key = nameless_read nameless refl refl
