-- The definitions run on a string that ends, and on one that breaks off before its quotation mark.
use Rattle.std.specs.Prelude.{◌≡◌, refl, true, false, [], ◌∷◌, Some, None}
use Rattle.common.specs.Ascii.{ascii}
use Rattle.common.specs.Ranges.{within}
use Rattle.common.specs.Same.{same}
use Rattle.json_grammar_rules.specs.Reader.{is_unescaped1, char_lead, read_char, read_chars}
use Rattle.json_characters.specs.Utf8.{utf8, octets}
use Rattle.json_string.specs.Strings.{text_at, text_is, same_text, mix_all, mixed_at, fingerprint_at, resolved, resolved_to, resolved_at, resolved_to_at}

pub record Examples : Type 0 where
  pub is_word : text_is (ascii "ab\"") 0 (ascii "ab") ≡ true
  pub no_word : text_is (ascii "ab") 0 (ascii "ab") ≡ false
  pub same_text_lem : same_text (ascii "ab\"") 0 (ascii "\"ab\"") 1 ≡ true
  pub no_text : same_text (ascii "ab") 0 (ascii "ab") 0 ≡ false
  pub fingerprint : fingerprint_at (ascii "ab") 0 ≡ 0
  pub resolves : resolved_at (ascii "ab\"") 0 (7 ∷ 7 ∷ 7 ∷ []) ≡ Some 2
  pub resolves_to : resolved_to_at (ascii "ab\"") 0 (7 ∷ 7 ∷ 7 ∷ []) ≡ 0x61 ∷ 0x62 ∷ 7 ∷ []
  pub nothing : resolved_at (ascii "ab") 0 (7 ∷ 7 ∷ 7 ∷ []) ≡ None
  pub nothing_left : resolved_to_at (ascii "ab") 0 (7 ∷ 7 ∷ 7 ∷ []) ≡ 0 ∷ 0 ∷ 0 ∷ []

pub examples : Examples
unfolding ascii within same is_unescaped1 char_lead read_char read_chars utf8 octets text_at text_is same_text mix_all mixed_at resolved resolved_to resolved_at resolved_to_at
examples = record {
  is_word = refl;
  no_word = refl;
  same_text_lem = refl;
  no_text = refl;
  fingerprint = refl;
  resolves = refl;
  resolves_to = refl;
  nothing = refl;
  nothing_left = refl;
}
