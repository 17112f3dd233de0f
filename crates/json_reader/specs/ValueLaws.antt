-- Laws of a value from its first byte on: its kind, and how it is read between white space.
use Rattle.std.specs.Prelude.{◌≡◌, refl, List, [], ◌∷◌, ℕ, zero, suc, drop}
use Rattle.std.proofs.Common.{◌∙◌, arith, ne_eqb}
use Rattle.json_grammar_rules.specs.Value.{LValue, plain}
use Rattle.json_grammar_rules.specs.Places.{kind_of}
use Rattle.json_grammar_rules.specs.Reader.{Got, bad, got, over, ws, word, placed_item, read_chars, read_number}
use Rattle.json_grammar_rules.specs.Reader.{ValueLead, quote_lead, bracket_lead, brace_lead, true_lead, false_lead, null_lead, number_lead, value_lead}
use Rattle.json_grammar_rules.specs.Reader.{value_by_lem, read_value, read_more_elements, read_more_members, read_object}
use Rattle.json_tokens.specs.Tokens.{SkipsTo}
use Rattle.json_reader.specs.Reads.{read_trimmed, read_array, kind_by}

-- THE KIND OF A VALUE, by its first byte

-- a number's is none of the others'
pub lead_number : (b : ℕ) → (b ≡ 0x22 → ⊥) → (b ≡ 0x5B → ⊥) → (b ≡ 0x7B → ⊥) → (b ≡ 0x74 → ⊥) → (b ≡ 0x66 → ⊥) → (b ≡ 0x6E → ⊥) → value_lead b ≡ number_lead
unfolding value_lead
lead_number b h1 h2 h3 h4 h5 h6 = rw (ne_eqb b 0x22 h1, ne_eqb b 0x5B h2, ne_eqb b 0x7B h3, ne_eqb b 0x74 h4, ne_eqb b 0x66 h5, ne_eqb b 0x6E h6)

over_kind : {A : Type 0} {v : LValue} {y : List ℕ} (f : A → LValue) (t : ValueLead) → ((a : A) → kind_of (plain (f a)) ≡ kind_by t) → (g : Got A) → over f g ≡ got v y
    → kind_of (plain v) ≡ kind_by t
over_kind f t k bad e = let z : ◌≡◌ {A = ℕ} 0 1 = cc in absurd (omega arith)
over_kind {A} {v} {y} f t k (got a x) e = let z : f a ≡ v = cc in rw z at (k a)

value_kind : {v : LValue} {y : List ℕ} (n d : ℕ) (t : ValueLead) (b : ℕ) (x : List ℕ)
    → value_by_lem n (λ e r. read_value n e r) (λ e r. read_more_elements n e r) (λ e r. read_more_members n e r) d t b x ≡ got v y → kind_of (plain v) ≡ kind_by t
unfolding kind_by kind_of plain
value_kind n d quote_lead b x e = over_kind _ quote_lead (λ a. refl) (read_chars n x) e
value_kind n d bracket_lead b x e = over_kind _ bracket_lead (λ a. refl) (read_array n d x) e
value_kind n d brace_lead b x e = over_kind _ brace_lead (λ a. refl) (read_object n d x) e
value_kind n d true_lead b x e = over_kind _ true_lead (λ a. refl) (word (0x72 ∷ 0x75 ∷ 0x65 ∷ []) x) e
value_kind n d false_lead b x e = over_kind _ false_lead (λ a. refl) (word (0x61 ∷ 0x6C ∷ 0x73 ∷ 0x65 ∷ []) x) e
value_kind n d null_lead b x e = over_kind _ null_lead (λ a. refl) (word (0x75 ∷ 0x6C ∷ 0x6C ∷ []) x) e
value_kind n d number_lead b x e = over_kind _ number_lead (λ a. refl) (read_number (b ∷ x)) e

pub trimmed_kind : {v : LValue} {y : List ℕ} (n d b : ℕ) (x : List ℕ) → read_trimmed n d (b ∷ x) ≡ got v y → kind_of (plain v) ≡ kind_by (value_lead b)
unfolding read_trimmed
trimmed_kind zero d b x e = let z : ◌≡◌ {A = ℕ} 0 1 = cc in absurd (omega arith)
trimmed_kind (suc n) d b x e = value_kind n d (value_lead b) b x e

-- A VALUE BETWEEN WHITE SPACE

pub no_trimmed : (d n : ℕ) → read_trimmed n d [] ≡ bad
unfolding read_trimmed
no_trimmed d zero = refl
no_trimmed d (suc n) = refl

value_trimmed : (n d : ℕ) (x : List ℕ) → read_value n d x ≡ placed_item (ws x) (read_trimmed n d (ws x))
unfolding read_value read_trimmed
value_trimmed zero d x = refl
value_trimmed (suc n) d x = refl

pub placed_at : {s : List ℕ} {from at : ℕ} (d : ℕ) → SkipsTo s from at → (n : ℕ) → read_value n d (drop from s) ≡ placed_item (drop at s) (read_trimmed n d (drop at s))
placed_at {s} {from} d k n = value_trimmed n d (drop from s) ∙ rw k.is
