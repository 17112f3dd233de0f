-- A text has one reading, and it is read exactly when it is derived within the depth.
use Rattle.std.specs.Prelude.{◌≡◌, refl, Bool, true, false, ◌↔◌, List, [], ℕ, ◌+◌}
use Rattle.std.proofs.Common.{sym, ap, ap₂, ◌∙◌, true≢false, arith}
use Rattle.common.specs.First.{Decides, holds, fails}
use Rattle.json_grammar_rules.specs.Bytes.{is_ws}
use Rattle.json_grammar_rules.specs.Value.{Members, object_v, depth, LMembers, plain_members}
use Rattle.json_grammar_rules.specs.Grammar.{none, more, Ws, ObjectTree, object0, object_of, Derivation, Derived, yield_many, yield_token, yield_object, bytes, reading_of, depth_of, members_of}
use Rattle.json_grammar_rules.specs.Places.{member}
use Rattle.json_grammar_rules.specs.Reader.{Got, bad, got, over, read}
use Rattle.json_grammar_rules.proofs.ReaderLaws.{no_bad, over_inv}
use Rattle.json_grammar_rules.proofs.Readings.{plain_of}
use Rattle.json_grammar_rules.proofs.Complete.{complete}
use Rattle.json_grammar_rules.proofs.Sound.{derived, sound}

-- ONE READING: two derivations of one text have the same members at the same places; ..
pub unique : (t u : Derivation) → bytes t ≡ bytes u → members_of t ≡ members_of u
unique t u e =
    let d = depth_of t + depth_of u in
    let p : read d (bytes t) ≡ got (members_of t) [] = complete d t (omega arith) in
    let q : read d (bytes u) ≡ got (members_of u) [] = complete d u (omega arith) in
    cc

-- .. so the same reading, the same depth, and the same kind and places of member k
pub one_reading : (t u : Derivation) → bytes t ≡ bytes u → reading_of t ≡ reading_of u
one_reading t u e = sym (plain_of t) ∙ ap plain_members (unique t u e) ∙ plain_of u

pub one_depth : (t u : Derivation) → bytes t ≡ bytes u → depth_of t ≡ depth_of u
unfolding depth_of
one_depth t u e = ap (λ (ms : Members). depth (object_v ms)) (one_reading t u e)

pub same_member : (t u : Derivation) → bytes t ≡ bytes u → (k : ℕ) → member (bytes t) k (members_of t) ≡ member (bytes u) k (members_of u)
same_member t u e k = ap₂ (λ (s : List ℕ) (ms : LMembers). member s k ms) e (unique t u e)

-- every derivation of a text reads as the reader reads it
pub reads_as : (d : ℕ) (s : List ℕ) (ms : Members) (r : List ℕ) → over plain_members (read d s) ≡ got ms r → (t : Derivation) → bytes t ≡ s → reading_of t ≡ ms
reads_as d s ms r e t p =
    let i = over_inv plain_members (read d s) ms r e in
    let u = sound d s i.0 r i.1 in
    one_reading t u.0 (p ∙ sym u.1) ∙ sym (plain_of u.0) ∙ ap plain_members u.2 ∙ i.2

-- DERIVATIONS ARE NOT UNIQUE: the space in `{ }` can be given to either brace, and both derive the same bytes
unfoldable space : Ws
unfolding is_ws
space = more 0x20 refl none

abbrev spaced : Ws → Ws → Derivation
spaced x y = record { before = none; top = object0 (record { before = none; after = x }) (record { before = y; after = none }); after = none }

-- whether white space follows the first brace
abbrev any_space : Ws → Bool
any_space none = false
any_space (more b h m) = true

abbrev open_space : ObjectTree → Bool
open_space (object0 b e) = any_space b.after
open_space (object_of b m ms e) = any_space b.after

pub derivations_differ : (t : Derivation) × (u : Derivation) × (bytes t ≡ bytes u) × (t ≡ u → ⊥)
unfolding space bytes yield_object yield_token yield_many
derivations_differ = (spaced space none, spaced none space, refl, λ e. true≢false (ap (λ (t : Derivation). open_space t.top) e))

-- READ EXACTLY WHEN DERIVED

abbrev pub is_got : {A : Type 0} → Got A → Bool
is_got bad = false
is_got (got a r) = true

-- no derivation of what is not read
pub not_derived : (d : ℕ) (s : List ℕ) → read d s ≡ bad → Derived d s → ⊥
not_derived d s e t = no_bad (sym e ∙ ap (read d) (sym t.1) ∙ complete d t.0 t.2)

pub read_decides : (d : ℕ) (s : List ℕ) → Decides (Derived d s) (is_got (read d s))
read_decides d s = go (read d s) refl
  where
    go : (g : Got LMembers) → read d s ≡ g → Decides (Derived d s) (is_got g)
    go bad e = fails (not_derived d s e)
    go (got ms r) e = holds (derived d s ms r e)

pub bad_exactly : (d : ℕ) (s : List ℕ) → (read d s ≡ bad) ↔ (Derived d s → ⊥)
bad_exactly d s = (not_derived d s, λ h. go (read d s) refl h)
  where
    go : (g : Got LMembers) → read d s ≡ g → (Derived d s → ⊥) → g ≡ bad
    go bad e h = refl
    go (got ms r) e h = absurd (h (derived d s ms r e))

-- .. and then the members are those of every derivation
pub read_is : (d : ℕ) (t : Derivation) (ms : LMembers) (r : List ℕ) → read d (bytes t) ≡ got ms r → (members_of t ≡ ms) × (plain_members ms ≡ reading_of t)
read_is d t ms r e =
    let u = sound d (bytes t) ms r e in
    let p : members_of t ≡ ms = unique t u.0 (sym u.1) ∙ u.2 in
    (p, ap plain_members (sym p) ∙ plain_of t)
