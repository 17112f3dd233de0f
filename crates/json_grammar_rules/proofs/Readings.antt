-- The reading in a tree's located reading is the tree's reading.
use Rattle.std.specs.Prelude.{◌≡◌, refl, List, [], ℕ}
use Rattle.std.proofs.Common.{ap, ap₂, ◌∙◌}
use Rattle.json_grammar_rules.specs.Value.{Value, Members, array_v, object_v, vcons, mcons, plain, plain_item, plain_items, plain_member, plain_members}
use Rattle.json_grammar_rules.specs.Grammar.{ValueTree, false_t, null_t, true_t, object_t, array_t, number_t, string_t, ObjectTree, object0, object_of}
use Rattle.json_grammar_rules.specs.Grammar.{MemberTree, pair, MembersTail, mend, mmore}
use Rattle.json_grammar_rules.specs.Grammar.{ArrayTree, array0, array_of, ElementsTail, eend, emore, Derivation, yield_token, yield_many, yield_members}
use Rattle.json_grammar_rules.specs.Grammar.{yield_elements, codes_of}
use Rattle.json_grammar_rules.specs.Grammar.{reading_value, reading_object, reading_member, reading_members, reading_array, reading_elements, reading_of}
use Rattle.json_grammar_rules.specs.Grammar.{located_value, located_object, located_member, located_members, located_array, located_elements, members_of}

mutual
  unfolding plain located_value reading_value

  pub plain_value : (v : ValueTree) (r : List ℕ) → plain_item (located_value v r) ≡ reading_value v
  plain_value false_t r = refl
  plain_value null_t r = refl
  plain_value true_t r = refl
  plain_value (object_t o) r = ap object_v (plain_object o r)
  plain_value (array_t a) r = ap array_v (plain_array a r)
  plain_value (number_t n) r = refl
  plain_value (string_t cs) r = refl

  pub plain_object : (o : ObjectTree) (r : List ℕ) → plain_members (located_object o r) ≡ reading_object o
  plain_object (object0 b e) r = refl
  plain_object (object_of b m ms e) r =
      let x = yield_token 0x7D e r in
      plain_member_lem m (yield_members ms x) (plain_members (located_members ms x)) ∙ ap (reading_member m) (plain_members_lem ms x)

  pub plain_member_lem : (m : MemberTree) (r : List ℕ) (ms : Members) → plain_member (located_member m r) ms ≡ reading_member m ms
  plain_member_lem (pair cs c v) r ms = ap (λ (x : Value). mcons (codes_of cs) x ms) (plain_value v r)

  pub plain_members_lem : (ms : MembersTail) (r : List ℕ) → plain_members (located_members ms r) ≡ reading_members ms
  plain_members_lem mend r = refl
  plain_members_lem (mmore c m ms) r = plain_member_lem m (yield_members ms r) (plain_members (located_members ms r)) ∙ ap (reading_member m) (plain_members_lem ms r)

  pub plain_array : (a : ArrayTree) (r : List ℕ) → plain_items (located_array a r) ≡ reading_array a
  plain_array (array0 b e) r = refl
  plain_array (array_of b v vs e) r = let x = yield_token 0x5D e r in ap₂ vcons (plain_value v (yield_elements vs x)) (plain_elements vs x)

  pub plain_elements : (vs : ElementsTail) (r : List ℕ) → plain_items (located_elements vs r) ≡ reading_elements vs
  plain_elements eend r = refl
  plain_elements (emore c v vs) r = ap₂ vcons (plain_value v (yield_elements vs r)) (plain_elements vs r)

pub plain_of : (t : Derivation) → plain_members (members_of t) ≡ reading_of t
unfolding members_of reading_of
plain_of t = plain_object t.top (yield_many t.after [])
