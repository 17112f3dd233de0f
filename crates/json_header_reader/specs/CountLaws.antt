-- What `count_of` says, by the grammar; and where a reader that goes from member to member stops.
use Rattle.std.specs.Prelude.{◌≡◌, Bool, true, false, eqb, length}
use Rattle.std.proofs.Math.Path.{refl, sym, ap}
use Rattle.std.proofs.Common.{◌∙◌, true≢false, arith}
use mathlib.Core.List.{List, [], ◌∷◌}
use Prim.Native.Nat.{ℕ, zero, suc, ◌≤◌, ◌<◌}
use borrow.Author.Tests.{ltb-false, ne_eqb}
use Rattle.common.proofs.Decided.{test_false}
use Rattle.answers.specs.declared.refusal.Refusal.{Refusal}
use Rattle.answers.specs.Numbers.{number}
use Rattle.answers.proofs.NumberLaws.{not_done}
use Rattle.common.specs.First.{among, settle}
use Rattle.common.proofs.FirstLaws.{decides_lt, stable, not_on, settle_good}
use Rattle.json_grammar_rules.specs.Twice.{TwiceNamed}
use Rattle.json_grammar_rules.specs.Value.{Members, object_v, LMembers, plain_members}
use Rattle.json_grammar_rules.specs.Grammar.{Derivation, bytes, reading_of, depth_of, members_of}
use Rattle.json_grammar_rules.specs.Grammar.{ObjectTree, object0, object_of, pair, MembersTail, mend, mmore, yield_many, yield_token, yield_object, yield_member, yield_members, reading_object, reading_members}
use Rattle.json_grammar_rules.specs.Reader.{Got, got, read}
use Rattle.json_grammar_rules.proofs.Readings.{plain_of}
use Rattle.json_grammar_rules.proofs.Complete.{complete}
use Rattle.json_grammar_rules.proofs.Written.{longer, white, token, member}
use Rattle.json_rules.specs.Rules.{longest, deepest, count, header_rules, DerivedOnce}
use Rattle.json_rules.specs.Answers.{Member, Refused, number_of}
use Rattle.json_rules.specs.Tests.{members_in, checked, member_of, Read}
use Rattle.json_rules.proofs.Promises.{derivation, header_none, header_range, refused, member_past, member_found, unread}
use Rattle.json_rules.proofs.Demand3.{read_exactly}
use Rattle.json_header_reader.specs.Counting.{Counted, with_members, count_of, ended_if, ended_at}

-- FEWER MEMBERS THAN BYTES

tail_count : (ms : MembersTail) (r : List ℕ) → count (reading_members ms) ≤ length (yield_members ms r)
unfolding count reading_members yield_members
tail_count mend r = omega arith
tail_count (mmore c (pair cs n v) ms) r =
    let y = yield_members ms r in
    omega (arith, tail_count ms r, longer (token 0x2C (omega arith) c) (yield_member (pair cs n v) y), longer (member (pair cs n v)) y)

object_count : (o : ObjectTree) (r : List ℕ) → count (reading_object o) ≤ length (yield_object o r)
unfolding count reading_object yield_object
object_count (object0 b e) r = omega arith
object_count (object_of b (pair cs n v) ms e) r =
    let z = yield_token 0x7D e r in
    let y = yield_members ms z in
    omega (arith, tail_count ms z, longer (token 0x7B (omega arith) b) (yield_member (pair cs n v) y), longer (member (pair cs n v)) y)

pub members_fit : (t : Derivation) → count (reading_of t) ≤ length (bytes t)
unfolding reading_of bytes
members_fit t = let r = yield_many t.after [] in omega (arith, object_count t.top r, longer (white t.before) (yield_object t.top r))

-- ONE REFUSAL IS NUMBERED 16

not_last : (r : Refusal) → (r ≡ Refusal.NoSuchMember → ⊥) → eqb (number r) 16 ≡ false
not_last Refusal.TokenTooLong n = refl
not_last Refusal.BadTable n = refl
not_last Refusal.NotTwoPeriods n = refl
not_last Refusal.NotBase64url n = refl
not_last Refusal.HeaderTooLong n = refl
not_last Refusal.BufferTooShort n = refl
not_last Refusal.NotDerived n = refl
not_last Refusal.NameTwice n = refl
not_last Refusal.WrongKind n = refl
not_last Refusal.Critical n = refl
not_last Refusal.WrongAlg n = refl
not_last Refusal.NoKey n = refl
not_last Refusal.AlgNotAllowed n = refl
not_last Refusal.FormatNotAllowed n = refl
not_last Refusal.SignatureDiffers n = refl
not_last Refusal.NoSuchMember n = absurd (n refl)

-- A HEADER IS READ OR REFUSED

module _ (h : List ℕ) where
  -- a header that no rule refuses
  derived : checked h ≡ 0 → (length h ≤ longest) × DerivedOnce h
  derived e =
      let no = not_on (header_rules h) ((header_none h).0 e) in
      let t = derivation deepest h (no 7) in
      (ltb-false longest (length h) (test_false (decides_lt longest (length h)) (no 5)), (t.0, t.1, t.2, λ u. no 8 (t.0, t.1, u)))

  -- the header's refusals are not 16
  other : (a : ℕ) → checked h ≡ suc a → suc a ≡ 16 → ⊥
  other a e z = true≢false (sym (header_range h) ∙ ap (λ (m : ℕ). among m (0 ∷ 5 ∷ 7 ∷ 8 ∷ [])) (e ∙ z))

  -- the members that are read are those of every derivation
  count_read : (t : Derivation) → bytes t ≡ h → depth_of t ≤ deepest → checked h ≡ 0 → count_of h ≡ with_members 0 (count (reading_of t))
  unfolding count_of
  count_read t p q e =
      let is : read deepest h ≡ got (members_of t) [] = ap (read deepest) (sym p) ∙ complete deepest t q in
      settle_good (checked h) _ _ e ∙ ap (λ (g : Got LMembers). with_members 0 (count (plain_members (members_in g)))) is ∙ ap (λ (ms : Members). with_members 0 (count ms)) (plain_of t)

  -- a header that is refused: its answer, and no member
  pub count_refused : (a : ℕ) → checked h ≡ suc a → count_of h ≡ with_members (suc a) 0
  unfolding count_of
  count_refused a e = ap (λ (n : ℕ). settle n (with_members 0 (count (plain_members (members_in (read deepest h))))) (λ m. with_members m 0)) e

  -- a header that is derived within the limits and has no name twice: 0, and the number of members of its top object
  pub count_derived : length h ≤ longest → (t : Derivation) → bytes t ≡ h → depth_of t ≤ deepest → (TwiceNamed (object_v (reading_of t)) → ⊥)
      → count_of h ≡ with_members 0 (count (reading_of t))
  unfolding number_of
  count_derived l t p q e = go (checked h) refl
    where
      go : (a : ℕ) → checked h ≡ a → count_of h ≡ with_members 0 (count (reading_of t))
      go zero c = count_read t p q c
      go (suc a) c =
          let k = count (reading_of t) in
          absurd (other a c (ap number_of (sym (refused h a c k) ∙ member_past h l t p q e k (omega arith))))

  -- a header that isn't read: the refusal that every member of it has, and no member
  pub count_unread : (Read h → ⊥) → (n : ℕ) × (among n (5 ∷ 7 ∷ 8 ∷ []) ≡ true) × (count_of h ≡ with_members n 0) × ((k : ℕ) → member_of h k ≡ Refused n)
  unfolding number_of
  count_unread r = go (checked h) refl
    where
      u : (n : ℕ) × (among n (5 ∷ 7 ∷ 8 ∷ []) ≡ true) × ((k : ℕ) → member_of h k ≡ Refused n)
      u = unread h r

      go : (a : ℕ) → checked h ≡ a → (n : ℕ) × (among n (5 ∷ 7 ∷ 8 ∷ []) ≡ true) × (count_of h ≡ with_members n 0) × ((k : ℕ) → member_of h k ≡ Refused n)
      go zero c = let d = derived c in absurd (r ((read_exactly h).1 d))
      go (suc a) c =
          let z : suc a ≡ u.0 = ap number_of (sym (refused h a c 0) ∙ u.2 0) in
          (u.0, u.1, count_refused a c ∙ ap (λ (n : ℕ). with_members n 0) z, u.2)

  -- A READER GOES FROM MEMBER TO MEMBER

  -- the number of members, at most that of the bytes
  abbrev total_of : Counted → ℕ
  total_of c = c.members

  abbrev pub total : ℕ
  total = total_of (count_of h)

  pub few : total ≤ longest
  few = go (checked h) refl
    where
      go : (a : ℕ) → checked h ≡ a → total ≤ longest
      go zero c = let d = derived c in let t = d.1 in omega (arith, ap total_of (count_read t.0 t.1 t.2 c), members_fit t.0, ap length t.1, d.0)
      go (suc a) c = omega (arith, ap total_of (count_refused a c))

  -- member k of a header that is read, before the number of its members and from it on
  module _ (c : checked h ≡ 0) (k : ℕ) where
    found : k < total → number_of (member_of h k) ≡ 0
    found l = let d = derived c in let t = d.1 in member_found h d.0 t.0 t.1 t.2 t.3 k (omega (arith, ap total_of (count_read t.0 t.1 t.2 c)))

    past : total ≤ k → member_of h k ≡ Refused 16
    past l = let d = derived c in let t = d.1 in member_past h d.0 t.0 t.1 t.2 t.3 k (omega (arith, ap total_of (count_read t.0 t.1 t.2 c)))

  -- it goes on where there is a member, ..
  pub goes_on : (k : ℕ) → number_of (member_of h k) ≡ 0 → k < total
  unfolding number_of
  goes_on k z = go (checked h) refl
    where
      go : (a : ℕ) → checked h ≡ a → k < total
      go zero c = stable (decides_lt k total) (λ n. let e : 16 ≡ number_of (member_of h k) = sym (ap number_of (past c k (ltb-false k total (test_false (decides_lt k total) n)))) in omega (arith, e, z))
      go (suc a) c = let e : number_of (member_of h k) ≡ suc a = ap number_of (refused h a c k) in absurd (omega (arith, e, z))

  -- .. and where it stops all are counted
  pub stops : (k : ℕ) → k ≤ total → (number_of (member_of h k) ≡ 0 → ⊥) → ended_at (number_of (member_of h k)) k ≡ count_of h
  unfolding number_of
  stops k l n = go (checked h) refl
    where
      go : (a : ℕ) → checked h ≡ a → ended_at (number_of (member_of h k)) k ≡ count_of h
      go zero c =
          let t = (derived c).1 in
          let whole = count_read t.0 t.1 t.2 c in
          let m : total ≤ k = ltb-false k total (test_false (decides_lt k total) (λ g. n (found c k g))) in
          let e : k ≡ count (reading_of t.0) = omega (arith, m, l, ap total_of whole) in
          ap (λ (x : Member). ended_at (number_of x) k) (past c k m) ∙ ap (with_members 0) e ∙ sym whole
      go (suc a) c = ap (λ (x : Member). ended_at (number_of x) k) (refused h a c k) ∙ ap (λ (b : Bool). ended_if b (suc a) k) (ne_eqb (suc a) 16 (other a c)) ∙ sym (count_refused a c)

  -- by 16 past the last member, and by any other refusal
  module _ (k : ℕ) (l : k ≤ total) (r : Refusal) (e : number r ≡ number_of (member_of h k)) where
    stopped : ended_at (number r) k ≡ count_of h
    stopped = ap (λ (n : ℕ). ended_at n k) e ∙ stops k l (λ z. not_done r (e ∙ z))

    pub stops_last : r ≡ Refusal.NoSuchMember → with_members 0 k ≡ count_of h
    stops_last z = sym (ap (λ (d : Refusal). ended_at (number d) k) z) ∙ stopped

    pub stops_refused : (r ≡ Refusal.NoSuchMember → ⊥) → with_members (number r) 0 ≡ count_of h
    stops_refused n = sym (ap (λ (b : Bool). ended_if b (number r) k) (not_last r n)) ∙ stopped
