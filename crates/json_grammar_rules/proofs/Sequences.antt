-- The elements of an array and the members of an object are sequences: one or more with commas between them, and a closing byte. What
-- their readers do, once for both.
use Rattle.std.specs.Prelude.{◌≡◌, refl, ◌⊎◌, Bool, true, false, List, [], ◌∷◌, ℕ, zero, suc, ◌<◌, eqb}
use Rattle.std.proofs.Common.{sym, ap, ◌∙◌, inl, inr, arith, eqb-true}
use Rattle.json_grammar_rules.specs.Bytes.{is_ws}
use Rattle.json_grammar_rules.specs.Value.{LItem, LMember, inil, icons, named, lnil, lcons}
use Rattle.json_grammar_rules.specs.Reader.{Got, bad, got, then, over, expect, skip, ws, read_chars, read_value, read_more_elements, read_more_members}
use Rattle.json_grammar_rules.proofs.ReaderLaws.{no_bad, then_inv, over_inv, expect_inv, read_value_ws}
use Rattle.json_grammar_rules.specs.Levels.{read_in_array, read_member, read_in_object}

-- one or more and the closing byte: `one` reads one of them, `more` what follows it
abbrev pub sequence : {A B : Type 0} → (B → A → A) → (ℕ → ℕ → List ℕ → Got B) → (ℕ → ℕ → List ℕ → Got A) → ℕ → ℕ → List ℕ → Got A
sequence cons one more n d s = then (one n d s) (λ b r. over (cons b) (more n d r))

-- `inside` reads none or more and the closing byte
pub record Sequence {A B : Type 0} (nothing : A) (cons : B → A → A) (one : ℕ → ℕ → List ℕ → Got B) (inside more : ℕ → ℕ → List ℕ → Got A) (close : ℕ) : Type 0 where
  pub black : is_ws close ≡ false
  pub small : close < 256
  pub some : (b : B) (a : A) → cons b a ≡ nothing → ⊥
  pub one_out : (n d : ℕ) → one n d [] ≡ bad
  pub inside_out : (n d : ℕ) → inside n d [] ≡ bad
  pub inside_none : (n d b : ℕ) (x : List ℕ) → eqb b close ≡ true → inside n d (b ∷ x) ≡ got nothing x
  pub inside_some : (n d b : ℕ) (x : List ℕ) → eqb b close ≡ false → inside n d (b ∷ x) ≡ sequence cons one more n d (b ∷ x)
  pub more_zero : (d : ℕ) (x : List ℕ) → more 0 d x ≡ bad
  pub more_out : (n d : ℕ) → more n d [] ≡ bad
  pub more_none : (n d b : ℕ) (x : List ℕ) → eqb b close ≡ true → more (suc n) d (b ∷ x) ≡ got nothing x
  pub more_some : (n d : ℕ) (x : List ℕ) → more (suc n) d (0x2C ∷ x) ≡ sequence cons one more n d (ws x)
  pub more_other : (n d b : ℕ) (x : List ℕ) → eqb b close ≡ false → eqb b 0x2C ≡ false → more (suc n) d (b ∷ x) ≡ bad

pub members : Sequence lnil lcons (λ n d x. read_member n d x) (λ n d x. read_in_object n d x) (λ n d x. read_more_members n d x) 0x7D
unfolding read_more_members is_ws
members = record {
  black = refl;
  small = omega arith;
  some = λ m ms e. let z : ◌≡◌ {A = ℕ} 0 1 = cc in omega arith;
  one_out = λ n d. refl;
  inside_out = λ n d. refl;
  inside_none = λ n d b x e. rw e;
  inside_some = λ n d b x e. rw e;
  more_zero = λ d x. refl;
  more_out = out;
  more_none = λ n d b x e. rw e;
  more_some = λ n d x. refl;
  more_other = λ n d b x e f. rw (e, f);
}
  where
    out : (n d : ℕ) → read_more_members n d [] ≡ bad
    out zero d = refl
    out (suc n) d = refl

pub elements : Sequence inil icons (λ n d x. read_value n d x) (λ n d x. read_in_array n d x) (λ n d x. read_more_elements n d x) 0x5D
unfolding read_more_elements read_value skip is_ws
elements = record {
  black = refl;
  small = omega arith;
  some = λ v vs e. let z : ◌≡◌ {A = ℕ} 0 1 = cc in omega arith;
  one_out = one_out;
  inside_out = λ n d. refl;
  inside_none = λ n d b x e. rw e;
  inside_some = λ n d b x e. rw e;
  more_zero = λ d x. refl;
  more_out = out;
  more_none = λ n d b x e. rw e;
  more_some = λ n d x. ap (λ (g : Got LItem). then g (λ v r. over (icons v) (read_more_elements n d r))) (sym (read_value_ws n d x));
  more_other = λ n d b x e f. rw (e, f);
}
  where
    one_out : (n d : ℕ) → read_value n d [] ≡ bad
    one_out zero d = refl
    one_out (suc n) d = refl

    out : (n d : ℕ) → read_more_elements n d [] ≡ bad
    out zero d = refl
    out (suc n) d = refl

module _ {A B : Type 0} {nothing : A} {cons : B → A → A} {one : ℕ → ℕ → List ℕ → Got B} {inside more : ℕ → ℕ → List ℕ → Got A} {close : ℕ}
    (q : Sequence nothing cons one inside more close) (n d : ℕ) where
  -- one, and what follows it
  pub list_inv : (s : List ℕ) (a : A) (r : List ℕ) → sequence cons one more n d s ≡ got a r
      → (b : B) × (y : List ℕ) × (c : A) × (one n d s ≡ got b y) × (more n d y ≡ got c r) × (cons b c ≡ a)
  list_inv s a r e =
      let i = then_inv (one n d s) (λ b y. over (cons b) (more n d y)) a r e in
      let j = over_inv (cons i.0) (more n d i.1) a r i.3 in
      (i.0, i.1, j.0, i.2, j.1, j.2)

  pub not_none : {C : Type 0} (s r : List ℕ) → sequence cons one more n d s ≡ got nothing r → C
  not_none s r e = let i = list_inv s nothing r e in absurd (q.some i.0 i.2 i.5)

  pub list_out : sequence cons one more n d [] ≡ bad
  list_out = ap (λ (g : Got B). then g (λ b r. over (cons b) (more n d r))) (q.one_out n d)

  -- none and the closing byte, or some
  pub inside_inv : (s : List ℕ) (a : A) (r : List ℕ) → inside n d s ≡ got a r → ((s ≡ close ∷ r) × (a ≡ nothing)) ⊎ (sequence cons one more n d s ≡ got a r)
  inside_inv [] a r e = no_bad (sym (q.inside_out n d) ∙ e)
  inside_inv (b ∷ s) a r e = go (eqb b close) refl
    where
      go : (t : Bool) → eqb b close ≡ t → ((b ∷ s ≡ close ∷ r) × (a ≡ nothing)) ⊎ (sequence cons one more n d (b ∷ s) ≡ got a r)
      go true h =
          let z = eqb-true b close h in
          let f : got nothing s ≡ got a r = sym (q.inside_none n d b s h) ∙ e in
          inl (cc, cc)
      go false h = inr (sym (q.inside_some n d b s h) ∙ e)

  -- what follows one: the closing byte, or a comma and some
  pub more_inv : (s : List ℕ) (a : A) (r : List ℕ) → more (suc n) d s ≡ got a r
      → ((s ≡ close ∷ r) × (a ≡ nothing)) ⊎ ((y : List ℕ) × (s ≡ 0x2C ∷ y) × (sequence cons one more n d (ws y) ≡ got a r))
  more_inv [] a r e = no_bad (sym (q.more_out (suc n) d) ∙ e)
  more_inv (b ∷ s) a r e = go (eqb b close) refl (eqb b 0x2C) refl
    where
      go : (t : Bool) → eqb b close ≡ t → (u : Bool) → eqb b 0x2C ≡ u
          → ((b ∷ s ≡ close ∷ r) × (a ≡ nothing)) ⊎ ((y : List ℕ) × (b ∷ s ≡ 0x2C ∷ y) × (sequence cons one more n d (ws y) ≡ got a r))
      go true h u k =
          let z = eqb-true b close h in
          let f : got nothing s ≡ got a r = sym (q.more_none n d b s h) ∙ e in
          inl (cc, cc)
      go false h true k =
          let z = eqb-true b 0x2C k in
          inr (s, cc, sym (ap (λ (c : ℕ). more (suc n) d (c ∷ s)) z ∙ q.more_some n d s) ∙ e)
      go false h false k = no_bad (sym (q.more_other n d b s h k) ∙ e)

-- A MEMBER: a string, a colon and a value

-- the bytes from the name's first character on, past its closing quotation mark, and past the colon; the name, and the value
pub record MemberRead (n d : ℕ) (s : List ℕ) (m : LMember) (r : List ℕ) : Type 0 where
  pub name : List ℕ
  pub closed : List ℕ
  pub colon : List ℕ
  pub codes : List ℕ
  pub value : LItem
  pub opens : s ≡ 0x22 ∷ name
  pub chars : read_chars n name ≡ got codes closed
  pub parts : ws closed ≡ 0x3A ∷ colon
  pub reads : read_value n d colon ≡ got value r
  pub is : named name (0x22 ∷ closed) codes value ≡ m

pub member_inv : (n d : ℕ) (s : List ℕ) (m : LMember) (r : List ℕ) → read_member n d s ≡ got m r → MemberRead n d s m r
member_inv n d s m r e =
    let i = expect_inv 0x22 s (λ f. then (read_chars n f) (λ cs z. expect 0x3A (ws z) (λ x. over (named f (0x22 ∷ z) cs) (read_value n d x)))) m r e in
    let j = then_inv (read_chars n i.0) (λ cs z. expect 0x3A (ws z) (λ x. over (named i.0 (0x22 ∷ z) cs) (read_value n d x))) m r i.2 in
    let k = expect_inv 0x3A (ws j.1) (λ x. over (named i.0 (0x22 ∷ j.1) j.0) (read_value n d x)) m r j.3 in
    let l = over_inv (named i.0 (0x22 ∷ j.1) j.0) (read_value n d k.0) m r k.2 in
    record {
      name = i.0;
      closed = j.1;
      colon = k.0;
      codes = j.0;
      value = l.0;
      opens = i.1;
      chars = j.2;
      parts = k.1;
      reads = l.1;
      is = l.2;
    }
