-- What a reader leaves is the end of what it was given.
use Rattle.std.specs.Prelude.{◌≡◌, refl, List, [], ◌∷◌, ◌++◌, ℕ, zero, suc, ◌-◌, ◌≤◌, ◌<◌, length, take, drop}
use Rattle.std.proofs.Common.{sym, ap, ◌∙◌, subst, append_assoc, arith, length-append, take-append-drop, drop_at}
use Rattle.json_grammar_rules.specs.Bytes.{is_ws}
use Rattle.json_grammar_rules.specs.Value.{LValue, LMember, item}
use Rattle.json_grammar_rules.specs.Places.{pos}
use Rattle.json_grammar_rules.specs.Reader.{Got, bad, got, ws, placed_item, read_chars, read_value}
use Rattle.json_grammar_rules.proofs.ReaderLaws.{no_bad, skipped}
use Rattle.json_grammar_rules.proofs.Sequences.{MemberRead}
use Rattle.json_grammar_rules.specs.Levels.{read_bare}
use Rattle.json_grammar_rules.proofs.Written.{Writes, longer}
use Rattle.json_grammar_rules.proofs.Written
use Rattle.json_grammar_rules.proofs.CharLaws.{chars_sound}
use Rattle.json_grammar_rules.proofs.Sound.{bare_found}

-- x is the end of s
pub record Ending (s x : List ℕ) : Type 0 where
  pub front : List ℕ
  pub is : s ≡ front ++ x

pub shorter_ending : {s x : List ℕ} → Ending s x → length x ≤ length s
shorter_ending {s} {x} e = omega (arith, ap length e.is, length-append e.front x)

-- it begins at its place
pub at_ending : {s x : List ℕ} → Ending s x → drop (pos s x) s ≡ x
unfolding pos
at_ending {s} {x} e =
    let l : length e.front ≡ length s - length x = omega (arith, ap length e.is, length-append e.front x) in
    ap (drop (length s - length x)) e.is ∙ drop_at e.front x (length s - length x) l

pub ending_of : {s x y : List ℕ} → Ending s x → Ending x y → Ending s y
ending_of {s} {x} {y} d e =
    record { front = d.front ++ e.front; is = d.is ∙ ap (λ (l : List ℕ). d.front ++ l) e.is ∙ sym (append_assoc d.front e.front y) }

pub ending_drop : (s : List ℕ) (p : ℕ) → Ending s (drop p s)
ending_drop s p = record { front = take p s; is = sym (take-append-drop p s) }

pub ending_byte : (b : ℕ) (x : List ℕ) → Ending (b ∷ x) x
ending_byte b x = record { front = b ∷ []; is = refl }

-- what is left of what a tree yields
ending_yield : {k : ℕ} {f : List ℕ → List ℕ} {s : List ℕ} (r : List ℕ) → Writes k f → s ≡ f r → Ending s r
ending_yield r w e = record { front = w.written; is = e ∙ w.is r }

-- .. and a byte of it at least was taken
pub yield_leaves : {f : List ℕ → List ℕ} {s : List ℕ} (r : List ℕ) → Writes 1 f → s ≡ f r → Ending s r × (length r < length s)
yield_leaves r w e = (ending_yield r w e, omega (arith, ap length e, longer w r))

pub ending_ws : (x : List ℕ) → Ending x (ws x)
ending_ws x = let i = skipped is_ws x in ending_yield (ws x) (Written.white i.0) i.1

-- A VALUE, between white space

pub record ValueRead (n d : ℕ) (x a b : List ℕ) (v : LValue) (y : List ℕ) : Type 0 where
  pub below : ℕ
  pub fuel : n ≡ suc below
  pub from : a ≡ ws x
  pub reads : read_bare below d a ≡ got v b
  pub past : y ≡ ws b
  pub begins : Ending x a
  pub ends : Ending a b
  pub some : length b < length a
  pub leaves : Ending x y

placed_item_lem : (f : List ℕ) (g : Got LValue) (a b : List ℕ) (v : LValue) (y : List ℕ) → placed_item f g ≡ got (item a b v) y → (a ≡ f) × (g ≡ got v b) × (y ≡ ws b)
placed_item_lem f bad a b v y e = no_bad e
placed_item_lem f (got w r) a b v y e = (cc, cc, cc)

pub value_read : (n d : ℕ) (x a b : List ℕ) (v : LValue) (y : List ℕ) → read_value n d x ≡ got (item a b v) y → ValueRead n d x a b v y
unfolding read_value
value_read zero d x a b v y e = no_bad e
value_read (suc n) d x a b v y e =
    let i = placed_item_lem (ws x) (read_bare n d (ws x)) a b v y e in
    let r : read_bare n d a ≡ got v b = ap (read_bare n d) i.0 ∙ i.1 in
    let t = bare_found n d a v b r in
    let begins : Ending x a = subst (λ (z : List ℕ). Ending x z) (sym i.0) (ending_ws x) in
    let ends : Ending a b = ending_yield b (Written.value t.0) t.1 in
    record {
      below = n;
      fuel = refl;
      from = i.0;
      reads = r;
      past = i.2;
      begins = begins;
      ends = ends;
      some = omega (arith, ap length t.1, longer (Written.value t.0) b);
      leaves = subst (λ (z : List ℕ). Ending x z) (sym i.2) (ending_of begins (ending_of ends (ending_ws b)));
    }

-- A MEMBER

-- past a string's closing quotation mark
pub chars_leave : (n : ℕ) (s cs r : List ℕ) → read_chars n s ≡ got cs r → Ending s r
chars_leave n s cs r e =
    let c = chars_sound n s cs r e in
    ending_of (ending_yield (0x22 ∷ r) (Written.chars c.0) c.1) (ending_byte 0x22 r)

module _ {n d : ℕ} {s : List ℕ} {m : LMember} {y : List ℕ} (r : MemberRead n d s m y) where
  pub name_ends : Ending s r.name
  name_ends = subst (λ (z : List ℕ). Ending z r.name) (sym r.opens) (ending_byte 0x22 r.name)

  colon_in : Ending r.closed r.colon
  colon_in = ending_of (ending_ws r.closed) (subst (λ (z : List ℕ). Ending z r.colon) (sym r.parts) (ending_byte 0x3A r.colon))

  pub colon_ends : Ending s r.colon
  colon_ends = ending_of name_ends (ending_of (chars_leave n r.name r.codes r.closed r.chars) colon_in)
