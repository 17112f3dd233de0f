-- Numbers: what the grammar derives the reader reads, and what it reads is derived.
use Rattle.std.specs.Prelude.{◌≡◌, refl, Bool, true, false, ◌||◌, List, [], ◌∷◌, ℕ, ◌≤◌, eqb}
use Rattle.std.proofs.Common.{sym, ap, ◌∙◌, arith, eqb-true, ne_eqb}
use Rattle.std.proofs.lemmas.Bool.{not-true}
use Rattle.json_grammar_rules.specs.Bytes.{within, is_ws, is_digit, is_digit19, is_e, is_sign}
use Rattle.json_grammar_rules.specs.Grammar.{Digits, Digits1, digits1, Minus, no_minus, minus, Int, int_zero, int_digits, Frac, no_frac, fraction}
use Rattle.json_grammar_rules.specs.Grammar.{Sign, no_sign, sign}
use Rattle.json_grammar_rules.specs.Grammar.{Exp, no_exp, exponent, Number, number_of, yield_many, yield_digits1, yield_minus, yield_int, yield_frac}
use Rattle.json_grammar_rules.specs.Grammar.{yield_sign, yield_exp, yield_number}
use Rattle.json_grammar_rules.specs.Reader.{got, then, past, skip, past_digits, int_by, past_int, frac_by, past_frac, optional_by, optional, exp_by}
use Rattle.json_grammar_rules.specs.Reader.{past_exp, past_unsigned, past_number, read_number}
use Rattle.json_grammar_rules.specs.Reader.{value_lead, number_lead}
use Rattle.common.specs.Truth.{neither}
use Rattle.json_grammar_rules.proofs.ByteLaws.{within_true, e_cases}
use Rattle.json_grammar_rules.proofs.ReaderLaws.{no_bad, then_inv, one_inv, next_not, skip_none, skip_many, skipped}
use Rattle.json_grammar_rules.proofs.Written.{up_to_lem, number}

-- COMPLETE

-- a number ends where no byte follows that could continue it
abbrev continues : ℕ → Bool
continues b = is_digit b || (eqb b 0x2E || is_e b)

abbrev pub Stops : List ℕ → Type 0
Stops r = next_not continues r ≡ true

abbrev NoDigit : List ℕ → Type 0
NoDigit r = next_not is_digit r ≡ true

abbrev NoPoint : List ℕ → Type 0
NoPoint r = next_not (λ b. eqb b 0x2E) r ≡ true

abbrev NoE : List ℕ → Type 0
NoE r = next_not is_e r ≡ true

none_next : (r : List ℕ) → Stops r → NoDigit r × NoPoint r × NoE r
none_next [] st = (refl, refl, refl)
none_next (b ∷ r) st =
    let i = neither (is_digit b) _ (not-true (continues b) st) in
    let j = neither (eqb b 0x2E) (is_e b) i.1 in
    (rw i.0, rw j.0, rw j.1)

past_digits_lem : (ds : Digits) (r : List ℕ) → NoDigit r → skip is_digit (yield_many ds r) ≡ r
past_digits_lem ds r e = skip_many is_digit ds r ∙ skip_none is_digit r e

past_digits1 : (ds : Digits1) (r : List ℕ) → NoDigit r → past_digits (yield_digits1 ds r) ≡ past r
unfolding yield_digits1
past_digits1 (digits1 b h ds) r e = rw (h, past_digits_lem ds r e)

past_int_lem : (i : Int) (r : List ℕ) → NoDigit r → past_int (yield_int i r) ≡ past r
unfolding yield_int is_digit19
past_int_lem int_zero r e = refl
past_int_lem (int_digits b h ds) r e = let k = within_true 0x31 0x39 b h in rw (ne_eqb b 0x30 (omega (arith, k.0)), h, past_digits_lem ds r e)

past_frac_lem : (f : Frac) (r : List ℕ) → NoDigit r → NoPoint r → past_frac (yield_frac f r) ≡ past r
unfolding yield_frac
past_frac_lem no_frac [] e g = refl
past_frac_lem no_frac (b ∷ r) e g = rw (not-true (eqb b 0x2E) g)
past_frac_lem (fraction ds) r e g = past_digits1 ds r e

digit_no_sign : (b : ℕ) → is_digit b ≡ true → is_sign b ≡ false
unfolding is_digit is_sign
digit_no_sign b h = let k = within_true 0x30 0x39 b h in rw (ne_eqb b 0x2D (omega (arith, k.0)), ne_eqb b 0x2B (omega (arith, k.0)))

past_sign : (s : Sign) (ds : Digits1) (r : List ℕ) → optional is_sign (yield_sign s (yield_digits1 ds r)) ≡ yield_digits1 ds r
unfolding yield_sign yield_digits1
past_sign no_sign (digits1 b h ds) r = rw (digit_no_sign b h)
past_sign (sign c k) ds r = rw k

past_exp_lem : (x : Exp) (r : List ℕ) → NoDigit r → NoE r → past_exp (yield_exp x r) ≡ past r
unfolding yield_exp
past_exp_lem no_exp [] e g = refl
past_exp_lem no_exp (b ∷ r) e g = rw (not-true (is_e b) g)
past_exp_lem (exponent c h s ds) r e g = rw (h, past_sign s ds r) (past_digits1 ds r e)

-- what follows an integer is no digit, and what follows a fraction is no digit and no point
after_exp : (x : Exp) (r : List ℕ) → NoDigit r → NoPoint r → NoDigit (yield_exp x r) × NoPoint (yield_exp x r)
unfolding yield_exp is_digit within
after_exp no_exp r d p = (d, p)
after_exp (exponent c h s ds) r d p = e_cases (λ b. NoDigit (b ∷ r) × NoPoint (b ∷ r)) (refl, refl) (refl, refl) c h

after_frac : (f : Frac) (r : List ℕ) → NoDigit r → NoDigit (yield_frac f r)
unfolding yield_frac is_digit within
after_frac no_frac r e = e
after_frac (fraction ds) r e = refl

past_unsigned_lem : (i : Int) (f : Frac) (x : Exp) (r : List ℕ) → Stops r → past_unsigned (yield_int i (yield_frac f (yield_exp x r))) ≡ past r
past_unsigned_lem i f x r st =
    let n = none_next r st in
    let q = after_exp x r n.0 n.1 in
    rw (past_int_lem i (yield_frac f (yield_exp x r)) (after_frac f (yield_exp x r) q.0), past_frac_lem f (yield_exp x r) q.0 q.1) (past_exp_lem x r n.0 n.2)

-- a number's first byte
pub record First (s : List ℕ) : Type 0 where
  pub first : ℕ
  pub rest : List ℕ
  pub is : s ≡ first ∷ rest
  pub low : 0x2D ≤ first
  pub high : first ≤ 0x39

int_first : (i : Int) (r : List ℕ) → (f : First (yield_int i r)) × (0x30 ≤ f.first)
unfolding yield_int is_digit19
int_first int_zero r = (record { first = 0x30; rest = r; is = refl; low = omega arith; high = omega arith }, omega arith)
int_first (int_digits b h ds) r =
    let k = within_true 0x31 0x39 b h in
    (record { first = b; rest = yield_many ds r; is = refl; low = omega (arith, k.0); high = k.1 }, omega (arith, k.0))

pub number_first : (n : Number) (r : List ℕ) → First (yield_number n r)
unfolding yield_number yield_minus
number_first (number_of minus i f x) r = record { first = 0x2D; rest = yield_int i (yield_frac f (yield_exp x r)); is = refl; low = omega arith; high = omega arith }
number_first (number_of no_minus i f x) r = (int_first i (yield_frac f (yield_exp x r))).0

-- it is no white space and begins no other value
pub number_lead_lem : (b : ℕ) → 0x2D ≤ b → b ≤ 0x39 → (is_ws b ≡ false) × (value_lead b ≡ number_lead)
unfolding is_ws value_lead
number_lead_lem b l h = (
  rw (ne_eqb b 0x20 (omega arith), ne_eqb b 0x09 (omega arith), ne_eqb b 0x0A (omega arith), ne_eqb b 0x0D (omega arith)),
  rw (
    ne_eqb b 0x22 (omega arith),
    ne_eqb b 0x5B (omega arith),
    ne_eqb b 0x7B (omega arith),
    ne_eqb b 0x74 (omega arith),
    ne_eqb b 0x66 (omega arith),
    ne_eqb b 0x6E (omega arith),
  ),
)

pub past_number_lem : (n : Number) (r : List ℕ) → Stops r → past_number (yield_number n r) ≡ past r
unfolding yield_number yield_minus past_number
past_number_lem (number_of minus i f x) r st = past_unsigned_lem i f x r st
past_number_lem (number_of no_minus i f x) r st =
    let q = int_first i (yield_frac f (yield_exp x r)) in
    let k : optional (λ b. eqb b 0x2D) (q.0.first ∷ q.0.rest) ≡ q.0.first ∷ q.0.rest = rw (ne_eqb q.0.first 0x2D (omega (arith, q.1))) in
    ap (λ (s : List ℕ). past_unsigned (optional (λ b. eqb b 0x2D) s)) q.0.is ∙ ap past_unsigned (k ∙ sym q.0.is) ∙ past_unsigned_lem i f x r st

pub complete_number : (n : Number) (r : List ℕ) → Stops r → read_number (yield_number n r) ≡ got (yield_number n []) r
complete_number n r st = rw (past_number_lem n r st) (ap (λ (s : List ℕ). got s r) (up_to_lem (number n) r))

-- SOUND

digits_sound : (s r : List ℕ) → past_digits s ≡ past r → (ds : Digits1) × (s ≡ yield_digits1 ds r)
unfolding yield_digits1
digits_sound s r e =
    let i = one_inv is_digit s (λ _ y. past (skip is_digit y)) tt r e in
    let m = skipped is_digit i.1 in
    (digits1 i.0 i.3 m.0, join i.0 i.1 m.0 i.2 m.1 i.4)
  where
    join : (b : ℕ) (y : List ℕ) (ds : Digits) → s ≡ b ∷ y → y ≡ yield_many ds (skip is_digit y) → past (skip is_digit y) ≡ past r → s ≡ b ∷ yield_many ds r
    join b y ds p q f = let z : skip is_digit y ≡ r = cc in p ∙ ap (λ (l : List ℕ). b ∷ l) (q ∙ ap (yield_many ds) z)

int_sound : (s r : List ℕ) → past_int s ≡ past r → (i : Int) × (s ≡ yield_int i r)
unfolding yield_int
int_sound [] r e = no_bad e
int_sound (b ∷ s) r e = go (eqb b 0x30) refl (is_digit19 b) refl e
  where
    go : (t : Bool) → eqb b 0x30 ≡ t → (u : Bool) → is_digit19 b ≡ u → int_by t u s ≡ past r → (i : Int) × (b ∷ s ≡ yield_int i r)
    go true h u g k = let z = eqb-true b 0x30 h in (int_zero, cc)
    go false h true g k =
        let m = skipped is_digit s in
        let q : skip is_digit s ≡ r = cc in
        (int_digits b g m.0, ap (λ (l : List ℕ). b ∷ l) (m.1 ∙ ap (yield_many m.0) q))
    go false h false g k = no_bad k

frac_sound : (s r : List ℕ) → past_frac s ≡ past r → (f : Frac) × (s ≡ yield_frac f r)
unfolding yield_frac
frac_sound [] r e = (no_frac, cc)
frac_sound (b ∷ s) r e = go (eqb b 0x2E) refl e
  where
    go : (t : Bool) → eqb b 0x2E ≡ t → frac_by t b s ≡ past r → (f : Frac) × (b ∷ s ≡ yield_frac f r)
    go true h k = let z = eqb-true b 0x2E h in let a = digits_sound s r k in (fraction a.0, cc (z, a.1))
    go false h k = (no_frac, cc)

sign_sound : (s : List ℕ) → (g : Sign) × (s ≡ yield_sign g (optional is_sign s))
unfolding yield_sign
sign_sound [] = (no_sign, refl)
sign_sound (b ∷ s) = go (is_sign b) refl
  where
    go : (t : Bool) → is_sign b ≡ t → (g : Sign) × (b ∷ s ≡ yield_sign g (optional_by t b s))
    go true e = (sign b e, refl)
    go false e = (no_sign, refl)

exp_sound : (s r : List ℕ) → past_exp s ≡ past r → (x : Exp) × (s ≡ yield_exp x r)
unfolding yield_exp
exp_sound [] r e = (no_exp, cc)
exp_sound (b ∷ s) r e = go (is_e b) refl e
  where
    go : (t : Bool) → is_e b ≡ t → exp_by t b s ≡ past r → (x : Exp) × (b ∷ s ≡ yield_exp x r)
    go true h k =
        let g = sign_sound s in
        let a = digits_sound (optional is_sign s) r k in
        (exponent b h g.0 a.0, ap (λ (l : List ℕ). b ∷ l) (g.1 ∙ ap (yield_sign g.0) a.1))
    go false h k = (no_exp, cc)

minus_sound : (s : List ℕ) → (m : Minus) × (s ≡ yield_minus m (optional (λ b. eqb b 0x2D) s))
unfolding yield_minus
minus_sound [] = (no_minus, refl)
minus_sound (b ∷ s) = go (eqb b 0x2D) refl
  where
    go : (t : Bool) → eqb b 0x2D ≡ t → (m : Minus) × (b ∷ s ≡ yield_minus m (optional_by t b s))
    go true e = let z = eqb-true b 0x2D e in (minus, cc)
    go false e = (no_minus, refl)

pub number_sound : (s r : List ℕ) → past_number s ≡ past r → (n : Number) × (s ≡ yield_number n r)
unfolding yield_number past_number
number_sound s r e =
    let m = minus_sound s in
    let a = then_inv (past_int (optional (λ b. eqb b 0x2D) s)) (λ _ y. then (past_frac y) (λ _ z. past_exp z)) tt r e in
    let b = then_inv (past_frac a.1) (λ _ z. past_exp z) tt r a.3 in
    let i = int_sound (optional (λ b. eqb b 0x2D) s) a.1 a.2 in
    let f = frac_sound a.1 b.1 b.2 in
    let x = exp_sound b.1 r b.3 in
    (number_of m.0 i.0 f.0 x.0, m.1 ∙ ap (yield_minus m.0) (i.1 ∙ ap (yield_int i.0) (f.1 ∙ ap (yield_frac f.0) x.1)))
