-- Laws of a lent buffer: bytes laid at its front, piece after piece, and the part of it from a place on; a copy into zeros.
use Rattle.std.specs.Prelude.{◌≡◌, List, [], ◌∷◌, ◌++◌, ℕ, suc, ◌+◌, ◌-◌, ◌≤◌, length, take, drop, set, replicate}
use Rattle.std.proofs.Common.{ap, ap₂, sym, ◌∙◌, append_assoc, append-nil, le_refl, zero-add, arith, length-append, length-drop, drop_of_length-le, take_at, drop_at, drop-drop, take_all, length-take-le}
use Rattle.std.proofs.lemmas.List.Edits.{sets, sets-eq}
use Rattle.std.proofs.Math.Seq.{paste, take-length}
use borrow.Rule.Slice.PartMut.{put_mid}
use Rattle.common.specs.Buffer.{filled, laid, Front}
use Rattle.common.specs.BufferLaws.{drop_replicate}

-- stores in a row, as the code has them
pub three_stores : (l : List ℕ) (n a b c : ℕ) → set (set (set l n a) (n + 1) b) (n + 2) c ≡ sets l n (a ∷ b ∷ c ∷ [])
three_stores l n a b c =
    let e1 : n + 1 ≡ suc n = omega arith in
    let e2 : n + 2 ≡ suc (suc n) = omega arith in
    rw (e1, e2)

pub four_stores : (l : List ℕ) (n a b c d : ℕ) → set (set (set (set l n a) (n + 1) b) (n + 2) c) (n + 3) d ≡ sets l n (a ∷ b ∷ c ∷ d ∷ [])
four_stores l n a b c d =
    let e : n + 3 ≡ suc (suc (suc n)) = omega arith in
    rw e (ap (λ (k : List ℕ). set k (suc (suc (suc n))) d) (three_stores l n a b c))

pub six_stores : (l : List ℕ) (n a b c d e f : ℕ)
    → set (set (set (set (set (set l n a) (n + 1) b) (n + 2) c) (n + 3) d) (n + 4) e) (n + 5) f ≡ sets l n (a ∷ b ∷ c ∷ d ∷ e ∷ f ∷ [])
six_stores l n a b c d e f =
    let e4 : n + 4 ≡ suc (suc (suc (suc n))) = omega arith in
    let e5 : n + 5 ≡ suc (suc (suc (suc (suc n)))) = omega arith in
    rw (e4, e5) (ap (λ (k : List ℕ). set (set k (suc (suc (suc (suc n)))) e) (suc (suc (suc (suc (suc n))))) f) (four_stores l n a b c d))

-- THE PART FROM A PLACE ON

-- as the code lends it; and the list with another part in its place
pub part_from : (n : ℕ) (l : List ℕ) → take (length l - n) (drop n l) ≡ drop n l
part_from n l = take_all (length l - n) (drop n l) (rw (length-drop n l) (le_refl _))

pub put_from : (n : ℕ) (l q : List ℕ) → put_mid n (length l - n) l q ≡ take n l ++ q
put_from n l q = let e = drop_of_length-le (drop n l) {i = length l - n} (rw (length-drop n l) (le_refl _)) in rw (e, append-nil)

-- cleared from n on: the first n bytes, and then zeros
pub cleared_from : (n room : ℕ) (b z : List ℕ) → length b ≡ room → n ≤ length b → z ≡ replicate (length (take (length b - n) (drop n b))) 0
    → put_mid n (length b - n) b z ≡ filled room (take n b)
cleared_from n room b z e h k =
    let m : length (take (length b - n) (drop n b)) ≡ room - length (take n b) = ap length (part_from n b) ∙ omega (arith, length-drop n b, length-take-le n b h) in
    put_from n b z ∙ ap (λ (x : List ℕ). take n b ++ x) (k ∙ ap (λ (x : ℕ). replicate x 0) m)

-- ZEROS, with r copied over their start
pub copied_zeros : (room : ℕ) (r : List ℕ) → paste (replicate room 0) 0 r (length r) ≡ filled room r
copied_zeros room r = rw (take-length, zero-add, drop_replicate)

-- BYTES AT THE FRONT

module _ (p out : List ℕ) (n : ℕ) (h : length p ≡ n) where
  -- what follows p is as it was
  pub drop_laid : drop n (laid p out) ≡ drop n out
  drop_laid = drop_at p (drop (length p) out) n h ∙ ap (λ (k : ℕ). drop k out) h

  pub take_laid : take n (laid p out) ≡ p
  take_laid = take_at p (drop (length p) out) n h

  pub length_laid : n ≤ length out → length (laid p out) ≡ length out
  length_laid k = length-append p (drop (length p) out) ∙ omega (arith, length-drop (length p) out)

  -- a piece more, laid into the part after p
  laid_behind : (q : List ℕ) → p ++ laid q (drop n out) ≡ laid (p ++ q) out
  laid_behind q =
      sym (append_assoc p q (drop (length q) (drop n out)))
      ∙ ap (λ (l : List ℕ). (p ++ q) ++ l) (drop-drop (length q) n out ∙ ap (λ (k : ℕ). drop k out) (ap (λ (k : ℕ). k + length q) (sym h) ∙ sym (length-append p q)))

  pub laid_part : (q : List ℕ) → take n (laid p out) ++ laid q (drop n (laid p out)) ≡ laid (p ++ q) out
  laid_part q = rw (take_laid, drop_laid) (laid_behind q)

  -- .. and by stores
  pub laid_stores : (q : List ℕ) → n + length q ≤ length out → sets (laid p out) n q ≡ laid (p ++ q) out
  laid_stores q k =
      sets-eq q (laid p out) n (rw (length_laid (omega arith)) k)
      ∙ ap₂ (λ (u v : List ℕ). (u ++ q) ++ v) take_laid (sym (drop-drop (length q) n (laid p out)) ∙ ap (drop (length q)) drop_laid)
      ∙ append_assoc p q (drop (length q) (drop n out))
      ∙ laid_behind q

  -- .. and by a copy
  pub laid_copied : (q : List ℕ) → paste (laid p out) n q (length q) ≡ laid (p ++ q) out
  laid_copied q = rw (take-length q, take_laid, ← drop-drop (length q) n (laid p out), drop_laid) (append_assoc p q (drop (length q) (drop n out)) ∙ laid_behind q)

-- A FRONT

module _ {s old : List ℕ} {n : ℕ} {out : List ℕ} (f : Front s old n out) where
  pub front_is : take n out ≡ s
  front_is = ap (take n) f.buffer ∙ take_laid s old n (sym f.size)

  pub front_length : n ≤ length old → length out ≡ length old
  front_length h = ap length f.buffer ∙ length_laid s old n (sym f.size) h

  -- k bytes more
  pub front_copied : (q new : List ℕ) (k : ℕ) → k ≡ length q → new ≡ paste out n q (length q) → Front (s ++ q) old (n + k) new
  front_copied q new k l e = record {
    size = omega (arith, f.size, length-append s q);
    buffer = e ∙ ap (λ (x : List ℕ). paste x n q (length q)) f.buffer ∙ laid_copied s old n (sym f.size) q;
  }

-- what f gives for p stands at the front; then so does what it gives for p and t, once its t is stored behind, or written into the part there
module _ (f : List ℕ → List ℕ) (p t out₀ : List ℕ) (n : ℕ) (append : f (p ++ t) ≡ f p ++ f t) (h : length (f p) ≡ n) where
  pub grown : (out vs : List ℕ) → out ≡ laid (f p) out₀ → f t ≡ vs → n + length vs ≤ length out₀ → sets out n vs ≡ laid (f (p ++ t)) out₀
  grown out vs e g k = rw (e, append, g) (laid_stores (f p) out₀ n h vs k)

  pub grown_part : (out₁ out₂ : List ℕ) → out₁ ≡ laid (f p) out₀ → out₂ ≡ laid (f t) (take (length out₁ - n) (drop n out₁))
      → put_mid n (length out₁ - n) out₁ out₂ ≡ laid (f (p ++ t)) out₀
  grown_part out₁ out₂ e g = put_from n out₁ out₂ ∙ rw (g, part_from, e, append) (laid_part (f p) out₀ n h (f t))
