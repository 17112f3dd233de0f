-- Strings read and compared: a law for each way through each function.
use Rattle.std.specs.Prelude.{Some, None}
use mathlib.Core.Path.{◌≡◌, refl, sym, ap, ap₂, ◌∙◌, subst}
use mathlib.Core.Bool.{Bool, true, false}
use mathlib.Core.List.{List, [], ◌∷◌}
use Prim.Native.Nat.{ℕ, ◌+◌, ◌≤◌, ◌<◌}
use native.Mathlib.Omega.{arith}
use lib.Dec.{eqb}
use lib.ListN.{length, drop, get_or, drop_of_length-le}
use borrow.Author.Tests.{eq-eqb, ne_eqb, eqb-true, eqb-false}
use Rattle.common.proofs.Decided.{test_false}
use Rattle.common.specs.Same.{same}
use Rattle.common.proofs.SameLaws.{decides_same}
use Rattle.json_grammar_rules.specs.Reader.{Got, bad, got, over}
use Rattle.json_characters.specs.Characters.{CharAt}
use Rattle.json_string.specs.Ends.{End, end_of, at_byte, pos_drop}
use Rattle.json_string.specs.Strings.{text_at, string_end, given, same_of, same_text, mix, mix_all, unmixed, mixed_at, fingerprint_at, text_is}
use Rattle.json_string.specs.TextLaws.{text_quote, text_step, text_some, given_over, given_same}
use Rattle.json_characters.specs.Utf8.{utf8}
use Rattle.json_string.specs.Steps.{OctetsEnd}

-- THE END OF A STRING

module _ (s : List ℕ) (i : ℕ) where
  pub end_none : text_at s i ≡ bad → None ≡ string_end s i
  unfolding string_end
  end_none h = sym (ap (end_of s) h)

  pub end_quote : i < length s → get_or s i 0 ≡ 0x22 → Some (i + 1) ≡ string_end s i
  unfolding string_end
  end_quote h b = sym (ap (end_of s) (text_quote s i h b) ∙ ap Some (pos_drop s (i + 1) (omega arith)))

  pub end_on : (c e : ℕ) → text_at s i ≡ over (λ cs. c ∷ cs) (text_at s e) → string_end s e ≡ string_end s i
  unfolding string_end
  end_on c e h = sym (ap (end_of s) h ∙ go (text_at s e))
    where
      go : (g : Got (List ℕ)) → end_of s (over (λ cs. c ∷ cs) g) ≡ end_of s g
      go (got a r) = refl
      go bad = refl

-- TWO STRINGS

none_second : (g : Got (List ℕ)) → same_of g bad ≡ false
none_second (got cs r) = refl
none_second bad = refl

sames : (x y : ℕ) (g k : Got (List ℕ)) → x ≡ y → same_of (over (λ cs. x ∷ cs) g) (over (λ cs. y ∷ cs) k) ≡ same_of g k
unfolding same
sames x y (got cs r) (got ds t) e = rw (eq-eqb x y e)
sames x y (got cs r) bad e = refl
sames x y bad k e = refl

differs : (x y : ℕ) (g k : Got (List ℕ)) → (x ≡ y → ⊥) → same_of (over (λ cs. x ∷ cs) g) (over (λ cs. y ∷ cs) k) ≡ false
unfolding same
differs x y (got cs r) (got ds t) e = rw (ne_eqb x y e)
differs x y (got cs r) bad e = refl
differs x y bad k e = refl

module _ (s : List ℕ) (i : ℕ) (t : List ℕ) (j : ℕ) where
  pub same_none_i : text_at s i ≡ bad → false ≡ same_text s i t j
  unfolding same_text
  same_none_i h = sym (ap (λ (g : Got (List ℕ)). same_of g (text_at t j)) h)

  pub same_none_j : text_at t j ≡ bad → false ≡ same_text s i t j
  unfolding same_text
  same_none_j h = sym (ap (same_of (text_at s i)) h ∙ none_second (text_at s i))

  module _ (h : i < length s) (h' : j < length t) where
    pub same_quote_i : get_or s i 0 ≡ 0x22 → eqb (get_or t j 0) 0x22 ≡ same_text s i t j
    unfolding same_text same
    same_quote_i b = go (eqb (get_or t j 0) 0x22) refl ∙ sym (ap (λ (g : Got (List ℕ)). same_of g (text_at t j)) (text_quote s i h b))
      where
        go : (z : Bool) → eqb (get_or t j 0) 0x22 ≡ z → eqb (get_or t j 0) 0x22 ≡ given (same []) false (text_at t j)
        go true e = e ∙ sym (ap (given (same []) false) (text_quote t j h' (eqb-true (get_or t j 0) 0x22 e)))
        go false e = e ∙ sym (text_some t j h' (eqb-false (get_or t j 0) 0x22 e) (same []) (λ c a. refl))

    module _ (b : get_or s i 0 ≡ 0x22 → ⊥) where
      pub same_quote_j : get_or t j 0 ≡ 0x22 → false ≡ same_text s i t j
      unfolding same_text same
      same_quote_j b' = sym (ap (same_of (text_at s i)) (text_quote t j h' b') ∙ go (text_at s i) ∙ text_some s i h b (λ cs. same cs []) (λ c a. refl))
        where
          go : (g : Got (List ℕ)) → same_of g (got [] (drop (j + 1) t)) ≡ given (λ cs. same cs []) false g
          go (got cs r) = refl
          go bad = refl

      module _ (b' : get_or t j 0 ≡ 0x22 → ⊥) (x i₂ y j₂ : ℕ) (w : CharAt s i (Some (x, i₂))) (w' : CharAt t j (Some (y, j₂))) where
        firsts : same_text s i t j ≡ same_of (over (λ cs. x ∷ cs) (text_at s i₂)) (over (λ cs. y ∷ cs) (text_at t j₂))
        unfolding same_text
        firsts = ap₂ same_of (text_step s i h b x i₂ w) (text_step t j h' b' y j₂ w')

        pub same_step : x ≡ y → same_text s i₂ t j₂ ≡ same_text s i t j
        unfolding same_text
        same_step e = sym (firsts ∙ sames x y (text_at s i₂) (text_at t j₂) e)

        pub same_differ : (x ≡ y → ⊥) → false ≡ same_text s i t j
        same_differ e = sym (firsts ∙ differs x y (text_at s i₂) (text_at t j₂) e)

-- FINGERPRINTS

module _ (s : List ℕ) (i g : ℕ) where
  pub mixed_none : text_at s i ≡ bad → 0 ≡ mixed_at s i g
  unfolding mixed_at
  mixed_none h = sym (ap (given (mix_all g) 0) h)

  pub mixed_all : {r : List ℕ} → text_at s i ≡ got [] r → g ≡ mixed_at s i g
  unfolding mixed_at mix_all
  mixed_all h = sym (ap (given (mix_all g) 0) h)

  pub mixed_on : (c e x : ℕ) → text_at s i ≡ over (λ cs. c ∷ cs) (text_at s e) → x ≡ mix g c → mixed_at s e x ≡ mixed_at s i g
  unfolding mixed_at mix_all
  mixed_on c e x h m =
      sym (ap (given (mix_all g) 0) h ∙ given_over (mix_all g) (λ cs. c ∷ cs) (mix_all x) 0 (λ cs. ap (λ (y : ℕ). mix_all y cs) (sym m)) (text_at s e))

-- strings with other fingerprints have other code points
pub fingerprints_differ : (s : List ℕ) (p : ℕ) (t : List ℕ) (q x y : ℕ) → x ≡ fingerprint_at s p → y ≡ fingerprint_at t q → (x ≡ y → ⊥) → false ≡ same_text s p t q
unfolding mixed_at same_text
fingerprints_differ s p t q x y = go (text_at s p) (text_at t q)
  where
    go : (g k : Got (List ℕ)) → x ≡ given (mix_all unmixed) 0 g → y ≡ given (mix_all unmixed) 0 k → (x ≡ y → ⊥) → false ≡ same_of g k
    go (got cs r) (got ds r') e f n = sym (test_false (decides_same cs ds) (λ z. n (e ∙ ap (mix_all unmixed) z ∙ sym f)))
    go (got cs r) bad e f n = refl
    go bad k e f n = refl

-- A STRING AND A WORD

pub word_ended : (w : List ℕ) (at c : ℕ) (q q' : End) → OctetsEnd w at c q → q ≡ q' → OctetsEnd w at c q'
word_ended w at c q q' h e = subst (λ (x : End). OctetsEnd w at c x) e h

pub word_after : (w : List ℕ) (at c e : ℕ) → OctetsEnd w at c (Some e) → e ≤ length w
unfolding OctetsEnd
word_after w at c e h = h.1

pub is_none : (s : List ℕ) (i : ℕ) (w : List ℕ) → text_at s i ≡ bad → false ≡ text_is s i w
unfolding text_is
is_none s i w h = sym (ap (given (λ cs. same (utf8 cs) w) false) h)

module _ (s : List ℕ) (i : ℕ) (w : List ℕ) (k : ℕ) where
  pub is_quote : i < length s → get_or s i 0 ≡ 0x22 → k ≤ length w → eqb k (length w) ≡ text_is s i (drop k w)
  unfolding text_is same utf8
  is_quote h b l = go (eqb k (length w)) refl ∙ sym (ap (given (λ cs. same (utf8 cs) (drop k w)) false) (text_quote s i h b))
    where
      go : (t : Bool) → eqb k (length w) ≡ t → eqb k (length w) ≡ same [] (drop k w)
      go true e = e ∙ sym (ap (same []) (drop_of_length-le w {i = k} (omega (arith, eqb-true k (length w) e))))
      go false e = e ∙ sym (ap (same []) (at_byte w k (omega (arith, eqb-false k (length w) e))))

  module _ (c e : ℕ) (x : text_at s i ≡ over (λ cs. c ∷ cs) (text_at s e)) where
    -- by what f makes of the characters after the first
    is_more : (f : List ℕ → Bool) → ((cs : List ℕ) → same (utf8 (c ∷ cs)) (drop k w) ≡ f cs) → text_is s i (drop k w) ≡ given f false (text_at s e)
    unfolding text_is
    is_more f q =
        ap (given (λ cs. same (utf8 cs) (drop k w)) false) x
        ∙ given_over (λ cs. same (utf8 cs) (drop k w)) (λ cs. c ∷ cs) f false q (text_at s e)

    pub is_step : (m : ℕ) → OctetsEnd w k c (Some m) → text_is s e (drop m w) ≡ text_is s i (drop k w)
    unfolding text_is utf8 OctetsEnd
    is_step m o = sym (is_more (λ cs. same (utf8 cs) (drop m w)) (λ cs. o.2 (utf8 cs)))

    pub is_differ : OctetsEnd w k c None → false ≡ text_is s i (drop k w)
    unfolding utf8 OctetsEnd
    is_differ o = sym (is_more (λ _. false) (λ cs. o (utf8 cs)) ∙ given_same false (text_at s e))
