-- Decoding two groups more, a group alone, and what follows whole groups.
use mathlib.Core.Path.{◌≡◌, refl, ap, sym, ◌∙◌}
use mathlib.Core.Bool.{Bool, true, false, cond, ◌&&◌, false≢true}
use mathlib.Core.List.{List, [], ◌∷◌, ◌++◌}
use Prim.Native.Nat.{ℕ, ◌+◌, ◌-◌, ◌*◌, ◌/◌, ◌%◌, ◌≤◌}
use native.Mathlib.Omega.{arith}
use lib.ListN.{length, get_or, take, drop, set, take-append-drop, length-drop}
use lib.Seq.{take-add, length-take-le}
use borrow.Rule.Slice.PartMut.{put_mid}
use Rattle.std.specs.Prelude.{Some, None}
use Rattle.common.specs.Buffer.{laid}
use Rattle.common.specs.Laid.{part_from, six_stores, laid_stores}
use Rattle.base64url_rules.specs.Base64url.{decode, alphabetic, unused_bits, strict}
use Rattle.base64url_rules.proofs.GroupLaws.{strict_append}
use Rattle.base64url_rules.proofs.Grouping.{decode_grouping, part_more, then_rest}
use Rattle.base64url_rules.proofs.Listed.{as_entries}
use Rattle.base64url_rules.proofs.Tables.{entries}
use Rattle.base64url_rules.proofs.LengthLaws.{length_decode}
use Rattle.base64url_words.specs.Words.{grouped}
use Rattle.base64url_decoding.specs.Writing.{Decodes}

-- what the answer for whole groups says of them
pub some_group : (s : List ℕ) {bytes : List ℕ} → Some bytes ≡ grouped s → (strict s ≡ true) × (decode s ≡ bytes)
some_group s {bytes} e = go (strict s) refl e
  where
    go : (t : Bool) → strict s ≡ t → Some bytes ≡ cond t (Some (decode s)) None → (strict s ≡ true) × (decode s ≡ bytes)
    go true h e = (h, cc)
    go false h e = cc

pub no_group : (s : List ℕ) → None ≡ grouped s → strict s ≡ false
no_group s e = go (strict s) refl e
  where
    go : (t : Bool) → strict s ≡ t → None ≡ cond t (Some (decode s)) None → strict s ≡ false
    go true h e = cc
    go false h e = h

pub not_strict : {s out₀ out : List ℕ} → strict s ≡ false → Decodes s out₀ false out
not_strict e = record { answer = sym e; bytes = λ t. absurd (false≢true t) }

pub nothing : (out : List ℕ) → Decodes [] out true out
unfolding strict alphabetic unused_bits decode
nothing out = record { answer = refl; bytes = λ _. refl }

-- where whole groups end, a text can be judged in two parts
module _ (s : List ℕ) (n : ℕ) (groups : n % 4 ≡ 0) (h : n ≤ length s) where
  front : length (take n s) ≡ n
  front = length-take-le n s h

  strict_split : strict s ≡ strict (take n s) && strict (drop n s)
  strict_split = ap strict (sym (take-append-drop n s)) ∙ strict_append (take n s) (drop n s) (rw front groups)

  pub front_refused : strict (take n s) ≡ false → strict s ≡ false
  front_refused e = rw e at strict_split

-- after i pairs of groups comes the next
module _ (s out₀ out : List ℕ) (i : ℕ) (hs : i * 8 + 8 ≤ length s) (d : Decodes (take (i * 8) s) out₀ true out) where
  abbrev next : List ℕ
  next = take 8 (drop (i * 8) s)

  end : (i + 1) * 8 ≡ i * 8 + 8
  end = omega arith

  strict_next : strict (take ((i + 1) * 8) s) ≡ strict next
  strict_next =
      let groups : length (take (i * 8) s) % 4 ≡ 0 = omega (arith, length-take-le (i * 8) s (omega arith)) in
      rw (end, take-add (i * 8) 8 s) (strict_append (take (i * 8) s) next groups ∙ rw (← d.answer))

  pub one_more : {bytes : List ℕ} → i * 6 + 6 ≤ length out₀ → Some bytes ≡ grouped next
      → Decodes (take ((i + 1) * 8) s) out₀ true
      (set (set (set (set (set (set out (i * 6) (get_or bytes 0 0)) (i * 6 + 1) (get_or bytes 1 0)) (i * 6 + 2) (get_or bytes 2 0)) (i * 6 + 3) (get_or bytes 3 0)) (i * 6 + 4) (get_or bytes 4 0)) (i * 6 + 5) (get_or bytes 5 0))
  unfolding entries
  one_more {bytes} room e =
      let g = some_group next e in
      let eight : length next ≡ 8 = length-take-le 8 (drop (i * 8) s) (rw (length-drop (i * 8) s) (omega arith)) in
      let six : length bytes ≡ 6 = omega (arith, ap length g.1, length_decode next) in
      record {
        answer = sym (strict_next ∙ g.0);
        bytes =
            λ _. six_stores out (i * 6) (get_or bytes 0 0) (get_or bytes 1 0) (get_or bytes 2 0) (get_or bytes 3 0) (get_or bytes 4 0) (get_or bytes 5 0)
            ∙ part_more decode_grouping s out₀ (i * 8) (i * 6) (omega arith) (omega arith) (omega arith) 8 ((i + 1) * 8) end (omega arith) (d.bytes refl)
            (g.1 ∙ sym (as_entries bytes 6 six));
      }

  pub refused : None ≡ grouped next → Decodes s out₀ false out
  refused e = not_strict (front_refused s ((i + 1) * 8) (omega arith) (omega arith) (strict_next ∙ no_group next e))

-- a group at the front, number by number
abbrev pub first_four : List ℕ → List ℕ
first_four s = get_or s 0 0 ∷ get_or s 1 0 ∷ get_or s 2 0 ∷ get_or s 3 0 ∷ []

pub group_refused : (s : List ℕ) → 4 ≤ length s → None ≡ grouped (first_four s) → strict s ≡ false
group_refused [] h e = absurd (omega arith)
group_refused (a ∷ []) h e = absurd (omega arith)
group_refused (a ∷ b ∷ []) h e = absurd (omega arith)
group_refused (a ∷ b ∷ c ∷ []) h e = absurd (omega arith)
group_refused (a ∷ b ∷ c ∷ d ∷ s) h e = front_refused (a ∷ b ∷ c ∷ d ∷ s) 4 refl (omega arith) (no_group (a ∷ b ∷ c ∷ d ∷ []) e)

pub group_first : (s out : List ℕ) {bytes : List ℕ} → 4 ≤ length s → 3 ≤ length out → Some bytes ≡ grouped (first_four s)
    → Decodes (take 4 s) out true (set (set (set out 0 (get_or bytes 0 0)) 1 (get_or bytes 1 0)) 2 (get_or bytes 2 0))
unfolding entries
group_first [] out h k e = absurd (omega arith)
group_first (a ∷ []) out h k e = absurd (omega arith)
group_first (a ∷ b ∷ []) out h k e = absurd (omega arith)
group_first (a ∷ b ∷ c ∷ []) out h k e = absurd (omega arith)
group_first (a ∷ b ∷ c ∷ d ∷ s) out {bytes} h k e =
    let g = some_group (a ∷ b ∷ c ∷ d ∷ []) e in
    let three : length bytes ≡ 3 = omega (arith, ap length g.1, length_decode (a ∷ b ∷ c ∷ d ∷ [])) in
    record {
      answer = sym g.0;
      bytes =
          λ _. laid_stores [] out 0 refl (get_or bytes 0 0 ∷ get_or bytes 1 0 ∷ get_or bytes 2 0 ∷ []) k
          ∙ ap (λ (l : List ℕ). laid l out) (as_entries bytes 3 three ∙ sym g.1);
    }

-- the first n characters, whole groups, and then the rest
pub whole : (s out₀ out₁ out₂ : List ℕ) (n m : ℕ) {ok r : Bool} → n % 4 ≡ 0 → n ≤ length s → n / 4 * 3 ≡ m → ok ≡ true
    → Decodes (take n s) out₀ ok out₁
    → Decodes (take (length s - n) (drop n s)) (take (length out₁ - m) (drop m out₁)) r out₂
    → Decodes s out₀ r (put_mid m (length out₁ - m) out₁ out₂)
whole s out₀ out₁ out₂ n m groups h place t d e =
    record {
      answer = e.answer ∙ ap strict (part_from n s) ∙ sym (strict_split s n groups h ∙ rw (← d.answer, t));
      bytes = λ u. then_rest decode_grouping s out₀ n m groups place h out₁ out₂ (d.bytes t) (e.bytes u);
    }
