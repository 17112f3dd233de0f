-- Laws of a string written to the front of a buffer.
use Rattle.std.specs.Prelude.{Some, None}
use Rattle.std.specs.Option.{is_some}
use mathlib.Core.Path.{◌≡◌, refl, sym, ap, ◌∙◌}
use mathlib.Core.List.{List, [], ◌∷◌, ◌++◌, append-nil, append_assoc}
use mathlib.Core.Bool.{true, false, false≢true, true≢false}
use Prim.Native.Nat.{ℕ, ◌+◌, ◌-◌, ◌≤◌, ◌<◌}
use native.Mathlib.Omega.{arith}
use lib.ListN.{length, drop, set, get_or, length-append, replicate}
use lib.Seq.{sets-eq, paste}
use borrow.Author.Tests.{le-leb, lt-leb}
use Rattle.common.specs.Buffer.{Front}
use Rattle.common.specs.Laid.{front_length, front_copied}
use Rattle.json_grammar_rules.specs.Reader.{Got, bad, got, over}
use Rattle.json_string.specs.Ends.{End}
use Rattle.json_string.specs.Strings.{text_at, given, resolved, resolved_to, resolved_at, resolved_to_at}
use Rattle.json_string.specs.TextLaws.{text_quote}
use Rattle.json_characters.specs.Utf8.{octets, utf8}
use Rattle.json_string.specs.Steps.{Wrote, Writes}

-- WRITES

-- the octets w of the characters up to i are at the front, and what is right for the rest of the string after them is right for the whole
pub record Ahead (s : List ℕ) (p : ℕ) (old : List ℕ) (i n : ℕ) (out : List ℕ) : Type 0 where
  pub w : List ℕ
  pub front : Front w old n out
  pub within : n ≤ length old
  pub long : length out ≡ length old
  pub whole : (r : End) (new : List ℕ) → Writes s i w old new r → Writes s p [] old new r

module _ {s : List ℕ} {p : ℕ} {old : List ℕ} {i n : ℕ} {out : List ℕ} (v : Ahead s p old i n out) where
  pub writes_none : text_at s i ≡ bad → Writes s p [] old out None
  unfolding Writes
  writes_none h = v.whole None out (rw h tt)

  pub writes_all : i < length s → get_or s i 0 ≡ 0x22 → Writes s p [] old out (Some n)
  unfolding Writes utf8
  writes_all h b =
      let f = v.front in
      v.whole (Some n) out (rw (text_quote s i h b, append-nil v.w) (omega (arith, f.size, v.within), f.size, f.buffer ∙ ap (λ (m : ℕ). v.w ++ drop m old) (sym f.size)))

  module _ (c e : ℕ) (x : text_at s i ≡ over (λ cs. c ∷ cs) (text_at s e)) where
    -- the string's octets, the next character's apart
    parted : (cs : List ℕ) → v.w ++ octets c ++ utf8 cs ≡ v.w ++ utf8 (c ∷ cs)
    unfolding utf8
    parted cs = append_assoc v.w (octets c) (utf8 cs)

    -- there is no room for these, which are k
    pub writes_long : (k : ℕ) → k ≡ length (octets c) → length out - n < k → Writes s p [] old out None
    unfolding Writes
    writes_long k l h = v.whole None out (rw x (go (text_at s e)))
      where
        go : (g : Got (List ℕ)) → Wrote v.w old out None (over (λ cs. c ∷ cs) g)
        go (got cs r) = rw (← parted cs, length-append (v.w ++ octets c) (utf8 cs), length-append v.w (octets c)) (omega (arith, v.front.size, v.long))
        go bad = tt

    -- they are copied
    pub writes_more : (b new : List ℕ) (k : ℕ) → b ≡ octets c → k ≡ length (octets c) → k ≤ length out - n → new ≡ paste out n b (length b) → Ahead s p old e (n + k) new
    unfolding Writes
    writes_more b new k o l h q =
        let f = front_copied v.front (octets c) new k l (q ∙ ap (λ (b : List ℕ). paste out n b (length b)) o) in
        let room : n + k ≤ length old = omega (arith, v.within, v.long) in
        record { w = v.w ++ octets c; front = f; within = room; long = front_length f room; whole = λ r t d. v.whole r t (rw x (go r t (text_at s e) d)) }
      where
        go : (r : End) (t : List ℕ) (g : Got (List ℕ)) → Wrote (v.w ++ octets c) old t r g → Wrote v.w old t r (over (λ cs. c ∷ cs) g)
        go (Some m) t (got cs y) d = rw (← parted cs) d
        go (Some m) t bad d = d
        go None t (got cs y) d = rw (← parted cs) d
        go None t bad d = d

    -- the one of an ASCII character is stored
    pub writes_one : octets c ≡ c ∷ [] → n < length out → Ahead s p old e (n + 1) (set out n c)
    writes_one o h = writes_more (c ∷ []) (set out n c) 1 (sym o) (sym (ap length o)) (omega arith) (sets-eq (c ∷ []) out n (omega arith))

-- RESOLVED

resolves_all : (s : List ℕ) (p : ℕ) (old new : List ℕ) (n : ℕ) → Writes s p [] old new (Some n) → (Some n ≡ resolved_at s p old) × (new ≡ resolved_to_at s p old)
unfolding Writes resolved_at resolved_to_at resolved resolved_to
resolves_all s p old new n = go (text_at s p)
  where
    go : (g : Got (List ℕ)) → Wrote [] old new (Some n) g
        → (Some n ≡ given (λ cs. resolved old (utf8 cs)) None g) × (new ≡ given (λ cs. resolved_to old (utf8 cs)) (replicate (length old) 0) g)
    go (got cs r) f = rw (le-leb (length (utf8 cs)) (length old) f.0) (ap Some f.1, f.2 ∙ ap (λ (m : ℕ). utf8 cs ++ drop m old) f.1)
    go bad f = absurd f

resolves_none : (s : List ℕ) (p : ℕ) (old mid new : List ℕ) → Writes s p [] old mid None → length mid ≡ length old → new ≡ replicate (length mid) 0
    → (None ≡ resolved_at s p old) × (new ≡ resolved_to_at s p old)
unfolding Writes resolved_at resolved_to_at resolved resolved_to
resolves_none s p old mid new h l e = go (text_at s p) h
  where
    zeros : new ≡ replicate (length old) 0
    zeros = e ∙ ap (λ (m : ℕ). replicate m 0) l

    go : (g : Got (List ℕ)) → Wrote [] old mid None g
        → (None ≡ given (λ cs. resolved old (utf8 cs)) None g) × (new ≡ given (λ cs. resolved_to old (utf8 cs)) (replicate (length old) 0) g)
    go (got cs r) f = rw (lt-leb (length (utf8 cs)) (length old) f) (refl, zeros)
    go bad f = (refl, zeros)

-- an answer, and none after which the buffer is cleared
pub resolves_some : (s : List ℕ) (p : ℕ) (old new : List ℕ) (r : End) → Writes s p [] old new r → is_some r ≡ true → (r ≡ resolved_at s p old) × (new ≡ resolved_to_at s p old)
resolves_some s p old new (Some n) h e = resolves_all s p old new n h
resolves_some s p old new None h e = absurd (false≢true e)

pub resolves_cleared : (s : List ℕ) (p : ℕ) (old mid new : List ℕ) (r : End) → Writes s p [] old mid r → is_some r ≡ false → length mid ≡ length old → new ≡ replicate (length mid) 0
    → (r ≡ resolved_at s p old) × (new ≡ resolved_to_at s p old)
resolves_cleared s p old mid new (Some n) h e l z = absurd (true≢false e)
resolves_cleared s p old mid new None h e l z = resolves_none s p old mid new h l z
