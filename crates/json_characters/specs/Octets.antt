-- The octets of a code point, as `octets_of` gives them.
use Rattle.std.specs.Prelude.{◌≡◌, refl, Bool, true, false, cond, List, [], ◌∷◌, ℕ, ◌+◌, ◌/◌, ◌≤◌, leb, length, take}
use Rattle.std.proofs.Common.{sym, subst, arith}
use Rattle.std.proofs.Math.Seq.{take-append_seam}
use Rattle.common.specs.Buffer.{filled}
use Rattle.json_characters.specs.Utf8.{tail, octets}
use Rattle.json_characters.specs.declared.utf8.Octets.{Octets}

-- the bytes l, and then zeros
abbrev pub holding : List ℕ → Octets
holding l = record { count = length l; bytes = filled 4 l }

abbrev pub octets_in : ℕ → Octets
octets_in c = holding (octets c)

-- o has the octets of c: the same, for reasoning
pub record OctetsOf (c : ℕ) (o : Octets) : Type 0 where
  pub few : o.count ≤ 4
  pub long : o.count ≡ length (octets c)
  pub are : take o.count o.bytes ≡ octets c

few_octets : (c : ℕ) → length (octets c) ≤ 4
unfolding octets
few_octets c = go (leb c 0x7F) (leb c 0x7FF) (leb c 0xFFFF)
  where
    go : (p q r : Bool)
        → length (cond p (c ∷ []) (cond q ((0xC0 + c / 64) ∷ tail c ∷ []) (cond r ((0xE0 + c / 4096) ∷ tail (c / 64) ∷ tail c ∷ []) ((0xF0 + c / 262144) ∷ tail (c / 4096) ∷ tail (c / 64) ∷ tail c ∷ [])))) ≤ 4
    go true q r = omega arith
    go false true r = omega arith
    go false false true = omega arith
    go false false false = omega arith

pub octets_in_lem : {o : Octets} {c : ℕ} → o ≡ octets_in c → OctetsOf c o
octets_in_lem {o} {c} e = subst (λ (x : Octets). OctetsOf c x) (sym e) (record { few = few_octets c; long = refl; are = take-append_seam (octets c) _ })
