-- `sha256_words::fewer::nested_rotations` meets its contract.
use Rattle.std.proofs.Common.{◌≡◌, ℕ, ◌<◌, ◌-◌, ◌%◌, ◌∙◌, w32, arith}
use Rattle.std.specs.Int.{rotate_right}
use Rattle.sha2_rules.specs.Words.{ROTR}
use Rattle.sha2_rules.proofs.WordLaws.{nested_rotations}
use Rattle.sha256_words.proofs.fewer.nested_rotations.Goals as goal

rotated : (n x : ℕ) → 0 < n → n < 32 → rotate_right w32 x n ≡ ROTR 32 n x
rotated n x z h =
    let e : n % 32 ≡ n = omega arith in
    let f : (32 - n) % 32 ≡ 32 - n = omega arith in
    rw (e, f)

pub returns : goal.returns
returns c =
    let a = c.args in
    c.rotate_right-3.ensures
    ∙ rw (c.rotate_right-2.ensures, c.rotate_right.ensures, rotated (a.c - a.b) _ (omega arith) (omega arith), rotated (a.b - a.a) _ (omega arith) (omega arith), rotated a.a _ (omega arith) (omega arith))
    (nested_rotations 32 a.a a.b a.c a.x (omega arith) (omega arith) (omega arith) (omega arith))
