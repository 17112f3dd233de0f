-- `sha256::Hasher::finish` meets its contract.
use Rattle.std.proofs.Common.{◌≡◌, refl, List, ℕ, ◌+◌, ◌*◌, ◌/◌, drop, ap, sym, ◌∙◌, arith}
use Rattle.common.specs.Laid.{part_from}
use Rattle.sha2_rules.specs.Parameters.{sha_256}
use Rattle.sha2_rules.proofs.FinishLaws.{rest, whole, length_rest, ends_there, finished}
use Rattle.sha256.proofs.Hasher.finish.Goals as goal

-- the bytes past the whole blocks
rest_is : (m : List ℕ) {r : List ℕ} → r ≡ drop (whole sha_256 m) m → r ≡ rest sha_256 m
rest_is m e = e ∙ sym (part_from (whole sha_256 m) m)

pub last_blocks-blocks-requires : goal.last_blocks-blocks-requires
last_blocks-blocks-requires c =
    let m = c.args.m.now in
    let e = ends_there sha_256 (omega arith) m c.args.before c.requires.0 in
    rw (rest_is m c.as_chunks.ensures.back) (e.0, ap (λ (n : ℕ). (n + 72) / 64 * 64) (length_rest sha_256 m) ∙ e.1)

pub returns : goal.returns
returns c =
    let m = c.args.m.now in
    let r = rest_is m c.as_chunks.ensures.back in (
      c.digest-whole.ensures
          ∙ finished sha_256 (omega arith) c.args.self.now.value m _ _ c.last_blocks-blocks.result c.args.before c.requires.0 (rw (r, length_rest sha_256) at c.last_blocks-blocks.ensures) c.absorb.ensures
          (rw (r, length_rest sha_256) at c.absorb_blocks.ensures),
      refl,
    )
