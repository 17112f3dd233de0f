-- `first_period` meets its contract: the search goes on behind the blocks that have none.
use mathlib.Core.Path.{ap, sym, ◌∙◌}
use Prim.Native.Nat.{ℕ, ◌+◌, ◌*◌}
use Rattle.std.specs.Prelude.{option_map}
use Rattle.jws_segments.specs.SplitLaws.{by_bytes, past_blocks, further}
use Rattle.jws_segments.proofs.periods.first_period.Goals as goal

pub returns-in_err-period-clause-place : goal.returns-in_err-period-clause-place
returns-in_err-period-clause-place c =
    let passed = past_blocks c.args.s.now c.as_chunks.ensures.front c.as_chunks.ensures.front_len c.block_with_period.ensures c.unwrap_or-passed.ensures in
    let at = c.unwrap_or-passed.result * 32 in
    c.from_residual.ensures ∙ ap (option_map (λ (n : ℕ). at + n)) (sym c.in_err-period.was ∙ c.period.ensures ∙ by_bytes _) ∙ further c.args.s.now at passed

pub returns-clause-place : goal.returns-clause-place
returns-clause-place c =
    let passed = past_blocks c.args.s.now c.as_chunks.ensures.front c.as_chunks.ensures.front_len c.block_with_period.ensures c.unwrap_or-passed.ensures in
    let at = c.unwrap_or-passed.result * 32 in
    ap (option_map (λ (n : ℕ). at + n)) (sym c.in_ok-period.was ∙ c.period.ensures ∙ by_bytes _) ∙ further c.args.s.now at passed
