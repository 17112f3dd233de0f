-- `word_end` meets its contract. The loop's invariant: the whole word ends where its rest does, and what is passed stands in the text.
use mathlib.Core.Path.{◌≡◌}
use mathlib.Core.Logic.{◌⊎◌}
use Prim.Native.Nat.{◌+◌, ◌≤◌}
use lib.ListN.{length, drop}
use Rattle.json_tokens.specs.Tokens.{word_end}
use Rattle.json_tokens.proofs.words.word_end.Given as goal

abbrev pub invariant-loop-i : goal.invariant-loop-i
invariant-loop-i l = (word_end l.word l.s l.from ≡ word_end (drop l.i l.word) l.s (l.from + l.i)) × ((l.i ≡ 0) ⊎ (l.from + l.i ≤ length l.s))
