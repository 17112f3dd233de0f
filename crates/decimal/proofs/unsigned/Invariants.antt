-- `unsigned`: the number so far is at most the bound, and with the digits that are left it gives the answer.
use Rattle.std.proofs.Common.{◌≡◌, ◌≤◌, drop}
use Rattle.decimal.specs.Magnitude.{magnitude_of}
use Rattle.decimal.proofs.Laws.{reach}
use Rattle.decimal.proofs.unsigned.Given as goal

abbrev pub invariant-loop-c : goal.invariant-loop-c
invariant-loop-c l = (l.m ≤ l.most) × (magnitude_of l.most l.text ≡ reach l.most l.m (drop l.c-index l.text))
