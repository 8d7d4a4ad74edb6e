-- `numbers::digits_end` meets its contract. The loop's invariant: the run that is left ends where the whole one does.
-- Assumes nothing.
use Rattle.std.proofs.Common.{◌≡◌, ◌+◌, drop}
use Rattle.numbers.specs.Digits.{leading_digits}
use Rattle.numbers.proofs.digits_end.Given as goal

abbrev pub invariant-loop-i : goal.invariant-loop-i
invariant-loop-i l = l.i + leading_digits (drop l.i l.s) ≡ l.from + leading_digits (drop l.from l.s)
