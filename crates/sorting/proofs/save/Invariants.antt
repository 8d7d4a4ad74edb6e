-- `sorting::save` meets its contract. The loop's invariant: the first i stand in `spare`.
-- Assumes nothing.
use mathlib.Core.Path.{◌≡◌}
use lib.ListN.{take}
use Rattle.sorting.proofs.save.Given as goal

abbrev pub invariant-loop-i : goal.invariant-loop-i
invariant-loop-i l = take l.i l.spare ≡ take l.i l.s
