-- `sorting::precedes` meets its contract. The loop's invariant: the rests stand as the texts do.
-- Assumes nothing.
use mathlib.Core.Path.{◌≡◌}
use lib.ListN.{length, drop}
use Rattle.sorting.specs.Order.{precedes}
use Rattle.sorting.proofs.precedes.Given as goal

abbrev pub invariant-loop-a : goal.invariant-loop-a
invariant-loop-a l = precedes l.x l.y ≡ precedes (drop (length l.yielded) l.x) (drop (length l.yielded) l.y)
