-- `buffers::same` meets its contract. The loop's invariant: the rests are equal exactly where the texts are.
-- Assumes nothing.
use mathlib.Core.Path.{◌≡◌}
use lib.ListN.{drop}
use Rattle.buffers.specs.Same.{same}
use Rattle.buffers.proofs.same.Given as goal

abbrev pub invariant-loop-i : goal.invariant-loop-i
invariant-loop-i l = same l.a l.b ≡ same (drop l.i l.a) (drop l.i l.b)
