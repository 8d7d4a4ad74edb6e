-- `chars::others_in` meets its contract. The loop's invariant: where none was found, all bytes passed are spaces.
-- Assumes nothing.
use mathlib.Core.Path.{◌≡◌}
use mathlib.Core.Bool.{false}
use Rattle.chars.specs.Post.{Spaces}
use Rattle.chars.proofs.others_in.Given as goal

abbrev pub invariant-loop-b : goal.invariant-loop-b
invariant-loop-b l = l.others ≡ false → Spaces l.s l.b-index
