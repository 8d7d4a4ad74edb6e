-- `chars::strip_end` meets its contract. The loop's invariant: the text so far, trimmed, is the whole, trimmed.
-- Assumes nothing.
use mathlib.Core.Path.{◌≡◌}
use lib.ListN.{length}
use Rattle.chars.specs.White.{trim_end}
use Rattle.chars.proofs.strip_end.Given as goal

abbrev pub invariant-loop-n : goal.invariant-loop-n
invariant-loop-n l = trim_end l.t ≡ trim_end l.s

abbrev pub decreases-loop-n : goal.decreases-loop-n
decreases-loop-n l = length l.t
