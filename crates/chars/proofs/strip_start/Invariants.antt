-- `chars::strip_start` meets its contract: spaces are passed first. The loop's invariant: the rest gives the same when trimmed.
-- Assumes nothing.
use mathlib.Core.Path.{◌≡◌}
use lib.ListN.{length}
use Rattle.chars.specs.White.{trim_start}
use Rattle.chars.proofs.strip_start.Given as goal

abbrev pub invariant-loop-n : goal.invariant-loop-n
invariant-loop-n l = trim_start l.s ≡ trim_start l.t

abbrev pub decreases-loop-n : goal.decreases-loop-n
decreases-loop-n l = length l.t
