-- `escapes::plain_run` meets its contract. The loop's invariant: no backslash was passed.
-- Assumes nothing.
use mathlib.Core.Path.{◌≡◌}
use Prim.Native.Nat.{◌+◌}
use lib.ListN.{drop}
use Rattle.escapes.specs.Walk.{plain_run}
use Rattle.escapes.proofs.plain_run.Given as goal

abbrev pub invariant-loop-i : goal.invariant-loop-i
invariant-loop-i l = l.i + plain_run (drop l.i l.s) ≡ l.from + plain_run (drop l.from l.s)
