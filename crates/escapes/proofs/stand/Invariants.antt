-- `escapes::stand` meets its contract. The loop's invariant: no } was passed, and nothing is named from here on.
-- Assumes nothing.
use mathlib.Core.Path.{◌≡◌}
use Prim.Native.Nat.{◌-◌}
use lib.ListN.{drop}
use Rattle.escapes.specs.Walk.{braces, unnamed}
use Rattle.escapes.proofs.stand.Given as goal

abbrev pub invariant-loop-i : goal.invariant-loop-i
invariant-loop-i l = braces unnamed (l.i - l.from) (drop l.i l.s) ≡ braces unnamed (l.at - l.from) (drop l.at l.s)
