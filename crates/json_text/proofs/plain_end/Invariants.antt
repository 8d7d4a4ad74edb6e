-- `json_text::plain_end` meets its contract. The loop's invariant: nothing that ends a run was passed.
-- Assumes nothing.
use mathlib.Core.Path.{◌≡◌}
use Prim.Native.Nat.{◌+◌}
use lib.ListN.{drop}
use Rattle.json_text.specs.Text.{plain_run}
use Rattle.json_text.proofs.plain_end.Given as goal

abbrev pub invariant-loop-i : goal.invariant-loop-i
invariant-loop-i l = l.i + plain_run (drop l.i l.s) ≡ l.from + plain_run (drop l.from l.s)
