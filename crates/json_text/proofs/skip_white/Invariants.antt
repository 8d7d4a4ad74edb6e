-- `json_text::skip_white` meets its contract. The loop's invariant: only white space was passed.
-- Assumes nothing.
use mathlib.Core.Path.{◌≡◌}
use lib.ListN.{drop}
use Rattle.json_text.specs.Syntax.{ws}
use Rattle.json_text.proofs.skip_white.Given as goal

abbrev pub invariant-loop-i : goal.invariant-loop-i
invariant-loop-i l = ws (drop l.i l.s) ≡ ws l.s
