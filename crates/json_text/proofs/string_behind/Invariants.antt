-- `json_text::string_behind` meets its contract. The loop's invariant: the string ends where its rest from i on ends, and no run starts at i.
-- Assumes nothing.
use mathlib.Core.Path.{◌≡◌}
use Prim.Native.Nat.{◌-◌, ◌≤◌}
use lib.ListN.{length, drop}
use Rattle.json_text.specs.Text.{plain_run, string}
use Rattle.json_text.specs.Post.{behind}
use Rattle.json_text.proofs.string_behind.Given as goal

abbrev pub invariant-loop-i : goal.invariant-loop-i
invariant-loop-i l = record { inside : l.i ≤ length l.s; behind_run : plain_run (drop l.i l.s) ≡ 0; ends : behind (string (drop l.i l.s)) ≡ behind (string l.s) }

abbrev pub decreases-loop-i : goal.decreases-loop-i
decreases-loop-i l = length l.s - l.i
