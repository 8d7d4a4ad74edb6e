-- `escapes::append_unescaped` meets its contract. The loop's invariant: what was put, and what the rest stands for, make up the whole.
-- Assumes nothing.
use Prim.Native.Nat.{◌-◌, ◌≤◌}
use lib.ListN.{length, drop}
use Rattle.buffers.specs.Sink.{PutPart}
use Rattle.escapes.specs.Unescape.{unescape}
use Rattle.escapes.proofs.append_unescaped.Given as goal

abbrev pub invariant-loop-i : goal.invariant-loop-i
invariant-loop-i g l = (l.i ≤ length l.s) × PutPart g.S.Sink.put l.fn.sink (unescape l.s) l.here (unescape (drop l.i l.s))

abbrev pub decreases-loop-i : goal.decreases-loop-i
decreases-loop-i g l = length l.s - l.i
