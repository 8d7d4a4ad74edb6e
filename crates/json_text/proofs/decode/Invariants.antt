-- `json_text::decode` meets its contract. The loop's invariant: what was put, and what the rest stands for, make up the whole.
-- Assumes nothing.
use mathlib.Core.Path.{◌≡◌}
use Prim.Native.Nat.{◌-◌}
use lib.ListN.{length, drop}
use Rattle.std.specs.Prelude.{IsSome}
use Rattle.buffers.specs.Sink.{PutPart}
use Rattle.json_text.specs.Text.{string}
use Rattle.json_text.specs.Post.{behind, text_in}
use Rattle.json_text.proofs.decode.Given as goal

abbrev pub invariant-loop-i : goal.invariant-loop-i
invariant-loop-i g l = record {
  some : IsSome (string (drop l.i l.s));
  ends : behind (string (drop l.i l.s)) ≡ behind (string l.s);
  put : PutPart g.S.Sink.put l.fn.sink (text_in (string l.s)) l.here (text_in (string (drop l.i l.s)));
}

abbrev pub decreases-loop-i : goal.decreases-loop-i
decreases-loop-i g l = length l.s - l.i
