-- `buffers::append_bytes` meets its contract. The loop's invariant: behind the first `at` stand the first i bytes of s.
-- Assumes nothing.
use native.Mathlib.Omega.{arith}
use Rattle.buffers.proofs.Appending.{copy_more}
use Rattle.buffers.proofs.append_bytes.Goals as goal

pub loop-i-preserved : goal.loop-i-preserved
loop-i-preserved c = copy_more _ _ _ _ _ (omega arith) (omega arith) c.loop-i.invariant
