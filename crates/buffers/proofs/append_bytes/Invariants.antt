-- `buffers::append_bytes` meets its contract. The loop's invariant: behind the first `at` stand the first i bytes of s.
-- Assumes nothing.
use Rattle.buffers.proofs.Appending.{Copied}
use Rattle.buffers.proofs.append_bytes.Given as goal

abbrev pub invariant-loop-i : goal.invariant-loop-i
invariant-loop-i l = Copied l.at l.i l.s l.out l.fn.out
