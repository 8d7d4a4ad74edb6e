-- `numbers::magnitude` meets its contract. The loop's invariant: what is left to read, behind digits that say n, gives the answer.
-- Assumes nothing.
use Rattle.std.proofs.Common.{◌≡◌, drop}
use Rattle.numbers.specs.Integer.{up_to}
use Rattle.numbers.proofs.IntegerLaws.{up_to_from}
use Rattle.numbers.proofs.magnitude.Given as goal

abbrev pub invariant-loop-b : goal.invariant-loop-b
invariant-loop-b l = up_to l.limit (drop l.from l.s) ≡ up_to_from l.limit l.n (drop l.b-index l.b-items)
