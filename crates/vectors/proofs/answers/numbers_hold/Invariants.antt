-- `vectors::answers::numbers_hold` meets its contract: so far all entries are as they are to be, or one is not.
-- Assumes nothing.
use Rattle.std.proofs.Common.{ℕ, ◌≡◌, ◌↔◌, ◌<◌, ◌≤◌, ◌/◌, IsTrue, length, get_or}
use Rattle.vectors.specs.Looks.{number_there}
use Rattle.vectors.proofs.answers.numbers_hold.Given as goal

abbrev pub invariant-loop-i : goal.invariant-loop-i
invariant-loop-i l = IsTrue l.same ↔ ((length l.text / 8 ≤ length l.s) × ((k : ℕ) → k < l.i → get_or l.s k 0 ≡ number_there l.text l.look k))
