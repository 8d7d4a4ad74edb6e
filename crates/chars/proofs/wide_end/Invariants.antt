-- `chars::wide_end` meets its contract. The loop's invariant: no White_Space character of fewer bytes ends the text.
-- Assumes nothing.
use Prim.Native.Nat.{ℕ, ◌<◌}
use Rattle.chars.specs.Post.{EndsAt}
use Rattle.chars.proofs.wide_end.Given as goal

abbrev pub invariant-loop-n : goal.invariant-loop-n
invariant-loop-n l = (m : ℕ) → m < l.n → EndsAt l.s m → ⊥
