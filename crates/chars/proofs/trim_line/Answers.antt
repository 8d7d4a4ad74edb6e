-- `chars::trim_line` meets its contract: an empty line is blank. Assumes nothing.
use mathlib.Core.Path.{◌≡◌, refl}
use mathlib.Core.Bool.{true}
use mathlib.Core.List.{List, [], ◌∷◌}
use Prim.Native.Nat.{ℕ}
use native.Mathlib.Omega.{arith}
use lib.ListN.{length}
use Rattle.chars.specs.White.{trim_from, blank}
use Rattle.chars.proofs.trim_line.Goals as goal

empty_blank : (s : List ℕ) → length s ≡ 0 → blank s ≡ true
unfolding trim_from
empty_blank [] e = refl
empty_blank (a ∷ s) e = absurd (omega (arith, e))

pub returns-then-s-eq0 : goal.returns-then-s-eq0
returns-then-s-eq0 c = empty_blank c.args.s.now (c.if-s-eq0.true)
