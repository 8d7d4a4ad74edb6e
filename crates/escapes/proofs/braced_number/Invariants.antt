-- `escapes::braced_number` meets its contract. The loop's invariant: what the braces come to is what the digits still to be read make of the number so far.
-- Assumes nothing.
use mathlib.Core.Path.{◌≡◌}
use mathlib.Core.Bool.{false}
use Prim.Native.Nat.{◌-◌, ◌<◌}
use lib.ListN.{drop}
use Rattle.std.specs.Prelude.{IfSome}
use Rattle.escapes.specs.Walk.{braces, numbered}
use Rattle.escapes.proofs.Braces.{read_on}
use Rattle.escapes.proofs.braced_number.Given as goal

abbrev pub invariant-loop-i : goal.invariant-loop-i
invariant-loop-i l =
    IfSome l.value (λ v. v < 0x110000) × (braces (read_on l.value) (l.i - l.from) (drop l.i l.s) ≡ braces (numbered false 0) (l.at - l.from) (drop l.at l.s))
