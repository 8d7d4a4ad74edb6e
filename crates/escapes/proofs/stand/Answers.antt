-- `escapes::stand` meets its contract. The loop's invariant: no } was passed, and nothing is named from here on.
-- Assumes nothing.
use mathlib.Core.Path.{◌≡◌, refl, sym, ap, ◌∙◌}
use Prim.Native.Nat.{◌+◌, ◌-◌}
use native.Mathlib.Omega.{arith}
use Rattle.escapes.specs.Walk.{unnamed}
use Rattle.escapes.specs.declared.Escape.TheVariants.{Verbatim}
use Rattle.escapes.proofs.Braces.{next_digit_at, close_at, end_at}
use Rattle.escapes.proofs.stand.Goals as goal

pub returns-then-s-i-eq125 : goal.returns-then-s-i-eq125
returns-then-s-i-eq125 c =
    let l = c.loop-i in
    let a = c.args in
    let n : l.i + 1 - a.from ≡ l.i - a.from + 1 = omega arith in
    ap Verbatim n ∙ sym (close_at a.s.now l.i (l.i - a.from) unnamed (omega arith) c.if-s-i-eq125.true) ∙ l.invariant

pub loop-i-preserved : goal.loop-i-preserved
loop-i-preserved c =
    let l = c.loop-i in
    let a = c.args in
    let n : l.i + 1 - a.from ≡ l.i - a.from + 1 = omega arith in
    rw n (sym (next_digit_at a.s.now l.i (l.i - a.from) unnamed unnamed (omega arith) c.if-s-i-eq125.false (λ h. refl)) ∙ l.invariant)

pub returns : goal.returns
returns c =
    let l = c.loop-i in
    let a = c.args in
    ap (λ k. Verbatim (k - a.from)) (omega arith) ∙ sym (end_at a.s.now l.i (l.i - a.from) unnamed (omega arith)) ∙ l.invariant
