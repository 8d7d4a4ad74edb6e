-- `escapes::plain_run` meets its contract. The loop's invariant: no backslash was passed.
-- Assumes nothing.
use native.Mathlib.Omega.{arith}
use Rattle.escapes.proofs.Unescaping.{run_plain_at, run_stops_at, run_end_at}
use Rattle.escapes.proofs.plain_run.Goals as goal

pub returns-then-s-i-eq92 : goal.returns-then-s-i-eq92
returns-then-s-i-eq92 c =
    let l = c.loop-i in
    omega (arith, run_stops_at c.args.s.now l.i c.loop-i-test.true c.if-s-i-eq92.true, l.invariant)

pub loop-i-preserved : goal.loop-i-preserved
loop-i-preserved c =
    let l = c.loop-i in
    omega (arith, run_plain_at c.args.s.now l.i c.loop-i-test.true c.if-s-i-eq92.false, l.invariant)

pub returns : goal.returns
returns c =
    let l = c.loop-i in
    omega (arith, run_end_at c.args.s.now l.i (omega arith), l.invariant)
