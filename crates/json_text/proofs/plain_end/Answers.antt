-- `json_text::plain_end` meets its contract. The loop's invariant: nothing that ends a run was passed.
-- Assumes nothing.
use native.Mathlib.Omega.{arith}
use Rattle.json_text.proofs.PlainRuns.{run_ended, run_goes_on, run_goes_on_above, run_passes, run_stops, run_ends}
use Rattle.json_text.proofs.plain_end.Goals as goal

pub returns-then-b-lt32 : goal.returns-then-b-lt32
returns-then-b-lt32 c =
    let l = c.loop-i in
    omega (arith, run_stops c.args.s.now l.i c.loop-i-test.true (run_ended _ c.then-b-lt32.either), l.invariant)

pub loop-i-preserved-then-b-gt92 : goal.loop-i-preserved-then-b-gt92
loop-i-preserved-then-b-gt92 c =
    let l = c.loop-i in
    omega (arith, run_passes c.args.s.now l.i c.loop-i-test.true (run_goes_on_above _ c.if-b-gt92.true), l.invariant)

pub loop-i-preserved : goal.loop-i-preserved
loop-i-preserved c =
    let l = c.loop-i in
    omega (arith, run_passes c.args.s.now l.i c.loop-i-test.true (run_goes_on _ c.if-b-lt32.false c.if-b-eq34.false c.if-b-eq92.false), l.invariant)

pub returns : goal.returns
returns c = omega (arith, run_ends c.args.s.now c.loop-i.i (omega arith), c.loop-i.invariant)
