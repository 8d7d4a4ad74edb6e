-- `numbers::digits_end` meets its contract. The loop's invariant: the run that is left ends where the whole one does.
-- Assumes nothing.
use Rattle.std.proofs.Common.{sym, ◌∙◌, arith}
use Rattle.numbers.proofs.Scans.{run_on, run_off, run_end}
use Rattle.numbers.proofs.digits_end.Goals as goal

pub returns-then-not-is_ascii_digit : goal.returns-then-not-is_ascii_digit
returns-then-not-is_ascii_digit c =
    let l = c.loop-i in
    omega (arith, l.invariant, run_off c.args.s.now l.i c.loop-i-test.true (sym c.is_ascii_digit.ensures.value ∙ c.if-not-is_ascii_digit.true))

pub loop-i-preserved : goal.loop-i-preserved
loop-i-preserved c =
    let l = c.loop-i in
    omega (arith, l.invariant, run_on c.args.s.now l.i c.loop-i-test.true (sym c.is_ascii_digit.ensures.value ∙ c.if-not-is_ascii_digit.false))

pub returns : goal.returns
returns c =
    let l = c.loop-i in
    grind (arith, run_end c.args.s.now l.i c.loop-i-test.false, run_end c.args.s.now c.args.from, l.invariant, c.max.ensures)
