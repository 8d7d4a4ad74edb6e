-- `sorting::merge_runs` meets its contract: each way through the loop is a law of LoopLaws, and `Merging` its invariant.
-- Assumes nothing.
use native.Mathlib.Omega.{arith}
use Rattle.sorting.proofs.LoopLaws.{merging_start, merging_right, merging_left, merging_end}
use Rattle.pack.specs.Walk.{place_key}
use Rattle.sorting.proofs.merge_runs.Goals as goal

pub loop-i-init : goal.loop-i-init
loop-i-init c =
    let a = c.args in
    merging_start (place_key a.numbers.now a.texts.now) a.spare.now a.order.now a.from a.h a.m (omega arith)

pub loop-i-preserved-then-comes_first : goal.loop-i-preserved-then-comes_first
loop-i-preserved-then-comes_first c =
    let l = c.loop-i in
    let a = c.args in
    let t = c.comes_first in
    merging_right (place_key a.numbers.now a.texts.now) a.spare.now a.h _ _ l.order l.at l.i l.right l.invariant (omega arith) (omega arith) t.result t.ensures c.if-comes_first.true

pub loop-i-preserved : goal.loop-i-preserved
loop-i-preserved c =
    let l = c.loop-i in
    let a = c.args in
    let t = c.comes_first in
    merging_left (place_key a.numbers.now a.texts.now) a.spare.now a.h _ _ l.order l.at l.i l.right l.invariant (omega arith) (omega arith) t.result t.ensures c.if-comes_first.false

pub returns : goal.returns
returns c =
    let l = c.loop-i in
    let a = c.args in
    merging_end (place_key a.numbers.now a.texts.now) a.spare.now a.h _ _ l.order l.at l.i l.right l.invariant (omega arith)
