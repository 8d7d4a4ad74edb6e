-- `sorting::precedes` meets its contract. The loop's invariant: the rests stand as the texts do.
-- Assumes nothing.
use mathlib.Core.Path.{sym, ◌∙◌}
use lib.ListN.{length}
use Rattle.std.proofs.lemmas.List.{length_push}
use Rattle.std.proofs.lemmas.Slice.Zip.{zip_turn, zip_end}
use Rattle.sorting.proofs.OrderLaws.{scan_over, scan_differ, scan_on}
use Rattle.sorting.proofs.precedes.Goals as goal

pub returns-then-a-b : goal.returns-then-a-b
returns-then-a-b c =
    let x = c.args.x.now in
    let y = c.args.y.now in
    let l = c.loop-a in
    let t = zip_turn x y l.yielded _ _ c.next.new.self _ (cc) (cc) l.yielded_by _ c.in-Some.is c.next.ensures.steps in
    rw (t.2 0, t.3 0) (sym (l.invariant ∙ scan_differ x y (length l.yielded) t.0 t.1 (rw (t.2 0, t.3 0) at c.if-a-b.true)))

pub loop-a-preserved : goal.loop-a-preserved
loop-a-preserved c =
    let x = c.args.x.now in
    let y = c.args.y.now in
    let l = c.loop-a in
    let t = zip_turn x y l.yielded _ _ c.next.new.self _ (cc) (cc) l.yielded_by _ c.in-Some.is c.next.ensures.steps in
    rw (length_push l.yielded (c.in-Some.a, c.in-Some.b)) (l.invariant ∙ scan_on x y (length l.yielded) t.0 t.1 (rw (t.2 0, t.3 0) at c.if-a-b.false))

pub returns : goal.returns
returns c =
    let x = c.args.x.now in
    let y = c.args.y.now in
    let l = c.loop-a in
    let e = zip_end x y l.yielded _ _ c.next.new.self _ (cc) (cc) l.yielded_by c.in-None.is c.next.ensures.steps in
    sym (l.invariant ∙ scan_over x y (length l.yielded) e)
