-- `escapes::append_unescaped` meets its contract. The loop's invariant: what was put, and what the rest stands for, make up the whole.
-- Assumes nothing.
use mathlib.Core.Path.{sym, ◌∙◌}
use mathlib.Core.List.{[], ◌∷◌}
use Prim.Native.Nat.{◌+◌}
use native.Mathlib.Omega.{arith}
use lib.ListN.{drop}
use Rattle.buffers.proofs.Putting.{part_none, part_more, part_room, part_all}
use Rattle.chars.proofs.Encoding.{is_scalar}
use Rattle.escapes.proofs.Escapes.{held_char}
use Rattle.escapes.proofs.Unescaping.{run_at, run_ends, run_moves, short_piece, short_ends, char_stands_at, char_ends, verbatim_run, verbatim_ends, unescape_end}
use Rattle.escapes.proofs.append_unescaped.Goals as goal

pub loop-i-init : goal.loop-i-init
loop-i-init g c = (omega arith, rw c.take-here.ensures (part_none g.S.Sink.laws _ _))

pub slice_bounds-append-end : goal.slice_bounds-append-end
slice_bounds-append-end g c = let l = c.loop-i in run_ends _ l.i c.plain_run-stop.result c.plain_run-stop.ensures l.invariant.0

pub append-requires : goal.append-requires
append-requires g c =
    let l = c.loop-i in
    part_room g.S.Sink.laws l.invariant.1 _ _ (run_at _ l.i c.plain_run-stop.result c.plain_run-stop.ensures) c.requires

pub loop-i-smaller-then-s-i-ne92 : goal.loop-i-smaller-then-s-i-ne92
loop-i-smaller-then-s-i-ne92 g c =
    let l = c.loop-i in
    let r = c.plain_run-stop in
    let h = c.loop-i-test.true in
    omega (arith, run_moves c.args.s.now l.i r.result r.ensures h c.if-s-i-ne92.true, h)

pub loop-i-preserved-then-s-i-ne92 : goal.loop-i-preserved-then-s-i-ne92
loop-i-preserved-then-s-i-ne92 g c =
    let l = c.loop-i in
    let r = c.plain_run-stop in
    (run_ends _ l.i r.result r.ensures l.invariant.0, part_more g.S.Sink.laws l.invariant.1 (run_at _ l.i r.result r.ensures) c.append.ensures)

pub push-requires : goal.push-requires
push-requires g c =
    let l = c.loop-i in
    part_room g.S.Sink.laws l.invariant.1 (c.in-Some.code ∷ []) _ (short_piece _ l.i c.loop-i-test.true c.if-s-i-ne92.false c.in-Some.code (sym c.short_at.ensures ∙ c.in-Some.is)) c.requires

pub loop-i-preserved-in-Some : goal.loop-i-preserved-in-Some
loop-i-preserved-in-Some g c =
    let l = c.loop-i in
    let f = sym c.short_at.ensures ∙ c.in-Some.is in
    let h = c.loop-i-test.true in
    let b = c.if-s-i-ne92.false in
    (short_ends _ l.i h b _ f, part_more g.S.Sink.laws l.invariant.1 (short_piece _ l.i h b _ f) c.push.ensures)

pub append_char-requires : goal.append_char-requires
append_char-requires g c =
    let l = c.loop-i in
    let e = c.in-Char in
    let f = sym c.escape_at.ensures ∙ e.is in (
      (is_scalar e.c (held_char (drop (l.i + 1) c.args.s.now) e.c e.n f).0).small,
      part_room g.S.Sink.laws l.invariant.1 _ _ (char_stands_at _ l.i c.loop-i-test.true c.if-s-i-ne92.false e.c e.n f) c.requires,
    )

pub overflow_add-i-in-Char-2 : goal.overflow_add-i-in-Char-2
overflow_add-i-in-Char-2 g c =
    let f = sym c.escape_at.ensures ∙ c.in-Char.is in
    omega (arith, char_ends c.args.s.now c.loop-i.i c.loop-i-test.true c.if-s-i-ne92.false c.in-Char.c c.in-Char.n f)

pub loop-i-preserved-in-Char : goal.loop-i-preserved-in-Char
loop-i-preserved-in-Char g c =
    let l = c.loop-i in
    let e = c.in-Char in
    let f = sym c.escape_at.ensures ∙ e.is in
    let h = c.loop-i-test.true in
    let b = c.if-s-i-ne92.false in
    (char_ends _ l.i h b e.c e.n f, part_more g.S.Sink.laws l.invariant.1 (char_stands_at _ l.i h b e.c e.n f) c.append_char.ensures)

pub overflow_add-i-in-Verbatim-2 : goal.overflow_add-i-in-Verbatim-2
overflow_add-i-in-Verbatim-2 g c =
    let f = sym c.escape_at.ensures ∙ c.in-Verbatim.is in
    omega (arith, verbatim_ends c.args.s.now c.loop-i.i c.loop-i-test.true c.if-s-i-ne92.false c.in-Verbatim.n f)

pub plain_run-stop-requires-in-Verbatim : goal.plain_run-stop-requires-in-Verbatim
plain_run-stop-requires-in-Verbatim g c =
    let f = sym c.escape_at.ensures ∙ c.in-Verbatim.is in
    verbatim_ends c.args.s.now c.loop-i.i c.loop-i-test.true c.if-s-i-ne92.false c.in-Verbatim.n f

pub slice_bounds-append-end-in-Verbatim : goal.slice_bounds-append-end-in-Verbatim
slice_bounds-append-end-in-Verbatim g c =
    let f = sym c.escape_at.ensures ∙ c.in-Verbatim.is in
    let r = c.plain_run-stop-in-Verbatim in
    run_ends c.args.s.now (c.loop-i.i + 1 + c.in-Verbatim.n) r.result r.ensures (verbatim_ends c.args.s.now c.loop-i.i c.loop-i-test.true c.if-s-i-ne92.false c.in-Verbatim.n f)

pub append-requires-in-Verbatim : goal.append-requires-in-Verbatim
append-requires-in-Verbatim g c =
    let l = c.loop-i in
    let f = sym c.escape_at.ensures ∙ c.in-Verbatim.is in
    let r = c.plain_run-stop-in-Verbatim in
    part_room g.S.Sink.laws l.invariant.1 _ _ (verbatim_run _ l.i c.loop-i-test.true c.if-s-i-ne92.false c.in-Verbatim.n r.result r.ensures f) c.requires

pub loop-i-preserved : goal.loop-i-preserved
loop-i-preserved g c =
    let l = c.loop-i in
    let n = c.in-Verbatim.n in
    let f = sym c.escape_at.ensures ∙ c.in-Verbatim.is in
    let r = c.plain_run-stop-in-Verbatim in
    let h = c.loop-i-test.true in
    let b = c.if-s-i-ne92.false in (
      run_ends _ (l.i + 1 + n) r.result r.ensures (verbatim_ends _ l.i h b n f),
      part_more g.S.Sink.laws l.invariant.1 (verbatim_run _ l.i h b n r.result r.ensures f) c.append-in-Verbatim.ensures,
    )

pub returns : goal.returns
returns g c = let l = c.loop-i in part_all g.S.Sink.laws l.invariant.1 (unescape_end c.args.s.now l.i c.loop-i-test.false)
