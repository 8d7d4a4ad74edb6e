-- `json_text::decode` meets its contract. The loop's invariant: what was put, and what the rest stands for, make up the whole.
-- Assumes nothing.
use mathlib.Core.Path.{refl, sym, ap, ◌∙◌}
use Prim.Native.Nat.{◌+◌, ◌<◌}
use native.Mathlib.Omega.{arith}
use Rattle.std.specs.Prelude.{Some, option_map}
use Rattle.buffers.proofs.Appending.{take_rest}
use Rattle.buffers.proofs.Putting.{part_none, part_more, part_room, part_all}
use Rattle.json_text.specs.Post.{behind, text_in, char_of}
use Rattle.json_text.specs.declared.Escape.{Escape}
use Rattle.json_text.proofs.Lengths.{of_some, of_mapped}
use Rattle.json_text.proofs.PlainRuns.{run_stays_inside, run_passes}
use Rattle.json_text.proofs.Escaping.{escape_ends}
use Rattle.json_text.proofs.Strings.{read_piece, run_at, string_inside, plain_here, escape_some, quote_at, escape_at}
use Rattle.json_text.proofs.decode.Goals as goal

pub bounds-s-i : goal.bounds-s-i
bounds-s-i g c = let l = c.loop-i in string_inside c.args.s.now l.i l.invariant.some

pub bounds-s-i-in-loop-i : goal.bounds-s-i-in-loop-i
bounds-s-i-in-loop-i g c = let l = c.loop-i in string_inside c.args.s.now l.i l.invariant.some

pub loop-i-init : goal.loop-i-init
loop-i-init g c = record { some = c.requires.0; ends = refl; put = rw c.take-here.ensures (part_none g.S.Sink.laws _ _) }

pub plain_end-stop-requires : goal.plain_end-stop-requires
plain_end-stop-requires g c = let l = c.loop-i in omega (arith, string_inside c.args.s.now l.i l.invariant.some)

pub slice_bounds-append-end : goal.slice_bounds-append-end
slice_bounds-append-end g c =
    let l = c.loop-i in
    let r = c.plain_end-stop in
    run_stays_inside c.args.s.now l.i r.result r.ensures (omega (arith, string_inside c.args.s.now l.i l.invariant.some))

pub append-requires : goal.append-requires
append-requires g c =
    let l = c.loop-i in
    let r = c.plain_end-stop in
    let p = read_piece _ _ (run_at c.args.s.now l.i r.result r.ensures) l.invariant.some in
    part_room g.S.Sink.laws l.invariant.put _ _ p.text c.requires.1

pub loop-i-smaller-then-s-i-ne92 : goal.loop-i-smaller-then-s-i-ne92
loop-i-smaller-then-s-i-ne92 g c =
    let l = c.loop-i in
    let s = c.args.s.now in
    let h = string_inside s l.i l.invariant.some in
    let p = run_passes s l.i h (plain_here s l.i h l.invariant.some c.loop-i-test.true c.if-s-i-ne92.true) in
    omega (arith, p, h, c.plain_end-stop.ensures)

pub loop-i-preserved-then-s-i-ne92 : goal.loop-i-preserved-then-s-i-ne92
loop-i-preserved-then-s-i-ne92 g c =
    let l = c.loop-i in
    let r = c.plain_end-stop in
    let p = read_piece _ _ (run_at c.args.s.now l.i r.result r.ensures) l.invariant.some in
    record { some = p.some; ends = p.ends ∙ l.invariant.ends; put = part_more g.S.Sink.laws l.invariant.put p.text c.append.ensures }

pub unwrap-escape-requires : goal.unwrap-escape-requires
unwrap-escape-requires g c =
    let l = c.loop-i in
    let s = c.args.s.now in
    of_mapped char_of c.escape_at.result (escape_some s l.i (string_inside s l.i l.invariant.some) l.invariant.some c.if-s-i-ne92.false _ (sym c.escape_at.ensures.value))

pub append_char-requires : goal.append_char-requires
append_char-requires g c =
    let l = c.loop-i in
    let s = c.args.s.now in
    let e = c.unwrap-escape.result in
    let f = sym c.escape_at.ensures.value ∙ ap (option_map char_of) c.unwrap-escape.ensures in
    let p = read_piece _ _ (escape_at s l.i (string_inside s l.i l.invariant.some) c.if-s-i-ne92.false (char_of e) f) l.invariant.some in
    (of_some (λ (e : Escape). e.c < 0x110000) c.unwrap-escape.ensures c.escape_at.ensures.upper_bound, part_room g.S.Sink.laws l.invariant.put _ _ p.text c.requires.1)

pub overflow_add-i : goal.overflow_add-i
overflow_add-i g c =
    let f = sym c.escape_at.ensures.value ∙ ap (option_map char_of) c.unwrap-escape.ensures in
    omega (arith, escape_ends c.args.s.now (c.loop-i.i + 1) (char_of c.unwrap-escape.result) f)

pub loop-i-preserved : goal.loop-i-preserved
loop-i-preserved g c =
    let l = c.loop-i in
    let s = c.args.s.now in
    let e = c.unwrap-escape.result in
    let f = sym c.escape_at.ensures.value ∙ ap (option_map char_of) c.unwrap-escape.ensures in
    let p = read_piece _ _ (escape_at s l.i (string_inside s l.i l.invariant.some) c.if-s-i-ne92.false (char_of e) f) l.invariant.some in
    record { some = p.some; ends = p.ends ∙ l.invariant.ends; put = part_more g.S.Sink.laws l.invariant.put p.text c.append_char.ensures }

pub returns-clause-wrote : goal.returns-clause-wrote
returns-clause-wrote g c =
    let l = c.loop-i in
    let s = c.args.s.now in
    part_all g.S.Sink.laws l.invariant.put (ap text_in (quote_at s l.i (string_inside s l.i l.invariant.some) c.loop-i-test.false))

pub returns-clause-rest : goal.returns-clause-rest
returns-clause-rest g c =
    let l = c.loop-i in
    let s = c.args.s.now in
    sym l.invariant.ends ∙ ap behind (quote_at s l.i (string_inside s l.i l.invariant.some) c.loop-i-test.false) ∙ ap Some (sym (take_rest (l.i + 1) s))
