-- `json_text::string_behind` meets its contract. The loop's invariant: the string ends where its rest from i on ends, and no run starts at i.
-- Assumes nothing.
use mathlib.Core.Path.{sym, ap, ◌∙◌}
use Prim.Native.Nat.{◌+◌, zero-le}
use native.Mathlib.Omega.{arith}
use lib.ListN.{drop}
use Rattle.std.specs.Prelude.{Some, option_map}
use Rattle.buffers.proofs.Appending.{take_rest}
use Rattle.json_text.specs.Text.{string}
use Rattle.json_text.specs.Post.{texts_of, behind, char_of}
use Rattle.json_text.proofs.PlainRuns.{run_stays_inside, none_behind_run, control_here}
use Rattle.json_text.proofs.Escaping.{escape_ends}
use Rattle.json_text.proofs.Strings.{behind_onto, run_at, string_ends, quote_at, control_at, no_escape_at, escape_at}
use Rattle.json_text.proofs.string_behind.Goals as goal

pub loop-i-init : goal.loop-i-init
loop-i-init c =
    let s = c.args.s.now in
    let r = c.plain_end-i in
    record {
      inside = run_stays_inside s 0 r.result r.ensures zero-le;
      behind_run = none_behind_run s 0 r.result r.ensures;
      ends = sym (ap behind (run_at s 0 r.result r.ensures) ∙ behind_onto _ (string (drop r.result s)));
    }

pub returns-then-s-i-eq34 : goal.returns-then-s-i-eq34
returns-then-s-i-eq34 c =
    let l = c.loop-i in
    let s = c.args.s.now in
    ap Some (take_rest (l.i + 1) s) ∙ sym (ap behind (quote_at s l.i c.loop-i-test.true c.if-s-i-eq34.true)) ∙ l.invariant.ends

pub returns-then-s-i-ne92 : goal.returns-then-s-i-ne92
returns-then-s-i-ne92 c =
    let l = c.loop-i in
    let s = c.args.s.now in
    let h = c.loop-i-test.true in
    sym (ap behind (control_at s l.i h (control_here s l.i h l.invariant.behind_run c.if-s-i-eq34.false c.if-s-i-ne92.true))) ∙ l.invariant.ends

pub returns-in_err-escape : goal.returns-in_err-escape
returns-in_err-escape c =
    let l = c.loop-i in
    ap texts_of c.from_residual.ensures
    ∙ sym (ap behind (no_escape_at c.args.s.now l.i c.loop-i-test.true c.if-s-i-ne92.false (sym c.escape_at.ensures.value ∙ ap (option_map char_of) c.in_err-escape.was)))
    ∙ l.invariant.ends

pub overflow_add-i-in-loop-i-2 : goal.overflow_add-i-in-loop-i-2
overflow_add-i-in-loop-i-2 c =
    let e = c.in_ok-escape in
    omega (arith, escape_ends c.args.s.now (c.loop-i.i + 1) (char_of e.escape) (sym c.escape_at.ensures.value ∙ ap (option_map char_of) e.was))

pub plain_end-i-requires-in-loop-i : goal.plain_end-i-requires-in-loop-i
plain_end-i-requires-in-loop-i c =
    let e = c.in_ok-escape in
    escape_ends c.args.s.now (c.loop-i.i + 1) (char_of e.escape) (sym c.escape_at.ensures.value ∙ ap (option_map char_of) e.was)

pub loop-i-preserved : goal.loop-i-preserved
loop-i-preserved c =
    let l = c.loop-i in
    let s = c.args.s.now in
    let e = c.in_ok-escape in
    let f = sym c.escape_at.ensures.value ∙ ap (option_map char_of) e.was in
    let n = l.i + 1 + e.escape.size in
    let r = c.plain_end-i-in-loop-i in
    record {
      inside = run_stays_inside s n r.result r.ensures (escape_ends s (l.i + 1) (char_of e.escape) f);
      behind_run = none_behind_run s n r.result r.ensures;
      ends =
          sym (ap behind (escape_at s l.i c.loop-i-test.true c.if-s-i-ne92.false (char_of e.escape) f) ∙ behind_onto _ (string (drop n s))
          ∙ ap behind (run_at s n r.result r.ensures) ∙ behind_onto _ (string (drop r.result s)))
          ∙ l.invariant.ends;
    }

pub returns : goal.returns
returns c = sym (ap behind (string_ends c.args.s.now c.loop-i.i c.loop-i-test.false)) ∙ c.loop-i.invariant.ends
