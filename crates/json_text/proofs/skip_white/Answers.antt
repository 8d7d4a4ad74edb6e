-- `json_text::skip_white` meets its contract. The loop's invariant: only white space was passed.
-- Assumes nothing.
use mathlib.Core.Path.{sym, ap, ◌∙◌}
use Prim.Native.Nat.{ℕ}
use native.Mathlib.Omega.{arith}
use lib.ListN.{length, drop}
use Rattle.buffers.proofs.Appending.{take_rest}
use Rattle.json_text.specs.Syntax.{ws}
use Rattle.json_text.proofs.White.{ws_passes, ws_stops, ws_ends}
use Rattle.json_text.proofs.skip_white.Goals as goal

pub returns-then-not-is_space : goal.returns-then-not-is_space
returns-then-not-is_space c =
    let l = c.loop-i in
    let s = c.args.s.now in
    take_rest l.i s ∙ sym (ws_stops s l.i c.loop-i-test.true (sym c.is_space.ensures ∙ c.if-not-is_space.true)) ∙ l.invariant

pub loop-i-preserved : goal.loop-i-preserved
loop-i-preserved c =
    let l = c.loop-i in
    sym (ws_passes c.args.s.now l.i c.loop-i-test.true (sym c.is_space.ensures ∙ c.if-not-is_space.false)) ∙ l.invariant

pub returns : goal.returns
returns c =
    let s = c.args.s.now in
    take_rest (length s) s ∙ sym (ws_ends s (length s) (omega arith)) ∙ ap (λ (i : ℕ). ws (drop i s)) (omega arith) ∙ c.loop-i.invariant
