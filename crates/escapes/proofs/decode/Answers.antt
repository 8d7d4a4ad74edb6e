-- `escapes::decode` meets its contract: one law for each answer.
-- Assumes nothing.
use Rattle.std.proofs.Common.{rules}
use native.Mathlib.Omega.{arith}
use Rattle.buffers.specs.Sink.{wrote}
use Rattle.format.proofs.Outcomes.{handed_on}
use Rattle.chars.proofs.Checking.{passed}
use Rattle.escapes.proofs.Entry.{decode_stopped, decode_no_room, decode_written}
use Rattle.escapes.proofs.decode.Goals as goal

pub returns-in_err-check_text : goal.returns-in_err-check_text
returns-in_err-check_text c = rw (handed_on _ c.from_residual.ensures.1) (decode_stopped c.args.text.now c.args.out.now c.in_err-check_text.ensures)

pub returns-then-out-n : goal.returns-then-out-n
returns-then-out-n c =
    let a = c.args in
    let p = passed a.text.now c.in_ok-check_text.ensures in
    decode_no_room a.text.now a.out.now p.0 p.1 c.unescape.new.sink.count (omega (arith, c.unescape.ensures)) c.if-out-n.true

pub returns : goal.returns
returns c =
    let a = c.args in
    let w = c.append_unescaped in
    let n = c.unescape in
    let p = passed a.text.now c.in_ok-check_text.ensures in
    let d = decode_written a.text.now a.out.now p.0 p.1 n.new.sink.count (omega (arith, n.ensures)) w.new.sink.out.now w.new.sink.end c.if-out-n.false (wrote w.ensures) in
    let l = w.ensures.lent in
    search rules
