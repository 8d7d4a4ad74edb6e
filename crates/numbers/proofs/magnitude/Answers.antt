-- `numbers::magnitude` meets its contract. The loop's invariant: what is left to read, behind digits that say n, gives the answer.
-- Assumes nothing.
use Rattle.std.proofs.Common.{sym, ap, ◌∙◌, ◌-◌, length, drop, length-drop, arith}
use lib.Seq.{take_all}
use Rattle.numbers.proofs.IntegerLaws.{up_to_from, up_to_none, up_to_start, up_to_on, up_to_off, up_to_past, up_to_large, up_to_is}
use Rattle.numbers.proofs.magnitude.Goals as goal

pub returns-then-s-from : goal.returns-then-s-from
returns-then-s-from c = let a = c.args in up_to_none a.limit a.s.now a.from c.if-s-from.true

pub loop-b-init : goal.loop-b-init
loop-b-init c = let a = c.args in up_to_start a.limit a.s.now a.from c.if-s-from.false ∙ ap (λ t. up_to_from a.limit 0 t) (sym (take_all (length a.s.now - a.from) (drop a.from a.s.now) (omega (arith, length-drop a.from a.s.now))))

pub returns-then-not-is_ascii_digit : goal.returns-then-not-is_ascii_digit
returns-then-not-is_ascii_digit c =
    let l = c.loop-b in
    sym (l.invariant ∙ up_to_off c.args.limit _ l.b-index l.n c.loop-b-test.true (sym c.is_ascii_digit.ensures.value ∙ c.if-not-is_ascii_digit.true))

pub returns-then-n-gt-FULL : goal.returns-then-n-gt-FULL
returns-then-n-gt-FULL c =
    let l = c.loop-b in
    sym (l.invariant ∙ up_to_past c.args.limit _ l.b-index l.n (omega (arith, c.requires)) c.loop-b-test.true)

pub loop-b-preserved : goal.loop-b-preserved
loop-b-preserved c =
    let l = c.loop-b in
    l.invariant ∙ up_to_on c.args.limit _ l.b-index l.n c.loop-b-test.true (sym c.is_ascii_digit.ensures.value ∙ c.if-not-is_ascii_digit.false)

pub returns-then-limit-n : goal.returns-then-limit-n
returns-then-limit-n c =
    let l = c.loop-b in
    sym (l.invariant ∙ up_to_large c.args.limit _ l.b-index l.n c.loop-b-test.false c.if-limit-n.true)

pub returns : goal.returns
returns c =
    let l = c.loop-b in
    sym (l.invariant ∙ up_to_is c.args.limit _ l.b-index l.n c.loop-b-test.false c.if-limit-n.false)
