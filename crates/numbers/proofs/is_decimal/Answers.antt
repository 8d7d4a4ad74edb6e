-- `numbers::is_decimal` meets its contract: each return cites the law of its tests. Assumes nothing.
use Rattle.std.proofs.Common.{sym, ◌∙◌, zero-add}
use Rattle.numbers.proofs.DecimalLaws.{decimal_too_short, decimal_without_dot, decimal_dot_alone, decimal_behind_digits}
use Rattle.numbers.proofs.is_decimal.Goals as goal

pub returns-then-s-dot : goal.returns-then-s-dot
returns-then-s-dot c =
    let s = c.args.s.now in
    sym (decimal_too_short s c.sign_end-start.result c.digits_end-dot.result (c.sign_end-start.ensures ∙ zero-add _) c.digits_end-dot.ensures c.if-s-dot.true)

pub returns-then-s-dot-ne46 : goal.returns-then-s-dot-ne46
returns-then-s-dot-ne46 c =
    let s = c.args.s.now in
    sym (decimal_without_dot s c.sign_end-start.result c.digits_end-dot.result (c.sign_end-start.ensures ∙ zero-add _) c.digits_end-dot.ensures c.if-s-dot-ne46.true)

pub returns-then-end-start : goal.returns-then-end-start
returns-then-end-start c =
    let s = c.args.s.now in
    sym (decimal_dot_alone s c.sign_end-start.result c.digits_end-dot.result (c.sign_end-start.ensures ∙ zero-add _) c.digits_end-dot.ensures c.digits_end-end.result c.if-s-dot.false c.if-s-dot-ne46.false c.digits_end-end.ensures c.if-end-start.true)

pub returns : goal.returns
returns c =
    let s = c.args.s.now in
    c.ends_in_exponent.ensures
    ∙ sym (decimal_behind_digits s c.sign_end-start.result c.digits_end-dot.result (c.sign_end-start.ensures ∙ zero-add _) c.digits_end-dot.ensures c.digits_end-end.result c.if-s-dot.false c.if-s-dot-ne46.false c.digits_end-end.ensures c.if-end-start.false)
