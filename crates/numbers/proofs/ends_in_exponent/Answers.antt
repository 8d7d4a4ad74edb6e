-- `numbers::ends_in_exponent` meets its contract: each return cites the law of its tests. Assumes nothing.
use Rattle.std.proofs.Common.{sym, ◌∙◌}
use Rattle.numbers.proofs.ExponentLaws.{tail_no_digits, tail_digits}
use Rattle.numbers.proofs.ends_in_exponent.Goals as goal

pub returns-then-end-start : goal.returns-then-end-start
returns-then-end-start c =
    let a = c.args in
    sym (tail_no_digits a.s.now a.from c.if-s-from.false c.sign_end-start.result c.digits_end-end.result (sym c.is_exponent_letter.ensures ∙ c.if-not-is_exponent_letter.false) c.sign_end-start.ensures c.digits_end-end.ensures c.if-end-start.true)

pub returns : goal.returns
returns c =
    let a = c.args in
    sym (tail_digits a.s.now a.from c.if-s-from.false c.sign_end-start.result c.digits_end-end.result (sym c.is_exponent_letter.ensures ∙ c.if-not-is_exponent_letter.false) c.sign_end-start.ensures c.digits_end-end.ensures c.if-end-start.false)
