-- `numbers::parse_i64` meets its contract: each return cites the law of its sign. Assumes nothing.
use Rattle.std.proofs.Common.{ℕ, drop, sym, ap, ◌∙◌, zero-add, arith}
use Rattle.numbers.specs.Integer.{up_to}
use Rattle.numbers.proofs.IntegerLaws.{i64_empty, i64_plain, i64_minus_none, i64_minus_is}
use Rattle.numbers.proofs.parse_i64.Goals as goal

pub returns-then-s-eq0 : goal.returns-then-s-eq0
returns-then-s-eq0 c = i64_empty c.args.s.now c.if-s-eq0.true

pub returns-in_err-n : goal.returns-in_err-n
returns-in_err-n c =
    let s = c.args.s.now in
    c.from_residual.ensures ∙ i64_minus_none s (omega arith) c.if-s-eq45.true (sym c.magnitude.ensures ∙ c.in_err-n.was)

pub returns-then-s-eq45 : goal.returns-then-s-eq45
returns-then-s-eq45 c =
    let w = c.wrapping_neg in
    let s = c.args.s.now in
    i64_minus_is s c.in_ok-n.n w.result (omega arith) c.if-s-eq45.true (sym c.magnitude.ensures ∙ c.in_ok-n.was) (omega arith) w.ensures

pub returns : goal.returns
returns c =
    let s = c.args.s.now in
    c.magnitude-2.ensures
    ∙ ap (λ (i : ℕ). up_to 9223372036854775807 (drop i s)) (c.sign_end-start.ensures ∙ zero-add _)
    ∙ sym (i64_plain s c.if-s-eq45.false)
