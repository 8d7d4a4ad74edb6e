-- `json_text::number_behind` meets its contract: part by part.
-- Assumes nothing.
use mathlib.Core.Path.{sym, ap, ◌∙◌}
use Rattle.json_text.specs.Post.{texts_of}
use Rattle.json_text.proofs.Numbers.{number_no_int, number_no_frac, number_to_exp}
use Rattle.json_text.proofs.number_behind.Goals as goal

pub returns-in_err-point : goal.returns-in_err-point
returns-in_err-point c =
    let d = c.behind_minus-digits in
    ap texts_of c.from_residual.ensures ∙ sym (number_no_int c.args.s.now d.result.now d.ensures (sym c.behind_int.ensures ∙ ap texts_of c.in_err-point.was))

pub returns-in_err-exp : goal.returns-in_err-exp
returns-in_err-exp c =
    let d = c.behind_minus-digits in
    let r = c.in_ok-point in
    let int = sym c.behind_int.ensures ∙ ap texts_of r.was in
    ap texts_of c.from_residual-in_err-exp.ensures
    ∙ sym (number_no_frac c.args.s.now d.result.now d.ensures r.point.now int (sym c.behind_frac.ensures ∙ ap texts_of c.in_err-exp.was))

pub returns : goal.returns
returns c =
    let d = c.behind_minus-digits in
    let r = c.in_ok-point in
    let int = sym c.behind_int.ensures ∙ ap texts_of r.was in
    let e = c.in_ok-exp in
    c.behind_exp.ensures
    ∙ sym (number_to_exp c.args.s.now d.result.now d.ensures r.point.now int e.exp.now (sym c.behind_frac.ensures ∙ ap texts_of e.was))
