-- `json_text::hex4` meets its contract: digit by digit.
-- Assumes nothing.
use mathlib.Core.Path.{refl, sym, ap, ◌∙◌}
use native.Mathlib.Omega.{arith}
use Rattle.std.specs.Prelude.{Some}
use Rattle.json_text.proofs.HexDigits.{hex4_at}
use Rattle.json_text.proofs.hex4.Goals as goal

pub returns-in_err-a-clause-value : goal.returns-in_err-a-clause-value
returns-in_err-a-clause-value c =
    let a = c.args in
    c.from_residual.ensures ∙ sym (hex4_at a.s.now a.at (sym c.hex_at.ensures.value ∙ c.in_err-a.was) refl refl refl)

pub returns-in_err-b-clause-value : goal.returns-in_err-b-clause-value
returns-in_err-b-clause-value c =
    let a = c.args in
    c.from_residual-in_err-b.ensures
    ∙ sym (hex4_at a.s.now a.at (sym c.hex_at.ensures.value ∙ c.in_ok-a.was) (sym c.hex_at-2.ensures.value ∙ c.in_err-b.was) refl refl)

pub returns-in_err-c-clause-value : goal.returns-in_err-c-clause-value
returns-in_err-c-clause-value c =
    let a = c.args in
    let first = sym c.hex_at.ensures.value ∙ c.in_ok-a.was in
    let second = sym c.hex_at-2.ensures.value ∙ c.in_ok-b.was in
    c.from_residual-in_err-c.ensures ∙ sym (hex4_at a.s.now a.at first second (sym c.hex_at-3.ensures.value ∙ c.in_err-c.was) refl)

pub returns-in_err-d-clause-value : goal.returns-in_err-d-clause-value
returns-in_err-d-clause-value c =
    let a = c.args in
    let first = sym c.hex_at.ensures.value ∙ c.in_ok-a.was in
    let second = sym c.hex_at-2.ensures.value ∙ c.in_ok-b.was in
    let third = sym c.hex_at-3.ensures.value ∙ c.in_ok-c.was in
    c.from_residual-in_err-d.ensures ∙ sym (hex4_at a.s.now a.at first second third (sym c.hex_at-4.ensures.value ∙ c.in_err-d.was))

pub returns-clause-value : goal.returns-clause-value
returns-clause-value c =
    let a = c.args in
    let first = sym c.hex_at.ensures.value ∙ c.in_ok-a.was in
    let second = sym c.hex_at-2.ensures.value ∙ c.in_ok-b.was in
    let third = sym c.hex_at-3.ensures.value ∙ c.in_ok-c.was in
    ap Some (omega arith) ∙ sym (hex4_at a.s.now a.at first second third (sym c.hex_at-4.ensures.value ∙ c.in_ok-d.was))
