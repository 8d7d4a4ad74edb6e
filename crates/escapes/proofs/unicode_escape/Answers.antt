-- `escapes::unicode_escape` meets its contract: the byte behind the { says how the rest is read.
-- Assumes nothing.
use mathlib.Core.Path.{◌≡◌, sym, ap, ◌∙◌}
use mathlib.Core.Bool.{false}
use Prim.Native.Char.{code}
use Prim.Native.Nat.{ℕ, ◌+◌, ◌-◌}
use native.Mathlib.Omega.{arith}
use lib.ListN.{drop, get_or}
use Rattle.escapes.specs.Unescape.{named}
use Rattle.escapes.specs.Walk.{braces, unnamed, numbered}
use Rattle.escapes.proofs.Braces.{next_digit_at, no_name_at, end_at, first_underscore, first_plus, first_at}
use Rattle.escapes.proofs.Escapes.{brace}
use Rattle.escapes.proofs.unicode_escape.Goals as goal

pub returns-then-s-first : goal.returns-then-s-first
returns-then-s-first c =
    let a = c.args in
    sym (brace a.s.now a.from c.if-s-open-ne123.false ∙ end_at a.s.now (a.from + 2) 2 named c.if-s-first.true)

pub returns-then-s-first-eq95 : goal.returns-then-s-first-eq95
returns-then-s-first-eq95 c =
    let a = c.args in
    let n : a.from + 2 - a.from ≡ 2 = omega arith in
    let no : get_or a.s.now (a.from + 2) 0 ≡ code "}" → ⊥ = λ e. omega (arith, c.if-s-first-eq95.true) in
    c.stand.ensures
    ∙ ap (λ (k : ℕ). braces unnamed k (drop (a.from + 2) a.s.now)) n
    ∙ sym (no_name_at a.s.now (a.from + 2) 2 named (omega arith) no (first_underscore _ c.if-s-first-eq95.true))
    ∙ sym (brace a.s.now a.from c.if-s-open-ne123.false)

pub returns-then-s-first-eq43 : goal.returns-then-s-first-eq43
returns-then-s-first-eq43 c =
    let a = c.args in
    let n : a.from + 2 + 1 - a.from ≡ 3 = omega arith in
    let no : get_or a.s.now (a.from + 2) 0 ≡ code "}" → ⊥ = λ e. omega (arith, c.if-s-first-eq43.true) in
    c.braced_number.ensures
    ∙ ap (λ (k : ℕ). braces (numbered false 0) k (drop (a.from + 2 + 1) a.s.now)) n
    ∙ sym (next_digit_at a.s.now (a.from + 2) 2 named (numbered false 0) (omega arith) no (first_plus _ c.if-s-first-eq43.true))
    ∙ sym (brace a.s.now a.from c.if-s-open-ne123.false)

pub returns : goal.returns
returns c =
    let a = c.args in
    let n : a.from + 2 - a.from ≡ 2 = omega arith in
    c.braced_number-2.ensures
    ∙ ap (λ (k : ℕ). braces (numbered false 0) k (drop (a.from + 2) a.s.now)) n
    ∙ sym (first_at a.s.now (a.from + 2) 2 (omega arith) c.if-s-first-eq95.false c.if-s-first-eq43.false)
    ∙ sym (brace a.s.now a.from c.if-s-open-ne123.false)
