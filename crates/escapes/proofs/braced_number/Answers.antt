-- `escapes::braced_number` meets its contract. The loop's invariant: what the braces come to is what the digits still to be read make of the number so far.
-- Assumes nothing.
use mathlib.Core.Path.{◌≡◌, refl, sym, ap, ◌∙◌}
use mathlib.Core.Bool.{true, false}
use Prim.Native.Nat.{◌+◌, ◌-◌}
use native.Mathlib.Omega.{arith}
use lib.ListN.{get_or}
use Rattle.escapes.specs.Unescape.{hex_digit, if_scalar, char_or}
use Rattle.escapes.specs.Walk.{numbered}
use Rattle.escapes.specs.declared.Escape.TheVariants.{Verbatim}
use Rattle.escapes.proofs.Braces.{read_on, next_digit_at, close_at, end_at, no_name_at, digit_on, underscore_on, no_digit_on, large, close_seen, close_unseen}
use Rattle.escapes.proofs.braced_number.Goals as goal
use Rattle.std.specs.Prelude.{None, Some}

pub loop-i-preserved-then-b-eq95 : goal.loop-i-preserved-then-b-eq95
loop-i-preserved-then-b-eq95 c =
    let l = c.loop-i in
    let a = c.args in
    let n : l.i + 1 - a.from ≡ l.i - a.from + 1 = omega arith in
    (l.invariant.0, rw n (sym (next_digit_at a.s.now l.i (l.i - a.from) (read_on l.value) (read_on l.value) (omega arith) (λ e. omega (arith, c.if-b-eq95.true)) (underscore_on _ l.value c.if-b-eq95.true)) ∙ l.invariant.1))

pub returns-in-Some : goal.returns-in-Some
returns-in-Some c =
    let l = c.loop-i in
    let a = c.args in
    let v = c.in-Some.v in
    let n : l.i + 1 - a.from ≡ l.i - a.from + 1 = omega arith in
    c.char_or.ensures
    ∙ ap (λ k. char_or (if_scalar (Some v)) k) n
    ∙ sym (close_at a.s.now l.i (l.i - a.from) (numbered true v) (omega arith) c.if-b-eq125.true ∙ close_seen true v _ refl)
    ∙ (rw c.in-Some.is at l.invariant.1)

pub returns-in-None : goal.returns-in-None
returns-in-None c =
    let l = c.loop-i in
    let a = c.args in
    let n : l.i + 1 - a.from ≡ l.i - a.from + 1 = omega arith in
    ap Verbatim n
    ∙ sym (close_at a.s.now l.i (l.i - a.from) (numbered false 0) (omega arith) c.if-b-eq125.true ∙ close_unseen false 0 _ refl)
    ∙ (rw c.in-None.is at l.invariant.1)

pub returns-in_default : goal.returns-in_default
returns-in_default c =
    let l = c.loop-i in
    let a = c.args in
    let e : hex_digit (get_or a.s.now l.i 0) ≡ None = sym c.hex_at.ensures.value ∙ c.in_default.is in
    c.stand.ensures
    ∙ sym (no_name_at a.s.now l.i (l.i - a.from) (read_on l.value) (omega arith) c.if-b-eq125.false (no_digit_on _ l.value c.if-b-eq95.false e))
    ∙ l.invariant.1

pub returns-then-next-ge1114112 : goal.returns-then-next-ge1114112
returns-then-next-ge1114112 c =
    let l = c.loop-i in
    let a = c.args in
    let e : hex_digit (get_or a.s.now l.i 0) ≡ Some c.in-Some-hex_at.d = sym c.hex_at.ensures.value ∙ c.in-Some-hex_at.is in
    let u = c.unwrap_or.ensures in
    c.stand-then-next-ge1114112.ensures
    ∙ sym (no_name_at a.s.now l.i (l.i - a.from) (read_on l.value) (omega arith) c.if-b-eq125.false (λ r. digit_on _ l.value c.in-Some-hex_at.d e r ∙ large _ (omega arith) r))
    ∙ l.invariant.1

pub loop-i-preserved : goal.loop-i-preserved
loop-i-preserved c =
    let l = c.loop-i in
    let a = c.args in
    let d = c.in-Some-hex_at.d in
    let e : hex_digit (get_or a.s.now l.i 0) ≡ Some d = sym c.hex_at.ensures.value ∙ c.in-Some-hex_at.is in
    let n : l.i + 1 - a.from ≡ l.i - a.from + 1 = omega arith in
    (c.if-next-ge1114112.false, rw n (rw c.unwrap_or.ensures (sym (next_digit_at a.s.now l.i (l.i - a.from) (read_on l.value) _ (omega arith) c.if-b-eq125.false (digit_on _ l.value d e)) ∙ l.invariant.1)))

pub returns : goal.returns
returns c =
    let l = c.loop-i in
    let a = c.args in
    ap (λ k. Verbatim (k - a.from)) (omega arith) ∙ sym (end_at a.s.now l.i (l.i - a.from) (read_on l.value) (omega arith)) ∙ l.invariant.1
