-- `escapes::escape_at` meets its contract: the byte behind the backslash decides.
-- Assumes nothing.
use mathlib.Core.Path.{sym, ◌∙◌}
use Prim.Native.Nat.{◌+◌}
use Rattle.escapes.proofs.Escapes.{lone, short_at, byte_at, unicode_escape_at, no_escape}
use Rattle.escapes.proofs.escape_at.Goals as goal

pub returns-then-s-next : goal.returns-then-s-next
returns-then-s-next c = let a = c.args in sym (lone a.s.now (a.at + 1) c.if-s-next.true)

pub returns-in-Some : goal.returns-in-Some
returns-in-Some c =
    let a = c.args in
    sym (short_at a.s.now (a.at + 1) c.in-Some.code (sym c.short_at.ensures ∙ c.in-Some.is))

pub returns-then-s-next-eq120 : goal.returns-then-s-next-eq120
returns-then-s-next-eq120 c = let a = c.args in c.byte_escape.ensures ∙ sym (byte_at a.s.now (a.at + 1) c.if-s-next-eq120.true)

pub returns-then-s-next-eq117 : goal.returns-then-s-next-eq117
returns-then-s-next-eq117 c = let a = c.args in c.unicode_escape.ensures ∙ sym (unicode_escape_at a.s.now (a.at + 1) c.if-s-next-eq117.true)

pub returns : goal.returns
returns c =
    let a = c.args in
    sym (no_escape a.s.now (a.at + 1) (sym c.short_at.ensures ∙ c.in_default.is) c.if-s-next-eq120.false c.if-s-next-eq117.false)
