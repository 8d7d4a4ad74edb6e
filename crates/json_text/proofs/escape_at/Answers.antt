-- `json_text::escape_at` meets its contract: the letter decides.
-- Assumes nothing.
use mathlib.Core.Path.{sym, ap, ◌∙◌}
use native.Mathlib.Omega.{arith}
use lib.ListN.{get_or}
use Rattle.std.specs.Prelude.{option_map}
use Rattle.json_text.specs.Post.{char_of}
use Rattle.json_text.proofs.Escaping.{escape_past, escape_unicode, escape_short, escape_ascii, short_ascii}
use Rattle.json_text.proofs.escape_at.Goals as goal

pub returns-then-s-at-clause-value : goal.returns-then-s-at-clause-value
returns-then-s-at-clause-value c = let a = c.args in sym (escape_past a.s.now a.at c.if-s-at.true)

pub returns-then-s-at-eq117-clause-value : goal.returns-then-s-at-eq117-clause-value
returns-then-s-at-eq117-clause-value c = let a = c.args in c.unicode_at.ensures.value ∙ sym (escape_unicode a.s.now a.at c.if-s-at-eq117.true)

pub returns-in_err-c-clause-value : goal.returns-in_err-c-clause-value
returns-in_err-c-clause-value c =
    let a = c.args in
    ap (option_map char_of) c.from_residual.ensures ∙ sym (escape_short a.s.now a.at c.if-s-at-eq117.false (sym c.short_at.ensures ∙ c.in_err-c.was))

pub returns-clause-value : goal.returns-clause-value
returns-clause-value c = let a = c.args in sym (escape_ascii a.s.now a.at c.if-s-at-eq117.false c.in_ok-c.field-0 (sym c.short_at.ensures ∙ c.in_ok-c.was))

pub returns-clause-upper_bound : goal.returns-clause-upper_bound
returns-clause-upper_bound c = omega (arith, short_ascii (get_or c.args.s.now c.args.at 0) c.in_ok-c.field-0 (sym c.short_at.ensures ∙ c.in_ok-c.was))
