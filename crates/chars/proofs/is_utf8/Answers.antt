-- `chars::is_utf8` meets its contract. The loop's invariant: the text is UTF-8 exactly where the rest is.
-- Assumes nothing.
use mathlib.Core.Path.{refl, sym, ap, ◌∙◌}
use native.Mathlib.Omega.{arith}
use lib.ListN.{drop, length-drop, drop_of_length-le}
use Rattle.chars.specs.Utf8.{utf8_from, utf8}
use Rattle.chars.proofs.Reading.{char_stuck}
use Rattle.chars.proofs.is_utf8.Goals as goal

pub returns-in-None : goal.returns-in-None
returns-in-None c =
    let l = c.loop-at in
    let s = c.args.s.now in
    sym (l.invariant.1 ∙ char_stuck (drop l.at s) (omega (arith, length-drop l.at s, c.loop-at-test.true)) (c.in-None.ensures.stuck refl))

pub returns : goal.returns
unfolding utf8_from
returns c =
    let s = c.args.s.now in
    sym (c.loop-at.invariant.1 ∙ ap utf8 (drop_of_length-le s c.loop-at-test.false))
