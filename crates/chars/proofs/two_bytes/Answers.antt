-- `chars::two_bytes` meets its contract: each return follows from the tests that led there.
-- Assumes nothing.
use mathlib.Core.Logic.{inl, inr}
use Rattle.std.proofs.Common.{arith}
use Rattle.std.proofs.lemmas.Grind.{common_steps}
use Rattle.chars.proofs.Runs.{two_first, two_short, two_second}
use Rattle.chars.proofs.two_bytes.Goals as goal

pub returns-in_default : goal.returns-in_default
returns-in_default c = two_second c.args.s.now c.args.at c.requires.0 c.requires.1 (inl (grind (arith, common_steps)))

pub returns-in_default-2 : goal.returns-in_default-2
returns-in_default-2 c = two_first c.args.s.now c.args.at c.requires.0 c.requires.1 c.if-s-at-ge194.false

pub returns-in_default-3 : goal.returns-in_default-3
returns-in_default-3 c = two_second c.args.s.now c.args.at c.requires.0 c.requires.1 (inr (grind (arith, common_steps)))

pub returns-in_default-4 : goal.returns-in_default-4
returns-in_default-4 c = two_short c.args.s.now c.args.at c.requires.0 c.requires.1 (grind (arith, common_steps))
