-- `ranges::escaped_anywhere` meets its contract: the table of the code is the list of the definition.
-- Assumes nothing.
use mathlib.Core.Path.{refl}
use Rattle.ranges.specs.EscapedAnywhere.{escaped_anywhere}
use Rattle.ranges.proofs.escaped_anywhere.Goals as goal

pub returns : goal.returns
unfolding escaped_anywhere
returns c = refl
