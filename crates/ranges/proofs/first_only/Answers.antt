-- `ranges::first_only` meets its contract: the table of the code is the list of the definition.
-- Assumes nothing.
use mathlib.Core.Path.{refl}
use Rattle.ranges.specs.FirstOnly.{first_only}
use Rattle.ranges.proofs.first_only.Goals as goal

pub returns : goal.returns
unfolding first_only
returns c = refl
