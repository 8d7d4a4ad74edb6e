-- `sorting::place_precedes` meets its contract: the numbers at both places are compared.
-- Assumes nothing.
use Rattle.pack.specs.Walk.{place_key}
use Rattle.sorting.proofs.place_precedes.Goals as goal

pub returns : goal.returns
unfolding place_key
returns c = rw (← c.number_at.ensures, ← c.number_at-2.ensures) c.text_precedes.ensures
