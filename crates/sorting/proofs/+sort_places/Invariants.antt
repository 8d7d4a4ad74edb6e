-- `sorting::sort_places` meets its contract. The measure is n, of which each half is less. Assumes nothing.
use Rattle.sorting.proofs.+sort_places.Given as goal

abbrev pub decreases-sort_places : goal.decreases-sort_places
decreases-sort_places l = l.n
