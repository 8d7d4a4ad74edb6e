-- The two tables go up: one test of each whole table, which antt computes.
-- Assumes nothing.
use Rattle.ranges.specs.Ranges.{Ascending}
use Rattle.ranges.specs.EscapedAnywhere.{escaped_anywhere}
use Rattle.ranges.specs.FirstOnly.{first_only}
use Rattle.ranges.proofs.Order.{ascends_ascending}

pub escaped_anywhere_ascending : Ascending escaped_anywhere
unfolding escaped_anywhere
escaped_anywhere_ascending = ascends_ascending escaped_anywhere tt

pub first_only_ascending : Ascending first_only
unfolding first_only
first_only_ascending = ascends_ascending first_only tt
