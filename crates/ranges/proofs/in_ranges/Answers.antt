-- `ranges::in_ranges` meets its contract: a member has an odd number of boundaries up to it.
-- Assumes nothing.
use mathlib.Core.Path.{sym, ◌∙◌}
use Rattle.ranges.proofs.Search.{placed, odd_mod}
use Rattle.ranges.proofs.in_ranges.Goals as goal

pub returns : goal.returns
returns c =
    let s = c.args in
    let p = c.boundaries_passed in
    odd_mod p.result ∙ sym (placed s.table.now s.c p.result p.ensures.within p.ensures.below p.ensures.above)
