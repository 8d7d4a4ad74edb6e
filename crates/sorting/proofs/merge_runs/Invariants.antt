-- `sorting::merge_runs` meets its contract: each way through the loop is a law of LoopLaws, and `Merging` its invariant.
-- Assumes nothing.
use Prim.Native.Nat.{◌-◌}
use lib.ListN.{take}
use Rattle.sorting.specs.Merge.{merged_part}
use Rattle.sorting.proofs.LoopLaws.{Merging}
use Rattle.pack.specs.Walk.{place_key}
use Rattle.sorting.proofs.merge_runs.Given as goal

abbrev pub invariant-loop-i : goal.invariant-loop-i
invariant-loop-i l =
    Merging (place_key l.numbers l.texts) l.spare l.h l.end (merged_part (place_key l.numbers l.texts) (take l.h l.spare) l.from l.h l.m l.initial.order) l.order l.at l.i l.right

abbrev pub decreases-loop-i : goal.decreases-loop-i
decreases-loop-i l = l.end - l.at
