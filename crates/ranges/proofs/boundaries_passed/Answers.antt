-- `ranges::boundaries_passed` meets its contract: the library's search, in a table that goes up.
-- Assumes nothing.
use lib.Dec.{leb}
use Rattle.std.proofs.Common.{rules}
use Rattle.std.proofs.lemmas.List.Sorted.{IsPartitionPoint-from_clause, IsPartitionedBy-leb}
use Rattle.ranges.proofs.Search.{ascending_rises, at_point}
use Rattle.ranges.proofs.boundaries_passed.Goals as goal

pub returns : goal.returns
returns c =
    let a = c.args.table.now in
    let p = c.partition_point in
    let parted = IsPartitionedBy-leb (λ n. n) a c.args.c (ascending_rises a c.requires) in
    let point = IsPartitionPoint-from_clause (λ n. leb n c.args.c) a p.result p.ensures.partitioned parted (λ b r q k. search rules) in
    let b = at_point a c.args.c p.result p.ensures.bound point in
    record { within = b.hi_le; below = b.below; above = b.beyond }
