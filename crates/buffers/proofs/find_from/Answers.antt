-- `buffers::find_from` meets its contract: `position` counts in the part behind `at`.
-- Assumes nothing.
use Rattle.std.proofs.Common.{rules, ◌≤◌, ◌-◌, false, length, arith}
use Rattle.buffers.proofs.Parts.{part_holds}
use Rattle.buffers.proofs.find_from.Goals as goal

pub returns-in-Some-clause-before : goal.returns-in-Some-clause-before
returns-in-Some-clause-before g c =
    let a = c.args in
    let n = c.in-Some.n in
    let h : n ≤ length a.s.now - a.at = search rules in
    part_holds (λ b. (Rattle.buffers.specs.contracts.find_from.F-Fn.words g.row.F g.F.Fn).post a.passes b false) a.s.now a.at (length a.s.now - a.at) n h (search rules)

pub returns-clause-before : goal.returns-clause-before
returns-clause-before g c =
    let a = c.args in
    λ i l m. part_holds (λ b. (Rattle.buffers.specs.contracts.find_from.F-Fn.words g.row.F g.F.Fn).post a.passes b false) a.s.now a.at (length a.s.now - a.at) (length a.s.now - a.at) (omega arith) (search rules) i l (omega arith)
