-- `chars::blocks_end` meets its contract: each byte passed stands in a block that passes.
-- Assumes nothing.
use Rattle.std.proofs.Common.{◌≡◌, ◌-◌, ◌/◌, length, length-drop, ap, ap₂, ◌∙◌, arith, rules}
use Rattle.std.specs.Slice.Iter.{chunks_exact_rest, chunks_exact_size}
use Rattle.buffers.proofs.Appending.{take_rest}
use Rattle.chars.proofs.Blocks.{some_item, read_item, in_blocks}
use Rattle.chars.proofs.blocks_end.Goals as goal

pub returns-in-Some-clause-passed : goal.returns-in-Some-clause-passed
returns-in-Some-clause-passed g c =
    λ p h.
    let s = c.args.s in
    let t = c.in-Some.ensures.runs in
    let q = t.0 in
    let e = c.chunks_exact.ensures.runs q q.seen (search rules) in
    let w = t.2.1 (search rules) in
    in_blocks p s.now (chunks_exact_rest q.from) c.args.at g.row.N (chunks_exact_size q.from) c.in-Some.n q.at c.requires.nonempty
    (ap chunks_exact_size t.1 ∙ c.chunks_exact.ensures.size) (ap chunks_exact_rest t.1 ∙ c.chunks_exact.ensures.rest ∙ take_rest c.args.at s.now)
    e.2
    (λ k l. some_item (q.at k) (λ x u. h x.now (search rules)) (w.1 k l))

pub returns-clause-passed : goal.returns-clause-passed
returns-clause-passed g c =
    λ p h.
    let s = c.args.s in
    let t = c.in-None.ensures.runs in
    let q = t.0 in
    let e = c.chunks_exact.ensures.runs q q.seen (search rules) in
    let w = t.2.1 (search rules) in
    let sized = ap chunks_exact_size t.1 ∙ c.chunks_exact.ensures.size in
    let behind = ap chunks_exact_rest t.1 ∙ c.chunks_exact.ensures.rest ∙ take_rest c.args.at s.now in
    let n : q.len ≡ (length s.now - c.args.at) / g.row.N = e.1 t.2.0 ∙ ap₂ ◌/◌ (ap length behind ∙ length-drop c.args.at s.now) sized in
    in_blocks p s.now (chunks_exact_rest q.from) c.args.at g.row.N (chunks_exact_size q.from) ((length s.now - c.args.at) / g.row.N) q.at c.requires.nonempty
    sized behind e.2
    (λ k l. read_item (q.at k) _ (q.reads k s (omega (arith, n))) (λ x u. h x.now (search rules)) (w k))
