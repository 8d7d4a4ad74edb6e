-- `chars::spaces_end` meets its contract: blocks of spaces, and then the first other byte.
-- Assumes nothing.
use Prim.Native.Char.{code}
use lib.Dec.{eqb}
use Rattle.std.proofs.Common.{rules}
use Rattle.chars.specs.Post.{Spaces}
use Rattle.chars.proofs.Spacing.{spaces_all, spaces_join}
use Rattle.chars.proofs.spaces_end.Goals as goal

pub returns : goal.returns
returns c =
    let s = c.args.s.now in
    let b = c.blocks_end-far in
    let blocks : Spaces s b.result = spaces_all s b.result (b.ensures.passed (λ a. eqb a (code " ")) (λ block h. search rules)) in
    (spaces_join s b.result c.find_from.result blocks (λ i h l. search (rules, c.find_from.ensures.before i h l)), c.find_from.ensures.inside)
