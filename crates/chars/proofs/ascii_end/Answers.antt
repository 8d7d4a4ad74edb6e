-- `chars::ascii_end` meets its contract: three runs, one behind the other.
-- Assumes nothing.
use mathlib.Core.Path.{◌≡◌}
use Prim.Native.Nat.{◌+◌}
use native.Mathlib.Omega.{arith}
use lib.Dec.{ltb}
use Rattle.std.proofs.Common.{rules}
use Rattle.chars.specs.Post.{Plain}
use Rattle.chars.proofs.Runs.{plain_all, plain_join}
use Rattle.chars.proofs.ascii_end.Goals as goal

pub returns : goal.returns
returns c =
    let a = c.args in
    let s = a.s.now in
    let r = c.plain_end-first in
    let b = c.blocks_end-far in
    let e : r.result ≡ a.at + 16 = omega (arith, r.ensures.1, c.if-first-near.false) in
    let blocks : Plain s (a.at + 16) b.result = plain_all s (a.at + 16) b.result b.ensures.forward (b.ensures.passed (λ b. ltb b 128) (λ block h. search rules)) in (
      plain_join s a.at b.result c.plain_end-2.result
          (plain_join s a.at (a.at + 16) b.result (rw e at r.ensures.0) blocks)
          c.plain_end-2.ensures.0,
      c.plain_end-2.ensures.1,
    )
