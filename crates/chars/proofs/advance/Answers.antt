-- `chars::advance` meets its contract: a run of ASCII, a character of two bytes, or the character that stands there.
-- Assumes nothing.
use Prim.Native.Nat.{◌+◌}
use native.Mathlib.Omega.{arith}
use Rattle.chars.proofs.Runs.{plain_none, plain_more, plain_join, plain_advances}
use Rattle.chars.proofs.advance.Goals as goal

pub returns-in-0-to-127 : goal.returns-in-0-to-127
returns-in-0-to-127 c =
    let s = c.args.s.now in
    let at = c.args.at in
    let r = c.ascii_end.ensures.0 in (
      omega (arith, r.forward),
      plain_advances s at c.ascii_end.result (omega (arith, r.forward)) c.ascii_end.ensures.1
          (plain_join s at (at + 1) c.ascii_end.result (plain_more s at at (plain_none s at) (omega arith)) r),
    )
