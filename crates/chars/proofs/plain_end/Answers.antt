-- `chars::plain_end` meets its contract: the first byte past ASCII.
-- Assumes nothing.
use Prim.Native.Nat.{◌≤◌}
use native.Mathlib.Omega.{arith}
use lib.ListN.{get_or, take}
use lib.Seq.{get_or-take, length-take-le}
use Rattle.std.proofs.Common.{rules}
use Rattle.chars.proofs.plain_end.Goals as goal

pub returns : goal.returns
returns c =
    let a = c.args in
    let f = c.find_from.ensures in (
      record {
        forward = f.forward;
        ascii = λ i h l.
            let low : get_or (take a.limit a.s.now) i 0 ≤ 127 = search (rules, f.before i h l) in
            omega (arith, get_or-take a.limit a.s.now i 0 (omega (arith, f.inside, length-take-le a.limit a.s.now c.requires.1)));
      },
      omega (arith, f.inside, length-take-le a.limit a.s.now c.requires.1),
    )
