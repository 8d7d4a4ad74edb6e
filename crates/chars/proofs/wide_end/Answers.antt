-- `chars::wide_end` meets its contract. The loop's invariant: no White_Space character of fewer bytes ends the text.
-- Assumes nothing.
use Prim.Native.Nat.{◌-◌}
use lib.ListN.{length, drop}
use native.Mathlib.Omega.{arith}
use Rattle.std.proofs.lemmas.Grind.{common_steps}
use Rattle.chars.proofs.Ending.{white_few}
use Rattle.chars.proofs.wide_end.Goals as goal

pub returns-else-eq : goal.returns-else-eq
returns-else-eq c =
    record {
      nonempty = λ l. absurd (omega arith);
      nothing = λ _ m e. let few = white_few (drop (length c.args.s.now - m) c.args.s.now) in grind (arith, common_steps);
    }
