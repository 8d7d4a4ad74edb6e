-- What the program writes: the stretches that `next_stretch` gives, joined until the end, are the night listing of document 01. Each theorem
-- is a few words that cite the file with the work.
-- Assumes nothing.
use mathlib.Core.Path.{◌≡◌}
use mathlib.Core.List.{List}
use Prim.Native.Nat.{ℕ, ◌<◌}
use lib.ListN.{take}
use Rattle.format.specs.Limits.{text_limit}
use Rattle.log_listing.specs.Night.{night_listing}
use Rattle.log_listing.specs.Stretch.{Falls}
use Rattle.log_listing.specs.declared.Place.{Place}
use Rattle.log_listing.specs.declared.Place.TheVariants.{Start}
use Rattle.log_listing.proofs.Pieces.{onward}
use Rattle.guarantees.specs.Stretches.{Call, CallAt, Run, wrote}
use Rattle.guarantees.proofs.Stretched

-- 1. Calls that begin at the start of any input and go on, each where the one before said, until the last: what they wrote, joined, is the
-- night listing of the input.
pub stretches_joined : (s : List ℕ) (cs : List Call) → Run s Start cs → wrote cs ≡ night_listing s
stretches_joined = Stretched.run_lists

-- 2. There are such calls for every input,
pub stretches_exist : (s : List ℕ) → (cs : List Call) × Run s Start cs
stretches_exist = Stretched.run_exists

-- and whoever makes them comes to the end: from call to call less is left.
pub stretches_end : (s : List ℕ) (p : Place) (c : Call) → CallAt s p c → Falls s p c.answer
stretches_end s p c w = (onward s p c.lent c.answer c.output w).falls

-- 3. More than the limit need not be read: any start of the input that is longer than the limit lists as the whole does.
pub listing_start_enough : (s : List ℕ) (n : ℕ) → text_limit < n → night_listing (take n s) ≡ night_listing s
listing_start_enough = Stretched.listing_of_start
