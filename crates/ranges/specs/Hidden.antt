-- Which characters `escape_debug` writes as numbers. Two lists tell, which belong to a toolchain; nothing else depends on the toolchain.
-- Assumes nothing.
use Rattle.std.specs.Prelude.{Bool, ◌&&◌, ◌||◌, List, ℕ}
use Rattle.ranges.specs.Ranges.{member}
use Rattle.ranges.specs.EscapedAnywhere.{escaped_anywhere}
use Rattle.ranges.specs.FirstOnly.{first_only}

-- the characters that are written as numbers: wherever they stand, and as first character of a text alone
pub record Tables : Type 0 where
  pub anywhere : List ℕ
  pub first_only : List ℕ

-- those of the pinned toolchain
abbrev pub pinned : Tables
pinned = record { anywhere = escaped_anywhere; first_only = first_only }

-- c is written as a number; `first` says whether it is the first character
unfoldable pub hidden : Tables → Bool → ℕ → Bool
hidden t first c = member t.anywhere c || (first && member t.first_only c)
