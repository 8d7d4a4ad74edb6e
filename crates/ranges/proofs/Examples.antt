-- Which code points the two tables hold at the edges of some ranges: the one before, the first, the last, the one behind.
-- Assumes nothing.
use mathlib.Core.Path.{◌≡◌, refl}
use mathlib.Core.Bool.{true, false}
use Rattle.ranges.specs.Ranges.{member}
use Rattle.ranges.specs.EscapedAnywhere.{escaped_anywhere}
use Rattle.ranges.specs.FirstOnly.{first_only}

-- U+007F to U+00A0: the printable ASCII ends before, and an inverted exclamation mark stands behind
pub delete_and_controls :
    (member escaped_anywhere 0x7E ≡ false) × (member escaped_anywhere 0x7F ≡ true)
    × (member escaped_anywhere 0xA0 ≡ true) × (member escaped_anywhere 0xA1 ≡ false)
unfolding member escaped_anywhere
delete_and_controls = (refl, refl, refl, refl)

-- U+00AD, the soft hyphen, alone
pub soft_hyphen : (member escaped_anywhere 0xAC ≡ false) × (member escaped_anywhere 0xAD ≡ true) × (member escaped_anywhere 0xAE ≡ false)
unfolding member escaped_anywhere
soft_hyphen = (refl, refl, refl)

-- the last code point
pub last_point : member escaped_anywhere 0x10FFFF ≡ true
unfolding member escaped_anywhere
last_point = refl

-- U+0300 to U+036F, the combining marks: only as first character
pub combining :
    (member first_only 0x2FF ≡ false) × (member first_only 0x300 ≡ true) × (member first_only 0x301 ≡ true)
    × (member first_only 0x36F ≡ true) × (member first_only 0x370 ≡ false) × (member escaped_anywhere 0x301 ≡ false)
unfolding member escaped_anywhere first_only
combining = (refl, refl, refl, refl, refl, refl)

-- U+E0100 to U+E01EF, the last range of that table
pub variation_selectors :
    (member first_only 0xE00FF ≡ false) × (member first_only 0xE0100 ≡ true)
    × (member first_only 0xE01EF ≡ true) × (member first_only 0xE01F0 ≡ false)
unfolding member first_only
variation_selectors = (refl, refl, refl, refl)
