-- Of inner functions alone: how a character that has no short escape is written, as one answer, with the tables or without them.
-- Assumes nothing.
use Rattle.std.specs.Prelude.{◌≡◌, Bool, cond, ℕ, IfSome, None, Option, Some}
use Rattle.ranges.specs.EscapedAnywhere.{escaped_anywhere}
use Rattle.ranges.specs.FirstOnly.{first_only}
use Rattle.ranges.specs.Common.{common}
use Rattle.ranges.specs.Hidden.{Tables, pinned, hidden}
use Rattle.ranges.specs.declared.EscapeTables.{EscapeTables}
use Rattle.ranges.specs.declared.HiddenTables.{HiddenTables}
use Rattle.ranges.specs.declared.Look.{Look}
use Rattle.ranges.specs.declared.Look.TheVariants.{Number, Itself}

-- how the character c is written that has no short escape
abbrev pub look_of : Tables → Bool → ℕ → Look
look_of t first c = cond (hidden t first c) Number Itself

-- both tables are lent
abbrev pub HiddenLent : HiddenTables → Type 0
HiddenLent t = (t.anywhere.now ≡ escaped_anywhere) × (t.firsts.now ≡ first_only)

-- the common scripts are lent, and with them both tables or neither
abbrev pub TablesLent : EscapeTables → Type 0
TablesLent t = (t.common.now ≡ common) × IfSome t.hidden HiddenLent

-- without the hidden tables there may be no answer
abbrev pub Settled : Option HiddenTables → Bool → ℕ → Option Look → Type 0
Settled lent first c (Some look) = look ≡ look_of pinned first c
Settled lent first c None = lent ≡ None
