-- How the cases of a section are counted.
-- Assumes nothing.
use Rattle.std.specs.Prelude.{Bool, true, false, ◌+◌, ◌%◌, ◌^◌, Option, None, Some, ℕ}
use Rattle.vectors.specs.declared.Tally.{Tally}

abbrev pub next : ℕ → ℕ
next n = (n + 1) % 2 ^ 64

-- with a case more, which agrees or does not; none was read where the input is cut short
abbrev pub counted : Tally → Option Bool → Tally
counted tally None = record tally { whole = false }
counted tally (Some true) = record tally { cases = next tally.cases }
counted tally (Some false) = record tally { cases = next tally.cases; differ = next tally.differ; last = Some (next tally.cases) }
