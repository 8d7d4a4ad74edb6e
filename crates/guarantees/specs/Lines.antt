-- The words of "judging and reading agree": the lines of a log, and what reading each of them alone answers. Total on all lists.
-- Assumes nothing.
use Rattle.format.specs.declared.Refusal.{Refusal}
use Rattle.std.specs.Prelude.{◌≡◌, true, List, [], ◌∷◌, ◌⊎◌, ℕ, ◌+◌, ◌-◌, ◌≤◌, ◌<◌, length, get_or}
use Rattle.format.specs.Limits.{text_limit}
use Rattle.chars.specs.Utf8.{utf8}
use Rattle.events.specs.Event.{Event}
use Rattle.events.specs.Answer.{event, blank, refused, read_line}
use Rattle.log_listing.specs.Night.{event_in}
use Rattle.logs.specs.Lines.{lines_of, unmarked}

-- a text that 2 and 3 let pass
pub record InLimits (s : List ℕ) : Type 0 where
  pub short : length s ≤ text_limit
  pub encoded : utf8 s ≡ true

-- the lines of a log, without its mark
abbrev pub log_lines : List ℕ → List (List ℕ)
log_lines s = lines_of (unmarked s)

-- the line of a number: lines count from one, blank ones included
abbrev pub line_numbered : ℕ → List (List ℕ) → List ℕ
line_numbered n xs = get_or xs (n - 1) []

abbrev pub Numbered : ℕ → List (List ℕ) → Type 0
Numbered n xs = (1 ≤ n) × (n ≤ length xs)

-- ---- one line alone

abbrev pub IsRead : List ℕ → Type 0
IsRead x = (e : Event) × (read_line x ≡ event e)

abbrev pub ReadOrBlank : List ℕ → Type 0
ReadOrBlank x = (read_line x ≡ blank) ⊎ IsRead x

-- ---- all of them

abbrev pub EachReadOrBlank : List (List ℕ) → Type 0
EachReadOrBlank xs = (n : ℕ) → Numbered n xs → ReadOrBlank (line_numbered n xs)

-- how many lines are read
unfoldable pub events_in : List (List ℕ) → ℕ
events_in [] = 0
events_in (x ∷ xs) = event_in (read_line x) + events_in xs

-- the line of this number is refused by x, and none before it is
pub record FirstRefused (xs : List (List ℕ)) (line : ℕ) (x : Refusal) : Type 0 where
  pub numbered : Numbered line xs
  pub here : read_line (line_numbered line xs) ≡ refused x
  pub before : (n : ℕ) → 1 ≤ n → n < line → ReadOrBlank (line_numbered n xs)
