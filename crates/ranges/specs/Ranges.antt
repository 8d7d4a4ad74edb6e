-- Ranges of code points as one flat list of boundaries: a start, the end that is no longer in, the next start, ..
-- Assumes nothing.
use Rattle.std.specs.Prelude.{Bool, false, ◌&&◌, ◌||◌, List, [], ◌∷◌, ℕ, ◌<◌, leb, ltb, length, get_or}

-- c is in one of the ranges
unfoldable pub member : List ℕ → ℕ → Bool
member [] c = false
member (lo ∷ []) c = leb lo c
member (lo ∷ hi ∷ rest) c = (leb lo c && ltb c hi) || member rest c

-- the boundaries go up: no range is empty, and no two meet
abbrev pub Ascending : List ℕ → Type 0
Ascending xs = (p q : ℕ) → p < q → q < length xs → get_or xs p 0 < get_or xs q 0
