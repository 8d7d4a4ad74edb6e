-- White_Space as document 01 lists it, and a text without it at its ends, as Rust's `str::trim` leaves it.
-- Assumes nothing.
use Rattle.std.specs.Prelude.{Bool, true, false, cond, ◌&&◌, ◌||◌, List, [], ◌∷◌, ℕ, zero, suc, leb, eqb}
use Rattle.chars.specs.Utf8.{char_at}
use Rattle.std.specs.Prelude.{None, Option, Some}

-- lo to hi, both included
abbrev pub within : ℕ → ℕ → ℕ → Bool
within lo hi c = leb lo c && leb c hi

-- the code points of White_Space behind ASCII
unfoldable pub wide_white : ℕ → Bool
wide_white c =
    eqb c 0x85 || (eqb c 0xA0 || (eqb c 0x1680 || (within 0x2000 0x200A c || (eqb c 0x2028 || (eqb c 0x2029
    || (eqb c 0x202F || (eqb c 0x205F || eqb c 0x3000)))))))

-- all of them: U+0009 to U+000D, U+0020, and those behind ASCII
unfoldable pub white : ℕ → Bool
white c = within 0x9 0xD c || (eqb c 0x20 || wide_white c)

-- the width of what was read, where it is White_Space
abbrev pub width_of : Option (ℕ × ℕ) → ℕ
width_of (Some (c, n)) = cond (white c) n 0
width_of None = 0

-- how many bytes the White_Space character takes that a text begins with; 0 where it begins with none
unfoldable pub white_at : List ℕ → ℕ
white_at s = width_of (char_at s)

-- the text itself where nothing is taken off, else what follows past n bytes more
abbrev pub or_past : ℕ → List ℕ → (ℕ → List ℕ) → List ℕ
or_past zero s past = s
or_past (suc n) s past = past n

-- without the White_Space at the start, behind the first k bytes, which are the rest of a character
unfoldable pub trim_from : ℕ → List ℕ → List ℕ
trim_from k [] = []
trim_from (suc k) (a ∷ r) = trim_from k r
trim_from zero (a ∷ r) = or_past (white_at (a ∷ r)) (a ∷ r) (λ n. trim_from n r)

abbrev pub trim_start : List ℕ → List ℕ
trim_start s = trim_from 0 s

abbrev pub empty : List ℕ → Bool
empty [] = true
empty (a ∷ r) = false

-- without the White_Space at the end: a rest that is nothing else is dropped
unfoldable pub trim_end : List ℕ → List ℕ
trim_end [] = []
trim_end (a ∷ r) = cond (empty (trim_start (a ∷ r))) [] (a ∷ trim_end r)

abbrev pub trim : List ℕ → List ℕ
trim s = trim_end (trim_start s)

-- a text of White_Space alone, or of nothing
abbrev pub blank : List ℕ → Bool
blank s = empty (trim_start s)
