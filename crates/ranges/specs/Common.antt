-- Of inner functions alone: code points of common scripts that are in neither table, as ranges: they are told without the tables.
-- Assumes nothing.
use Rattle.std.specs.Prelude.{List, [], ◌∷◌, ℕ}

unfoldable pub common : List ℕ
common =
    161 ∷ 173 ∷ 174 ∷ 768 ∷ 931 ∷ 1155 ∷ 1162 ∷ 1328 ∷ 8208 ∷ 8232 ∷ 8592 ∷ 9258 ∷ 9312 ∷ 11124 ∷ 12289 ∷ 12330 ∷
    12353 ∷ 12439 ∷ 12443 ∷ 12544 ∷ 12832 ∷ 42125 ∷ 44032 ∷ 55204 ∷ 65281 ∷ 65438 ∷ 127744 ∷ 128729 ∷ []
