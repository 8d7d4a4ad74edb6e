-- Equality of two texts, as a test; and membership in a list of texts.
-- Assumes nothing.
use Rattle.std.specs.Prelude.{Bool, true, false, ◌&&◌, ◌||◌, List, [], ◌∷◌, ℕ, eqb}

unfoldable pub same : List ℕ → List ℕ → Bool
same [] [] = true
same [] (b ∷ y) = false
same (a ∷ x) [] = false
same (a ∷ x) (b ∷ y) = eqb a b && same x y

-- x is one of the texts
unfoldable pub among : List ℕ → List (List ℕ) → Bool
among x [] = false
among x (y ∷ ys) = same y x || among x ys
