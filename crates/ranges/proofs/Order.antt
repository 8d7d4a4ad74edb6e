-- A table's order is one test that antt computes over the whole table.
-- Assumes nothing.
use mathlib.Core.Bool.{Bool, true, false, ◌&&◌}
use mathlib.Core.List.{List, [], ◌∷◌}
use Prim.Native.Nat.{ℕ, zero, suc, ◌<◌}
use native.Mathlib.Nat.{le_of_suc-le-suc, not-suc-le-zero, lt_trans}
use lib.Dec.{T, ltb, ltb→lt}
use lib.ListN.{length, get_or}
use Rattle.ranges.specs.Ranges.{Ascending}

-- each entry is above the one before it, the first above p
abbrev pub rises : ℕ → List ℕ → Bool
rises p [] = true
rises p (x ∷ xs) = ltb p x && rises x xs

-- the test of a whole table
abbrev pub ascends : List ℕ → Bool
ascends [] = true
ascends (x ∷ xs) = rises x xs

both_left : (a b : Bool) → T (a && b) → T a
both_left true b t = tt
both_left false b t = t

both_right : (a b : Bool) → T (a && b) → T b
both_right true b t = t
both_right false b t = absurd t

above : (p : ℕ) (xs : List ℕ) → T (rises p xs) → (q : ℕ) → q < length xs → p < get_or xs q 0
above p [] t q h = absurd (not-suc-le-zero h)
above p (x ∷ xs) t zero h = ltb→lt p x (both_left (ltb p x) (rises x xs) t)
above p (x ∷ xs) t (suc q) h =
    lt_trans (ltb→lt p x (both_left (ltb p x) (rises x xs) t))
    (above x xs (both_right (ltb p x) (rises x xs) t) q (le_of_suc-le-suc h))

-- the test is the order
pub ascends_ascending : (xs : List ℕ) → T (ascends xs) → Ascending xs
ascends_ascending [] t i j l h = absurd (not-suc-le-zero h)
ascends_ascending (x ∷ xs) t i zero l h = absurd (not-suc-le-zero l)
ascends_ascending (x ∷ xs) t zero (suc j) l h = above x xs t j (le_of_suc-le-suc h)
ascends_ascending (x ∷ xs) t (suc i) (suc j) l h = ascends_ascending xs (later x xs t) i j (le_of_suc-le-suc l) (le_of_suc-le-suc h)
  where
    later : (x : ℕ) (xs : List ℕ) → T (rises x xs) → T (ascends xs)
    later x [] t = tt
    later x (y ∷ ys) t = both_right (ltb x y) (rises y ys) t
