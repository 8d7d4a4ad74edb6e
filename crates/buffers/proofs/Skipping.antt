-- A walk that passes k bytes first is the walk of what lies behind them.
-- Assumes nothing.
use mathlib.Core.Path.{◌≡◌, refl, ◌∙◌}
use mathlib.Core.List.{List, [], ◌∷◌}
use Prim.Native.Nat.{ℕ, zero, suc}
use lib.ListN.{drop}

pub skipped : {A : Type 0} (f : ℕ → List ℕ → A) → ((k : ℕ) → f k [] ≡ f 0 []) → ((k a : ℕ) (r : List ℕ) → f (suc k) (a ∷ r) ≡ f k r)
    → (k : ℕ) (s : List ℕ) → f k s ≡ f 0 (drop k s)
skipped f end pass zero s = refl
skipped f end pass (suc k) [] = end (suc k)
skipped f end pass (suc k) (a ∷ r) = pass k a r ∙ skipped f end pass k r
