-- Of inner functions alone: merging two runs, the way in which `sort_by` is computed.
-- Assumes nothing.
use Rattle.std.specs.Prelude.{cond, ℕ, ◌+◌, take, drop}
use mathlib.Core.List.{List, [], ◌∷◌, ◌++◌}
use Rattle.sorting.specs.Order.{precedes}

module _ {A : Type 0} (key : A → List ℕ) where
  -- x behind the keys that come before its own, and there the rest is merged by f
  unfoldable pub into : A → (List A → List A) → List A → List A
  into x f [] = x ∷ f []
  into x f (y ∷ ys) = cond (precedes (key y) (key x)) (y ∷ into x f ys) (x ∷ f (y ∷ ys))

  unfoldable pub merge_by : List A → List A → List A
  unfolding into
  merge_by [] ys = ys
  merge_by (x ∷ xs) ys = into x (λ zs. merge_by xs zs) ys

-- the run xs, whose h places from `from` on are free, is merged with the m elements behind them
unfoldable pub merged_part : (ℕ → List ℕ) → List ℕ → ℕ → ℕ → ℕ → List ℕ → List ℕ
merged_part key run from h m xs = take from xs ++ (merge_by key run (take m (drop (from + h) xs)) ++ drop (from + h + m) xs)
