-- Of inner functions alone: sorting a part of a table.
-- Assumes nothing.
use Rattle.std.specs.Prelude.{List, ◌++◌, ℕ, ◌+◌, take, drop}
use Rattle.sorting.specs.Order.{sort_by}

-- the n elements from `from` on are sorted, the others stay
unfoldable pub sorted_part : (ℕ → List ℕ) → ℕ → ℕ → List ℕ → List ℕ
sorted_part key from n xs = take from xs ++ (sort_by key (take n (drop from xs)) ++ drop (from + n) xs)
