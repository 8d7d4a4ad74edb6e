-- Sorting by a key's bytes: document 01, "The night listing", prints fields and entries "by ascending key bytes".
-- Assumes nothing.
use Rattle.std.specs.Prelude.{◌≡◌, Bool, true, false, cond, ◌&&◌, ◌||◌, List, [], ◌∷◌, ℕ, ltb, eqb}
use Rattle.buffers.specs.Same.{same}

-- strictly before: bytes compare as numbers, and a prefix comes first
unfoldable pub precedes : List ℕ → List ℕ → Bool
precedes [] [] = false
precedes [] (b ∷ y) = true
precedes (a ∷ x) [] = false
precedes (a ∷ x) (b ∷ y) = ltb a b || (eqb a b && precedes x y)

-- a property of each element
unfoldable pub Each : {A : Type 0} → (A → Type 0) → List A → Type 0
Each P [] = Unit
Each P (x ∷ xs) = P x × Each P xs

module _ {A : Type 0} (key : A → List ℕ) where
  -- behind the keys that come before its own, in front of the others, equal ones too
  unfoldable pub insert_by : A → List A → List A
  insert_by a [] = a ∷ []
  insert_by a (b ∷ xs) = cond (precedes (key b) (key a)) (b ∷ insert_by a xs) (a ∷ b ∷ xs)

  unfoldable pub sort_by : List A → List A
  sort_by [] = []
  sort_by (a ∷ xs) = insert_by a (sort_by xs)

  -- no later key precedes an earlier one
  unfoldable pub Ascends : List A → Type 0
  Ascends [] = Unit
  Ascends (x ∷ xs) = Each (λ (y : A). precedes (key y) (key x) ≡ false) xs × Ascends xs

  -- no key stands twice
  unfoldable pub Distinct : List A → Type 0
  Distinct [] = Unit
  Distinct (x ∷ xs) = Each (λ (y : A). key x ≡ key y → ⊥) xs × Distinct xs

  -- the elements of one key, as they stand
  unfoldable pub of_key : List ℕ → List A → List A
  of_key k [] = []
  of_key k (x ∷ xs) = cond (same (key x) k) (x ∷ of_key k xs) (of_key k xs)
