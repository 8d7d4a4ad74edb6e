-- What holds of each element of a list.
-- Assumes nothing.
use mathlib.Core.Path.{subst}
use mathlib.Core.List.{List, [], ◌∷◌, ◌++◌, Permᴰ}
use Prim.Native.Nat.{ℕ, zero, suc}
use lib.ListN.{get_or, take, drop}
use Rattle.sorting.specs.Order.{Each}

module _ {A : Type 0} where
  pub each_map : (P Q : A → Type 0) → ((x : A) → P x → Q x) → (xs : List A) → Each P xs → Each Q xs
  unfolding Each
  each_map P Q f [] h = tt
  each_map P Q f (x ∷ xs) h = (f x h.0, each_map P Q f xs h.1)

  pub each_both : (P Q R : A → Type 0) → ((x : A) → P x → Q x → R x) → (xs : List A) → Each P xs → Each Q xs → Each R xs
  unfolding Each
  each_both P Q R f [] g h = tt
  each_both P Q R f (x ∷ xs) g h = (f x g.0 h.0, each_both P Q R f xs g.1 h.1)

  pub each_by_place : (P : A → Type 0) (d : A) (xs : List A) → ((i : ℕ) → P (get_or xs i d)) → Each P xs
  unfolding Each
  each_by_place P d [] h = tt
  each_by_place P d (x ∷ xs) h = (h 0, each_by_place P d xs (λ i. h (suc i)))

  module _ (P : A → Type 0) where
    pub each_append : (xs ys : List A) → Each P xs → Each P ys → Each P (xs ++ ys)
    unfolding Each
    each_append [] ys g h = h
    each_append (x ∷ xs) ys g h = (g.0, each_append xs ys g.1 h)

    pub each_take : (n : ℕ) (xs : List A) → Each P xs → Each P (take n xs)
    unfolding Each
    each_take zero xs h = tt
    each_take (suc n) [] h = tt
    each_take (suc n) (x ∷ xs) h = (h.0, each_take n xs h.1)

    pub each_drop : (n : ℕ) (xs : List A) → Each P xs → Each P (drop n xs)
    unfolding Each
    each_drop zero xs h = h
    each_drop (suc n) [] h = tt
    each_drop (suc n) (x ∷ xs) h = each_drop n xs h.1

    pub each_permuted : {xs ys : List A} → Permᴰ xs ys → Each P xs → Each P ys
    unfolding Each
    each_permuted Permᴰ.nil h = tt
    each_permuted (Permᴰ.cons e d) h = (subst P e h.0, each_permuted d h.1)
    each_permuted (Permᴰ.swap e f) h = (subst P f h.1.0, (subst P e h.0, h.1.1))
    each_permuted (Permᴰ.trans d e) h = each_permuted e (each_permuted d h)
