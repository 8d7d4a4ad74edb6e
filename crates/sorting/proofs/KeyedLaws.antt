-- Lists that ascend, by the elements of each key: these tell the list.
-- Assumes nothing.
use mathlib.Core.Path.{◌≡◌, refl, sym, ◌∙◌}
use mathlib.Core.Bool.{Bool, true, false, cond, false≢true}
use mathlib.Core.List.{List, [], ◌∷◌, map}
use Prim.Native.Nat.{ℕ}
use Rattle.std.proofs.lemmas.Bool.{false_from_ne_true}
use Rattle.buffers.specs.Same.{same}
use Rattle.buffers.proofs.Equal.{same_refl, same_true}
use Rattle.buffers.proofs.Choice.{by_cond}
use Rattle.sorting.specs.Order.{precedes, Each, Ascends, of_key}
use Rattle.sorting.proofs.EachLaws.{each_map}
use Rattle.sorting.proofs.OrderLaws.{precedes_irreflexive, precedes_total}

module _ {A : Type 0} (key : A → List ℕ) where
  pub none_of_key : (k : List ℕ) (xs : List A) → Each (λ (j : List ℕ). k ≡ j → ⊥) (map key xs) → of_key key k xs ≡ []
  unfolding of_key Each
  none_of_key k [] h = refl
  none_of_key k (x ∷ xs) h =
      let ih = none_of_key k xs h.1 in
      by_cond (λ (l : List A). l ≡ []) (same (key x) k) (x ∷ of_key key k xs) (of_key key k xs) (λ e. absurd (h.0 (sym (same_true (key x) k e)))) (λ _. ih)

  own_key : (k : List ℕ) (x : A) (xs : List A) → key x ≡ k → of_key key k (x ∷ xs) ≡ x ∷ of_key key k xs
  unfolding of_key
  own_key k x xs e = rw (e, same_refl k)

  each_key : (P : List ℕ → Type 0) (xs : List A) → Each (λ (x : A). P (key x)) xs → Each P (map key xs)
  unfolding Each
  each_key P [] h = tt
  each_key P (x ∷ xs) h = (h.0, each_key P xs h.1)

  -- no key of a list that ascends comes before its first one
  least : (k : List ℕ) (x y : A) (xs ys : List A) → Ascends key (y ∷ ys) → of_key key k (y ∷ ys) ≡ x ∷ xs → precedes k (key y) ≡ false
  unfolding Ascends Each
  least k x y xs ys a e = false_from_ne_true (precedes k (key y)) (λ p.
      let apart : (z : A) → precedes (key z) (key y) ≡ false → k ≡ key z → ⊥ = λ z q s. false≢true (sym q ∙ (rw s at p)) in
      let none = none_of_key k (y ∷ ys) (each_key (λ (j : List ℕ). k ≡ j → ⊥) (y ∷ ys) (each_map _ _ apart (y ∷ ys) (precedes_irreflexive (key y), a.0))) in
      cc)

  tails_same : (t : Bool) (x y : A) (xs ys : List A) → cond t (x ∷ xs) xs ≡ cond t (y ∷ ys) ys → xs ≡ ys
  tails_same true x y xs ys e = cc
  tails_same false x y xs ys e = e

  -- lists that ascend are the same where they have the same elements of each key
  pub ascending_same : (xs ys : List A) → Ascends key xs → Ascends key ys → ((k : List ℕ) → of_key key k xs ≡ of_key key k ys) → xs ≡ ys
  unfolding Ascends of_key
  ascending_same [] [] a b h = refl
  ascending_same [] (y ∷ ys) a b h = let e = h (key y) ∙ own_key (key y) y ys refl in absurd cc
  ascending_same (x ∷ xs) [] a b h = let e = sym (h (key x)) ∙ own_key (key x) x xs refl in absurd cc
  ascending_same (x ∷ xs) (y ∷ ys) a b h =
      let e = sym (h (key x)) ∙ own_key (key x) x xs refl in
      let k : key x ≡ key y = precedes_total (key x) (key y) (least (key x) x y _ ys b e) (least (key y) y x _ xs a (h (key y) ∙ own_key (key y) y ys refl)) in
      let first = sym e ∙ own_key (key x) y ys (sym k) in
      let rest = ascending_same xs ys a.1 b.1 (λ j. tails_same (same (key x) j) x y (of_key key j xs) (of_key key j ys) (h j ∙ rw k)) in
      cc
