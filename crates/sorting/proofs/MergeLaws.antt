-- Merging two sorted runs sorts them as one list, and each run keeps its order.
-- Assumes nothing.
use mathlib.Core.Path.{◌≡◌, refl, sym, ap, ◌∙◌}
use mathlib.Core.Bool.{Bool, true, false}
use mathlib.Core.List.Sublistᴰ
use mathlib.Core.List.{List, [], ◌∷◌, ◌++◌, Sublistᴰ}
use Prim.Native.Nat.{ℕ, zero, suc}
use native.Mathlib.Omega.{arith}
use lib.ListN.{length, get_or}
use Rattle.sorting.specs.Order.{precedes, Each, insert_by, sort_by, Ascends}
use Rattle.sorting.specs.Merge.{into, merge_by}
use Rattle.sorting.proofs.OrderLaws.{precedes_transitive, precedes_on, follows}
use Rattle.sorting.proofs.Sorted.{insert_behind, insert_before}

module _ {A : Type 0} (key : A → List ℕ) where
  pub merge_end : (xs : List A) → merge_by key xs [] ≡ xs
  unfolding merge_by into
  merge_end [] = refl
  merge_end (x ∷ xs) = ap (λ (l : List A). x ∷ l) (merge_end xs)

  pub merge_right : (x y : A) (xs ys : List A) → precedes (key y) (key x) ≡ true → merge_by key (x ∷ xs) (y ∷ ys) ≡ y ∷ merge_by key (x ∷ xs) ys
  unfolding merge_by into
  merge_right x y xs ys e = rw e

  pub merge_left : (x y : A) (xs ys : List A) → precedes (key y) (key x) ≡ false → merge_by key (x ∷ xs) (y ∷ ys) ≡ x ∷ merge_by key xs (y ∷ ys)
  unfolding merge_by into
  merge_left x y xs ys e = rw e

  -- ---- to merge is to insert the elements of the first run

  merge_one : (a : A) (ys : List A) → merge_by key (a ∷ []) ys ≡ insert_by key a ys
  unfolding merge_by into insert_by
  merge_one a [] = refl
  merge_one a (y ∷ ys) = go (merge_one a ys) (precedes (key y) (key a)) refl
    where
      go : merge_by key (a ∷ []) ys ≡ insert_by key a ys → (t : Bool) → precedes (key y) (key a) ≡ t → merge_by key (a ∷ []) (y ∷ ys) ≡ insert_by key a (y ∷ ys)
      go ih true e = merge_right a y [] ys e ∙ ap (λ (l : List A). y ∷ l) ih ∙ sym (insert_behind key a y ys e)
      go ih false e = merge_left a y [] ys e ∙ sym (insert_before key a y ys e)

  module _ (a b : A) (xs : List A) (ih : (ys : List A) → merge_by key (insert_by key a xs) ys ≡ insert_by key a (merge_by key xs ys)) where
    -- one more of the second run
    insert_turn : (y : A) (ys : List A) → merge_by key (insert_by key a (b ∷ xs)) ys ≡ insert_by key a (merge_by key (b ∷ xs) ys)
        → merge_by key (insert_by key a (b ∷ xs)) (y ∷ ys) ≡ insert_by key a (merge_by key (b ∷ xs) (y ∷ ys))
    insert_turn y ys r = go (precedes (key b) (key a)) refl (precedes (key y) (key b)) refl (precedes (key y) (key a)) refl
      where
        go : (s : Bool) → precedes (key b) (key a) ≡ s → (t : Bool) → precedes (key y) (key b) ≡ t → (u : Bool) → precedes (key y) (key a) ≡ u
            → merge_by key (insert_by key a (b ∷ xs)) (y ∷ ys) ≡ insert_by key a (merge_by key (b ∷ xs) (y ∷ ys))
        go true ba true yb u ya =
            let ya' = precedes_transitive (key y) (key b) (key a) yb ba in
            rw (insert_behind key a b xs ba, merge_right b y (insert_by key a xs) ys yb, ← insert_behind key a b xs ba, r, merge_right b y xs ys yb, insert_behind key a y (merge_by key (b ∷ xs) ys) ya')
        go true ba false yb u ya =
            rw (insert_behind key a b xs ba, merge_left b y (insert_by key a xs) ys yb, ih (y ∷ ys), merge_left b y xs ys yb, insert_behind key a b (merge_by key xs (y ∷ ys)) ba)
        go false ba t yb true ya =
            let yb' = precedes_on (key y) (key a) (key b) ya ba in
            rw (insert_before key a b xs ba, merge_right a y (b ∷ xs) ys ya, ← insert_before key a b xs ba, r, merge_right b y xs ys yb', insert_behind key a y (merge_by key (b ∷ xs) ys) ya)
        go false ba true yb false ya =
            rw (insert_before key a b xs ba, merge_left a y (b ∷ xs) ys ya, merge_right b y xs ys yb, insert_before key a y (merge_by key (b ∷ xs) ys) ya)
        go false ba false yb false ya =
            rw (insert_before key a b xs ba, merge_left a y (b ∷ xs) ys ya, merge_left b y xs ys yb, insert_before key a b (merge_by key xs (y ∷ ys)) ba)

    insert_more : (ys : List A) → merge_by key (insert_by key a (b ∷ xs)) ys ≡ insert_by key a (merge_by key (b ∷ xs) ys)
    insert_more [] = merge_end (insert_by key a (b ∷ xs)) ∙ sym (ap (insert_by key a) (merge_end (b ∷ xs)))
    insert_more (y ∷ ys) = insert_turn y ys (insert_more ys)

  merge_insert : (a : A) (xs ys : List A) → merge_by key (insert_by key a xs) ys ≡ insert_by key a (merge_by key xs ys)
  unfolding insert_by merge_by
  merge_insert a [] ys = merge_one a ys
  merge_insert a (b ∷ xs) ys = insert_more a b xs (merge_insert a xs) ys

  pub merge_sorted : (xs ys : List A) → merge_by key (sort_by key xs) (sort_by key ys) ≡ sort_by key (xs ++ ys)
  unfolding merge_by sort_by
  merge_sorted [] ys = refl
  merge_sorted (x ∷ xs) ys = merge_insert x (sort_by key xs) (sort_by key ys) ∙ ap (insert_by key x) (merge_sorted xs ys)

  -- ---- two runs of which the first ends before the second starts

  merge_apart : (xs : List A) (y : A) (ys : List A) → Each (λ (x : A). precedes (key y) (key x) ≡ false) xs → merge_by key xs (y ∷ ys) ≡ xs ++ y ∷ ys
  unfolding merge_by Each
  merge_apart [] y ys h = refl
  merge_apart (x ∷ xs) y ys h = merge_left x y xs ys h.0 ∙ ap (λ (l : List A). x ∷ l) (merge_apart xs y ys h.1)

  -- what does not come before the last comes before none
  before_none : (y d : A) (xs : List A) (n : ℕ) → length xs ≡ suc n → Ascends key xs → precedes (key y) (key (get_or xs n d)) ≡ false
      → Each (λ (x : A). precedes (key y) (key x) ≡ false) xs
  unfolding Ascends Each
  before_none y d [] n l h e = tt
  before_none y d (x ∷ []) zero l h e = (e, tt)
  before_none y d (x ∷ []) (suc n) l h e = absurd (omega arith)
  before_none y d (x ∷ z ∷ xs) zero l h e = absurd (omega arith)
  before_none y d (x ∷ z ∷ xs) (suc n) l h e =
      let t = before_none y d (z ∷ xs) n (omega arith) h.1 e in
      (follows (key y) (key z) (key x) t.0 h.0.0, t)

  pub merge_in_order : (xs ys : List A) (d : A) (n m : ℕ) → length xs ≡ suc n → length ys ≡ suc m → Ascends key xs
      → precedes (key (get_or ys 0 d)) (key (get_or xs n d)) ≡ false → merge_by key xs ys ≡ xs ++ ys
  merge_in_order xs [] d n m l k h e = absurd (omega arith)
  merge_in_order xs (y ∷ ys) d n m l k h e = merge_apart xs y ys (before_none y d xs n l h e)

  -- ---- each run keeps its order

  abbrev pub MergeKept : List A → List A → Type 0
  MergeKept xs ys = Sublistᴰ xs (merge_by key xs ys) × Sublistᴰ ys (merge_by key xs ys)

  kept_more : (x : A) (xs : List A) → ((ys : List A) → MergeKept xs ys) → (ys : List A) → MergeKept (x ∷ xs) ys
  kept_more x xs ih [] = rw (merge_end (x ∷ xs)) (Sublistᴰ.refl (x ∷ xs), Sublistᴰ.nil-sublist (x ∷ xs))
  kept_more x xs ih (y ∷ ys) = go (precedes (key y) (key x)) refl (kept_more x xs ih ys)
    where
      go : (t : Bool) → precedes (key y) (key x) ≡ t → MergeKept (x ∷ xs) ys → MergeKept (x ∷ xs) (y ∷ ys)
      go true e k = rw (merge_right x y xs ys e) (Sublistᴰ.cons k.0, Sublistᴰ.cons-cons refl k.1)
      go false e k = rw (merge_left x y xs ys e) (Sublistᴰ.cons-cons refl (ih (y ∷ ys)).0, Sublistᴰ.cons (ih (y ∷ ys)).1)

  pub merge_keeps : (xs ys : List A) → MergeKept xs ys
  unfolding merge_by
  merge_keeps [] ys = (Sublistᴰ.nil-sublist ys, Sublistᴰ.refl ys)
  merge_keeps (x ∷ xs) ys = kept_more x xs (merge_keeps xs) ys
