-- `sort_by` sorts and does nothing else: its result is a permutation that ascends, where the keys are distinct the only one;
-- elements of one key stay in their order; and it keeps step with a map that keeps the keys.
-- Assumes nothing.
use mathlib.Core.Path.{◌≡◌, refl, sym, ap, subst, ◌∙◌}
use mathlib.Core.Bool.{Bool, true, false, cond, false≢true}
use mathlib.Core.List.Permᴰ
use mathlib.Core.List.{List, [], ◌∷◌, ◌++◌, map, Permᴰ}
use Prim.Native.Nat.{ℕ, suc}
use lib.ListN.{length}
use Rattle.buffers.specs.Same.{same}
use Rattle.buffers.proofs.Equal.{same_true}
use Rattle.buffers.proofs.Choice.{by_cond}
use Rattle.sorting.specs.Order.{precedes, Each, insert_by, sort_by, Ascends, Distinct, of_key}
use Rattle.sorting.proofs.EachLaws.{each_map, each_permuted}
use Rattle.sorting.proofs.OrderLaws.{precedes_irreflexive, precedes_transitive, precedes_asymmetric, precedes_total, follows}

module _ {A : Type 0} (key : A → List ℕ) where
  pub insert_behind : (a b : A) (xs : List A) → precedes (key b) (key a) ≡ true → insert_by key a (b ∷ xs) ≡ b ∷ insert_by key a xs
  unfolding insert_by
  insert_behind a b xs e = rw e

  pub insert_before : (a b : A) (xs : List A) → precedes (key b) (key a) ≡ false → insert_by key a (b ∷ xs) ≡ a ∷ b ∷ xs
  unfolding insert_by
  insert_before a b xs e = rw e

  -- ---- a permutation

  insert_permutes : (a : A) (xs : List A) → Permᴰ (insert_by key a xs) (a ∷ xs)
  unfolding insert_by
  insert_permutes a [] = Permᴰ.refl (a ∷ [])
  insert_permutes a (b ∷ xs) =
      let ih = insert_permutes a xs in
      by_cond (λ (l : List A). Permᴰ l (a ∷ b ∷ xs)) (precedes (key b) (key a)) (b ∷ insert_by key a xs) (a ∷ b ∷ xs)
      (λ _. Permᴰ.trans (Permᴰ.cons refl ih) (Permᴰ.swap refl refl))
      (λ _. Permᴰ.refl (a ∷ b ∷ xs))

  -- the result has the elements of the list, each as often
  pub sort_permutes : (xs : List A) → Permᴰ (sort_by key xs) xs
  unfolding sort_by
  sort_permutes [] = Permᴰ.nil
  sort_permutes (a ∷ xs) = Permᴰ.trans (insert_permutes a (sort_by key xs)) (Permᴰ.cons refl (sort_permutes xs))

  insert_length : (a : A) (xs : List A) → length (insert_by key a xs) ≡ suc (length xs)
  unfolding insert_by
  insert_length a [] = refl
  insert_length a (b ∷ xs) =
      let ih = insert_length a xs in
      by_cond (λ (l : List A). length l ≡ suc (suc (length xs))) (precedes (key b) (key a)) (b ∷ insert_by key a xs) (a ∷ b ∷ xs) (λ _. ap suc ih) (λ _. refl)

  pub sort_length : (xs : List A) → length (sort_by key xs) ≡ length xs
  unfolding sort_by
  sort_length [] = refl
  sort_length (a ∷ xs) = insert_length a (sort_by key xs) ∙ ap suc (sort_length xs)

  -- ---- that ascends

  pub insert_each : (P : A → Type 0) (a : A) (xs : List A) → P a → Each P xs → Each P (insert_by key a xs)
  unfolding insert_by Each
  insert_each P a [] p h = (p, tt)
  insert_each P a (b ∷ xs) p h =
      let ih = insert_each P a xs p h.1 in
      by_cond (λ (l : List A). Each P l) (precedes (key b) (key a)) (b ∷ insert_by key a xs) (a ∷ b ∷ xs) (λ _. (h.0, ih)) (λ _. (p, h))

  insert_ascends : (a : A) (xs : List A) → Ascends key xs → Ascends key (insert_by key a xs)
  unfolding insert_by Ascends Each
  insert_ascends a [] h = (tt, tt)
  insert_ascends a (b ∷ xs) h =
      let ih = insert_ascends a xs h.1 in
      by_cond (λ (l : List A). Ascends key l) (precedes (key b) (key a)) (b ∷ insert_by key a xs) (a ∷ b ∷ xs)
      (λ e. (insert_each (λ (y : A). precedes (key y) (key b) ≡ false) a xs (precedes_asymmetric (key b) (key a) e) h.0, ih))
      (λ e. ((e, each_map (λ (y : A). precedes (key y) (key b) ≡ false) (λ (y : A). precedes (key y) (key a) ≡ false) (λ y p. follows (key y) (key b) (key a) p e) xs h.0), h))

  -- no later key of the result precedes an earlier one
  pub sort_ascends : (xs : List A) → Ascends key (sort_by key xs)
  unfolding sort_by Ascends
  sort_ascends [] = tt
  sort_ascends (a ∷ xs) = insert_ascends a (sort_by key xs) (sort_ascends xs)

  -- ---- and the only one, where no key stands twice

  -- what ascends is sorted
  pub sort_fixed : (xs : List A) → Ascends key xs → sort_by key xs ≡ xs
  unfolding sort_by insert_by Ascends Each
  sort_fixed [] h = refl
  sort_fixed (x ∷ []) h = refl
  sort_fixed (x ∷ y ∷ xs) h = ap (insert_by key x) (sort_fixed (y ∷ xs) h.1) ∙ insert_before x y xs h.0.0

  insert_swap : (a b : A) (xs : List A) → precedes (key a) (key b) ≡ true → insert_by key a (insert_by key b xs) ≡ insert_by key b (insert_by key a xs)
  unfolding insert_by
  insert_swap a b [] p = insert_before a b [] (precedes_asymmetric (key a) (key b) p) ∙ sym (insert_behind b a [] p)
  insert_swap a b (c ∷ xs) p = go (insert_swap a b xs p) (precedes (key c) (key a)) refl (precedes (key c) (key b)) refl
    where
      q : precedes (key b) (key a) ≡ false
      q = precedes_asymmetric (key a) (key b) p

      go : insert_by key a (insert_by key b xs) ≡ insert_by key b (insert_by key a xs) → (s : Bool) → precedes (key c) (key a) ≡ s → (t : Bool) → precedes (key c) (key b) ≡ t
          → insert_by key a (insert_by key b (c ∷ xs)) ≡ insert_by key b (insert_by key a (c ∷ xs))
      go ih true ca t cb =
          let cb' = precedes_transitive (key c) (key a) (key b) ca p in
          rw (cb', ca, cb') (ap (λ (l : List A). c ∷ l) ih)
      go ih false ca true cb = rw (cb, ca, p, cb)
      go ih false ca false cb = rw (cb, q, ca, p, cb)

  insert_commutes : (a b : A) (xs : List A) → (key a ≡ key b → ⊥) → insert_by key a (insert_by key b xs) ≡ insert_by key b (insert_by key a xs)
  insert_commutes a b xs h = go (precedes (key a) (key b)) refl (precedes (key b) (key a)) refl
    where
      go : (s : Bool) → precedes (key a) (key b) ≡ s → (t : Bool) → precedes (key b) (key a) ≡ t → insert_by key a (insert_by key b xs) ≡ insert_by key b (insert_by key a xs)
      go true e t f = insert_swap a b xs e
      go false e true f = sym (insert_swap b a xs f)
      go false e false f = absurd (h (precedes_total (key a) (key b) e f))

  distinct_permuted : {xs ys : List A} → Permᴰ xs ys → Distinct key xs → Distinct key ys
  unfolding Distinct Each
  distinct_permuted Permᴰ.nil h = tt
  distinct_permuted (Permᴰ.cons {l₁ = l} e d) h =
      (each_permuted _ d (subst (λ (z : A). Each (λ (y : A). key z ≡ key y → ⊥) l) e h.0), distinct_permuted d h.1)
  distinct_permuted (Permᴰ.swap {l = l} e f) h = (
    (λ q. h.0.0 (ap key e ∙ sym q ∙ sym (ap key f)), subst (λ (z : A). Each (λ (y : A). key z ≡ key y → ⊥) l) f h.1.0),
    (subst (λ (z : A). Each (λ (y : A). key z ≡ key y → ⊥) l) e h.0.1, h.1.1),
  )
  distinct_permuted (Permᴰ.trans d e) h = distinct_permuted e (distinct_permuted d h)

  sort_permuted : {xs ys : List A} → Permᴰ xs ys → Distinct key xs → sort_by key xs ≡ sort_by key ys
  unfolding sort_by Distinct Each
  sort_permuted Permᴰ.nil h = refl
  sort_permuted (Permᴰ.cons {b = b} {l₁ = l} e d) h = ap (λ (z : A). insert_by key z (sort_by key l)) e ∙ ap (insert_by key b) (sort_permuted d h.1)
  sort_permuted (Permᴰ.swap {a = a} {b = b} {l = l} e f) h = cc (insert_commutes a b (sort_by key l) h.0.0)
  sort_permuted (Permᴰ.trans d e) h = sort_permuted d h ∙ sort_permuted e (distinct_permuted d h)

  -- a permutation that ascends is the result, where the keys are distinct
  pub sort_unique : (xs ys : List A) → Distinct key xs → Permᴰ xs ys → Ascends key ys → ys ≡ sort_by key xs
  sort_unique xs ys d p h = sym (sort_permuted p d ∙ sort_fixed ys h)

  -- ---- elements of one key stay in their order

  insert_stable : (k : List ℕ) (a : A) (xs : List A) → of_key key k (insert_by key a xs) ≡ of_key key k (a ∷ xs)
  unfolding insert_by of_key
  insert_stable k a [] = refl
  insert_stable k a (b ∷ xs) =
      let ih = insert_stable k a xs in
      by_cond (λ (l : List A). of_key key k l ≡ of_key key k (a ∷ b ∷ xs)) (precedes (key b) (key a)) (b ∷ insert_by key a xs) (a ∷ b ∷ xs)
      (λ e. ap (λ (l : List A). cond (same (key b) k) (b ∷ l) l) ih ∙ go e (same (key a) k) refl (same (key b) k) refl)
      (λ _. refl)
    where
      go : precedes (key b) (key a) ≡ true → (s : Bool) → same (key a) k ≡ s → (t : Bool) → same (key b) k ≡ t
          → cond t (b ∷ cond s (a ∷ of_key key k xs) (of_key key k xs)) (cond s (a ∷ of_key key k xs) (of_key key k xs))
          ≡ cond s (a ∷ cond t (b ∷ of_key key k xs) (of_key key k xs)) (cond t (b ∷ of_key key k xs) (of_key key k xs))
      go e true p true q =
          let r : key b ≡ key a = same_true (key b) k q ∙ sym (same_true (key a) k p) in
          absurd (false≢true (sym (precedes_irreflexive (key a)) ∙ (rw r at e)))
      go e true p false q = refl
      go e false p t q = refl

  pub of_key_append : (k : List ℕ) (xs ys : List A) → of_key key k (xs ++ ys) ≡ of_key key k xs ++ of_key key k ys
  unfolding of_key
  of_key_append k [] ys = refl
  of_key_append k (x ∷ xs) ys = go (same (key x) k) (of_key_append k xs ys)
    where
      go : (t : Bool) → of_key key k (xs ++ ys) ≡ of_key key k xs ++ of_key key k ys
          → cond t (x ∷ of_key key k (xs ++ ys)) (of_key key k (xs ++ ys)) ≡ cond t (x ∷ of_key key k xs) (of_key key k xs) ++ of_key key k ys
      go true e = ap (λ (l : List A). x ∷ l) e
      go false e = e

  pub sort_stable : (k : List ℕ) (xs : List A) → of_key key k (sort_by key xs) ≡ of_key key k xs
  unfolding sort_by of_key
  sort_stable k [] = refl
  sort_stable k (a ∷ xs) = insert_stable k a (sort_by key xs) ∙ ap (λ (l : List A). cond (same (key a) k) (a ∷ l) l) (sort_stable k xs)

-- ---- sorting keeps step with a map that keeps the keys

module _ {A B : Type 0} (key : B → List ℕ) (f : A → B) where
  insert_map : (a : A) (xs : List A) → map f (insert_by (λ (x : A). key (f x)) a xs) ≡ insert_by key (f a) (map f xs)
  unfolding insert_by
  insert_map a [] = refl
  insert_map a (b ∷ xs) = go (insert_map a xs) (precedes (key (f b)) (key (f a)))
    where
      go : map f (insert_by (λ (x : A). key (f x)) a xs) ≡ insert_by key (f a) (map f xs) → (t : Bool)
          → map f (cond t (b ∷ insert_by (λ (x : A). key (f x)) a xs) (a ∷ b ∷ xs)) ≡ cond t (f b ∷ insert_by key (f a) (map f xs)) (f a ∷ f b ∷ map f xs)
      go ih true = ap (λ (l : List B). f b ∷ l) ih
      go ih false = refl

  pub sort_map : (xs : List A) → map f (sort_by (λ (x : A). key (f x)) xs) ≡ sort_by key (map f xs)
  unfolding sort_by
  sort_map [] = refl
  sort_map (a ∷ xs) = insert_map a (sort_by (λ (x : A). key (f x)) xs) ∙ ap (insert_by key (f a)) (sort_map xs)
