-- `precedes` is a strict total order on byte strings, and is computed byte by byte.
-- Assumes nothing.
use mathlib.Core.Path.{◌≡◌, refl, sym, ◌∙◌}
use mathlib.Core.Logic.{◌⊎◌, inl, inr}
use mathlib.Core.Bool.{Bool, true, false, false≢true, or-false}
use mathlib.Core.List.{List, [], ◌∷◌}
use Prim.Native.Nat.{ℕ, ◌+◌, ◌≤◌, ◌<◌, min}
use native.Mathlib.Numerals.{add-one}
use native.Mathlib.Omega.{arith}
use borrow.Author.Tests.{ltb-true, ltb-false, lt-ltb, le-ltb, eq-eqb, ne_eqb}
use lib.Dec.{ltb}
use lib.ListN.{length, drop, get_or, drop_of_length-le}
use lib.Seq.{drop-cons}
use Rattle.sorting.specs.Order.{precedes}

-- ---- by the first bytes

before_head : (a b : ℕ) (x y : List ℕ) → a < b → precedes (a ∷ x) (b ∷ y) ≡ true
unfolding precedes
before_head a b x y h = rw (lt-ltb a b h)

same_head : (a b : ℕ) (x y : List ℕ) → a ≡ b → precedes (a ∷ x) (b ∷ y) ≡ precedes x y
unfolding precedes
same_head a b x y h = rw (le-ltb a b (omega arith), eq-eqb a b h)

after_head : (a b : ℕ) (x y : List ℕ) → b < a → precedes (a ∷ x) (b ∷ y) ≡ false
unfolding precedes
after_head a b x y h = rw (le-ltb a b (omega arith), ne_eqb a b (λ (e : a ≡ b). omega arith))

data Way (a b : ℕ) : Type 0 where
  less : a < b → Way a b
  equal : a ≡ b → Way a b
  more : b < a → Way a b

way : (a b : ℕ) → Way a b
way a b = go (ltb a b) refl (ltb b a) refl
  where
    go : (s : Bool) → ltb a b ≡ s → (t : Bool) → ltb b a ≡ t → Way a b
    go true e t f = less (ltb-true a b e)
    go false e true f = more (ltb-true b a f)
    go false e false f = equal (omega (arith, ltb-false a b e, ltb-false b a f))

heads : (a b : ℕ) (x y : List ℕ) → precedes (a ∷ x) (b ∷ y) ≡ true → (a < b) ⊎ ((a ≡ b) × (precedes x y ≡ true))
heads a b x y p = go (way a b)
  where
    go : Way a b → (a < b) ⊎ ((a ≡ b) × (precedes x y ≡ true))
    go (less h) = inl h
    go (equal h) = inr (h, sym (same_head a b x y h) ∙ p)
    go (more h) = absurd (false≢true (sym (after_head a b x y h) ∙ p))

-- ---- a strict total order

pub precedes_irreflexive : (x : List ℕ) → precedes x x ≡ false
unfolding precedes
precedes_irreflexive [] = refl
precedes_irreflexive (a ∷ x) = same_head a a x x refl ∙ precedes_irreflexive x

pub precedes_transitive : (x y z : List ℕ) → precedes x y ≡ true → precedes y z ≡ true → precedes x z ≡ true
unfolding precedes
precedes_transitive [] [] z p q = absurd (false≢true p)
precedes_transitive [] (b ∷ y) [] p q = absurd (false≢true q)
precedes_transitive [] (b ∷ y) (c ∷ z) p q = refl
precedes_transitive (a ∷ x) [] z p q = absurd (false≢true p)
precedes_transitive (a ∷ x) (b ∷ y) [] p q = absurd (false≢true q)
precedes_transitive (a ∷ x) (b ∷ y) (c ∷ z) p q = go (precedes_transitive x y z) (heads a b x y p) (heads b c y z q)
  where
    go : (precedes x y ≡ true → precedes y z ≡ true → precedes x z ≡ true) → (a < b) ⊎ ((a ≡ b) × (precedes x y ≡ true))
        → (b < c) ⊎ ((b ≡ c) × (precedes y z ≡ true)) → precedes (a ∷ x) (c ∷ z) ≡ true
    go ih (inl h) (inl k) = before_head a c x z (omega arith)
    go ih (inl h) (inr k) = before_head a c x z (omega arith)
    go ih (inr h) (inl k) = before_head a c x z (omega arith)
    go ih (inr h) (inr k) = same_head a c x z (h.0 ∙ k.0) ∙ ih h.1 k.1

pub precedes_asymmetric : (x y : List ℕ) → precedes x y ≡ true → precedes y x ≡ false
precedes_asymmetric x y p = go (precedes y x) refl
  where
    go : (t : Bool) → precedes y x ≡ t → precedes y x ≡ false
    go false e = e
    go true e = absurd (false≢true (sym (precedes_irreflexive x) ∙ precedes_transitive x y x p e))

pub precedes_total : (x y : List ℕ) → precedes x y ≡ false → precedes y x ≡ false → x ≡ y
unfolding precedes
precedes_total [] [] p q = refl
precedes_total [] (b ∷ y) p q = absurd (false≢true (sym p))
precedes_total (a ∷ x) [] p q = absurd (false≢true (sym q))
precedes_total (a ∷ x) (b ∷ y) p q = go (precedes_total x y) (way a b)
  where
    go : (precedes x y ≡ false → precedes y x ≡ false → x ≡ y) → Way a b → a ∷ x ≡ b ∷ y
    go ih (less h) = absurd (false≢true (sym p ∙ before_head a b x y h))
    go ih (equal h) = let t : x ≡ y = ih (sym (same_head a b x y h) ∙ p) (sym (same_head b a y x (sym h)) ∙ q) in cc
    go ih (more h) = absurd (false≢true (sym q ∙ before_head b a y x h))

-- what comes before x comes before whatever does not come before x
pub precedes_on : (w x y : List ℕ) → precedes w x ≡ true → precedes y x ≡ false → precedes w y ≡ true
precedes_on w x y p q = go (precedes x y) refl
  where
    go : (t : Bool) → precedes x y ≡ t → precedes w y ≡ true
    go true e = precedes_transitive w x y p e
    go false e = rw (precedes_total y x q e) p

-- not to come before is transitive too
pub follows : (x y z : List ℕ) → precedes x y ≡ false → precedes y z ≡ false → precedes x z ≡ false
follows x y z p q = go (precedes x z) refl
  where
    go : (t : Bool) → precedes x z ≡ t → precedes x z ≡ false
    go false e = e
    go true e = absurd (false≢true (sym p ∙ precedes_on x z y e q))

-- ---- byte by byte, from the byte i on

none_before : (x : List ℕ) → precedes x [] ≡ false
unfolding precedes
none_before [] = refl
none_before (a ∷ x) = refl

module _ (x y : List ℕ) (i : ℕ) where
  pub scan_end : length y ≤ i → precedes (drop i x) (drop i y) ≡ false
  scan_end h = rw (drop_of_length-le y {i = i} h) (none_before (drop i x))

  pub scan_prefix : length x ≤ i → i < length y → precedes (drop i x) (drop i y) ≡ true
  unfolding precedes
  scan_prefix h g = rw (drop_of_length-le x {i = i} h, drop-cons y i 0 g)

  -- where the shorter ends, the longer comes behind
  pub scan_over : i ≡ min (length x) (length y) → precedes (drop i x) (drop i y) ≡ ltb (length x) (length y)
  scan_over e = go (ltb (length x) (length y)) refl
    where
      go : (t : Bool) → ltb (length x) (length y) ≡ t → precedes (drop i x) (drop i y) ≡ t
      go true l = scan_prefix (omega (arith, ltb-true _ _ l)) (omega (arith, ltb-true _ _ l))
      go false l = scan_end (omega (arith, ltb-false _ _ l))

  module _ (h : i < length x) (g : i < length y) where
    pub scan_differ : (get_or x i 0 ≡ get_or y i 0 → ⊥) → precedes (drop i x) (drop i y) ≡ ltb (get_or x i 0) (get_or y i 0)
    unfolding precedes
    scan_differ e = rw (drop-cons x i 0 h, drop-cons y i 0 g, ne_eqb _ _ e) (or-false _)

    pub scan_on : get_or x i 0 ≡ get_or y i 0 → precedes (drop i x) (drop i y) ≡ precedes (drop (i + 1) x) (drop (i + 1) y)
    scan_on e = rw (add-one, drop-cons x i 0 h, drop-cons y i 0 g) (same_head _ _ _ _ e)
