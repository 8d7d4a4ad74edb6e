-- What brackets a place in a table that goes up, and what the place that a search finds says of membership.
-- Assumes nothing.
use mathlib.Core.Path.{◌≡◌, refl, ap, ◌∙◌}
use mathlib.Core.Logic.{◌⊎◌, inl, inr}
use mathlib.Core.Bool.{Bool, true, false}
use mathlib.Core.List.{List, [], ◌∷◌}
use Prim.Native.Nat.{ℕ, zero, suc, ◌+◌, ◌%◌, ◌≤◌, ◌<◌, zero-le, suc-le-suc}
use native.Mathlib.Nat.{le_of_suc-le-suc, not-suc-le-zero, lt_trans, le_of_lt, le_trans, lt_of_lt_of_le, eq-or-lt_of_le}
use native.Mathlib.Omega.{arith}
use lib.Dec.{eqb, leb}
use lib.ListN.{length, get_or}
use borrow.Author.Tests.{le-leb, lt-leb, lt-ltb, le-ltb, leb-true, leb-false}
use Rattle.std.specs.List.Sorted.{IsNonDecreasingBy, IsPartitionPoint}
use Rattle.std.proofs.lemmas.List.Sorted.{IsNonDecreasingBy-from_default}
use Rattle.ranges.specs.Ranges.{member, Ascending}

-- lo and hi bracket the place: what stands before lo is at most x, what stands from hi on is above it
pub record Bracket (a : List ℕ) (x lo hi : ℕ) : Type 0 where
  pub lo_le : lo ≤ hi
  pub hi_le : hi ≤ length a
  pub below : (k : ℕ) → k < lo → get_or a k 0 ≤ x
  pub beyond : (k : ℕ) → hi ≤ k → k < length a → x < get_or a k 0

module _ {a : List ℕ} {x lo hi : ℕ} (s : Ascending a) (b : Bracket a x lo hi) (m : ℕ) (lm : lo ≤ m) (mh : m < hi) where
  pub up : get_or a m 0 ≤ x → Bracket a x (m + 1) hi
  up c = record {
    lo_le = omega arith;
    hi_le = b.hi_le;
    below = λ k l. at k (eq-or-lt_of_le (le_upto k l));
    beyond = b.beyond;
  }
    where
      le_upto : (k : ℕ) → k < m + 1 → k ≤ m
      le_upto k l = omega arith

      at : (k : ℕ) → (k ≡ m) ⊎ (k < m) → get_or a k 0 ≤ x
      at k (inl e) = rw e c
      at k (inr l) = le_trans (le_of_lt (s k m l (lt_of_lt_of_le mh b.hi_le))) c

  pub down : x < get_or a m 0 → Bracket a x lo m
  down c = record {
    lo_le = lm;
    hi_le = omega (arith, b.hi_le);
    below = b.below;
    beyond = λ k l h. at k (eq-or-lt_of_le l) h;
  }
    where
      at : (k : ℕ) → (m ≡ k) ⊎ (m < k) → k < length a → x < get_or a k 0
      at k (inl e) h = rw (← e) c
      at k (inr l) h = lt_trans c (s m k l h)

-- a table that goes up, as the library's search asks it
pub ascending_rises : (a : List ℕ) → Ascending a → IsNonDecreasingBy (λ n. n) a
ascending_rises a s = IsNonDecreasingBy-from_default (λ n. n) a 0 (λ i j l m. at i j (eq-or-lt_of_le l) m)
  where
    at : (i j : ℕ) → (i ≡ j) ⊎ (i < j) → j < length a → get_or a i 0 ≤ get_or a j 0
    at i j (inl e) m = omega (arith, ap (λ (n : ℕ). get_or a n 0) e)
    at i j (inr l) m = le_of_lt (s i j l m)

-- the place that the library's search finds
pub at_point : (a : List ℕ) (x r : ℕ) → r ≤ length a → IsPartitionPoint (λ n. leb n x ≡ true) (λ n. leb n x ≡ false) a r → Bracket a x r r
at_point a x r h p = record {
  lo_le = omega arith;
  hi_le = h;
  below = λ k l. leb-true _ _ (p.0 k 0 zero-le l);
  beyond = λ k l m. leb-false _ _ (p.1 k 0 l m);
}

abbrev pub odd : ℕ → Bool
odd zero = false
odd (suc zero) = true
odd (suc (suc n)) = odd n

-- c is a member where the number of boundaries up to it is odd
pub placed : (xs : List ℕ) (c r : ℕ) → r ≤ length xs
    → ((k : ℕ) → k < r → get_or xs k 0 ≤ c)
    → ((k : ℕ) → r ≤ k → k < length xs → c < get_or xs k 0)
    → member xs c ≡ odd r
unfolding member
placed [] c zero h b a = refl
placed [] c (suc r) h b a = absurd (not-suc-le-zero h)
placed (lo ∷ []) c zero h b a = lt-leb lo c (a 0 zero-le (suc-le-suc zero-le))
placed (lo ∷ []) c (suc zero) h b a = le-leb lo c (b 0 (suc-le-suc zero-le))
placed (lo ∷ []) c (suc (suc r)) h b a = absurd (not-suc-le-zero (le_of_suc-le-suc h))
placed (lo ∷ hi ∷ rest) c zero h b a =
    rw (lt-leb lo c (a 0 zero-le (suc-le-suc zero-le)))
    (placed rest c zero zero-le (λ k l. absurd (not-suc-le-zero l)) (λ k l m. a (suc (suc k)) zero-le (suc-le-suc (suc-le-suc m))))
placed (lo ∷ hi ∷ rest) c (suc zero) h b a =
    rw (le-leb lo c (b 0 (suc-le-suc zero-le)), lt-ltb c hi (a 1 (suc-le-suc zero-le) (suc-le-suc (suc-le-suc zero-le))))
placed (lo ∷ hi ∷ rest) c (suc (suc r)) h b a =
    rw (le-leb lo c (b 0 (suc-le-suc zero-le)), le-ltb c hi (b 1 (suc-le-suc (suc-le-suc zero-le))))
    (placed rest c r (le_of_suc-le-suc (le_of_suc-le-suc h)) (λ k l. b (suc (suc k)) (suc-le-suc (suc-le-suc l))) (λ k l m. a (suc (suc k)) (suc-le-suc (suc-le-suc l)) (suc-le-suc (suc-le-suc m))))

pub odd_mod : (r : ℕ) → eqb (r % 2) 1 ≡ odd r
odd_mod zero = refl
odd_mod (suc zero) = refl
odd_mod (suc (suc r)) = ap (λ (n : ℕ). eqb n 1) (two r) ∙ odd_mod r
  where
    two : (r : ℕ) → suc (suc r) % 2 ≡ r % 2
    two r = omega arith
