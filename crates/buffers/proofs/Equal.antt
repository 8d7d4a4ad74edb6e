-- The test `same` says whether two texts are equal; how it is computed byte by byte.
-- Assumes nothing.
use mathlib.Core.Path.{◌≡◌, refl, ap}
use mathlib.Core.Bool.{Bool, true, false}
use mathlib.Core.List.{List, [], ◌∷◌}
use Prim.Native.Nat.{ℕ, suc, ◌+◌, ◌<◌}
use native.Mathlib.Numerals.{add-one}
use native.Mathlib.Omega.{arith}
use lib.Dec.{eqb}
use lib.ListN.{length, drop, get_or, drop_of_length-le}
use lib.Seq.{drop-cons}
use borrow.Author.Tests.{eq-eqb, ne_eqb, eqb-true}
use Rattle.buffers.specs.Same.{same}
use Rattle.buffers.proofs.Choice.{and_left, and_right, and_both, and_false}

pub same_step : (a b : List ℕ) (i : ℕ) → i < length a → i < length b → get_or a i 0 ≡ get_or b i 0
    → same (drop i a) (drop i b) ≡ same (drop (i + 1) a) (drop (i + 1) b)
unfolding same
same_step a b i h g e = rw (add-one, drop-cons a i 0, drop-cons b i 0, eq-eqb _ _ e)

pub same_differ : (a b : List ℕ) (i : ℕ) → i < length a → i < length b → (get_or a i 0 ≡ get_or b i 0 → ⊥) → same (drop i a) (drop i b) ≡ false
unfolding same
same_differ a b i h g e = rw (drop-cons a i 0, drop-cons b i 0, ne_eqb _ _ e)

pub same_end : (a b : List ℕ) (i : ℕ) → i ≡ length a → length a ≡ length b → same (drop i a) (drop i b) ≡ true
unfolding same
same_end a b i e l = rw (drop_of_length-le a {i = i} (omega arith), drop_of_length-le b {i = i} (omega arith))

pub same_lengths : (a b : List ℕ) → (length a ≡ length b → ⊥) → same a b ≡ false
unfolding same
same_lengths [] [] h = absurd (h refl)
same_lengths [] (y ∷ b) h = refl
same_lengths (x ∷ a) [] h = refl
same_lengths (x ∷ a) (y ∷ b) h = rw (same_lengths a b (λ e. h (ap suc e))) (and_false (eqb x y))

-- how it is computed
pub ruleset same_bytewise = (same_step, same_differ, same_end, same_lengths)

pub same_refl : (a : List ℕ) → same a a ≡ true
unfolding same
same_refl [] = refl
same_refl (x ∷ a) = and_both (eqb x x) (same a a) (eq-eqb x x refl) (same_refl a)

pub same_true : (a b : List ℕ) → same a b ≡ true → a ≡ b
unfolding same
same_true [] [] e = refl
same_true [] (y ∷ b) e = let z : ◌≡◌ {A = Bool} false true = e in absurd (mathlib.Core.Bool.false≢true z)
same_true (x ∷ a) [] e = absurd (mathlib.Core.Bool.false≢true e)
same_true (x ∷ a) (y ∷ b) e =
    let h : x ≡ y = eqb-true x y (and_left (eqb x y) (same a b) e) in
    let t : a ≡ b = same_true a b (and_right (eqb x y) (same a b) e) in
    cc
