-- What the tables say of whole stretches of code points, by tests that antt computes over them.
-- Assumes nothing.
use mathlib.Core.Path.{◌≡◌, refl}
use mathlib.Core.Logic.{⊎_elim}
use mathlib.Core.Bool.{Bool, true, false, ◌&&◌, ◌||◌, false≢true}
use mathlib.Core.List.{List, [], ◌∷◌}
use Prim.Native.Nat.{ℕ, ◌≤◌, ◌<◌}
use native.Mathlib.Omega.{arith}
use lib.Dec.{ltb, leb}
use borrow.Author.Tests.{leb-true, ltb-true, le-leb, lt-leb, lt-ltb, le-ltb}
use Rattle.buffers.proofs.Choice.{and_left, and_right, and_both, and_false, or_cases, or_left, or_right, or_false}
use Rattle.ranges.specs.Ranges.{member, Ascending}
use Rattle.ranges.specs.EscapedAnywhere.{escaped_anywhere}
use Rattle.ranges.specs.FirstOnly.{first_only}
use Rattle.ranges.specs.Common.{common}
use Rattle.ranges.proofs.Order.{ascends_ascending}

-- no range of the table meets the code points from lo to below hi
abbrev pub none_meets : ℕ → ℕ → List ℕ → Bool
none_meets lo hi [] = true
none_meets lo hi (a ∷ []) = leb hi a
none_meets lo hi (a ∷ b ∷ r) = (leb hi a || leb b lo) && none_meets lo hi r

pub clear_member : (lo hi : ℕ) (xs : List ℕ) (c : ℕ) → none_meets lo hi xs ≡ true → lo ≤ c → c < hi → member xs c ≡ false
unfolding member
clear_member lo hi [] c e l h = refl
clear_member lo hi (a ∷ []) c e l h = lt-leb a c (omega (arith, leb-true hi a e))
clear_member lo hi (a ∷ b ∷ r) c e l h =
    or_false (leb a c && ltb c b) (member r c)
    (⊎_elim
    (λ p. rw (lt-leb a c (omega (arith, leb-true hi a p))))
    (λ p. rw (le-ltb c b (omega (arith, leb-true b lo p))) (and_false (leb a c)))
    (or_cases (leb hi a) (leb b lo) (and_left (leb hi a || leb b lo) (none_meets lo hi r) e)))
    (clear_member lo hi r c (and_right (leb hi a || leb b lo) (none_meets lo hi r) e) l h)

-- one range of the table holds them all
abbrev pub covers : ℕ → ℕ → List ℕ → Bool
covers lo hi [] = false
covers lo hi (a ∷ []) = false
covers lo hi (a ∷ b ∷ r) = (leb a lo && leb hi b) || covers lo hi r

pub covers_member : (lo hi : ℕ) (xs : List ℕ) (c : ℕ) → covers lo hi xs ≡ true → lo ≤ c → c < hi → member xs c ≡ true
unfolding member
covers_member lo hi [] c e l h = absurd (false≢true e)
covers_member lo hi (a ∷ []) c e l h = absurd (false≢true e)
covers_member lo hi (a ∷ b ∷ r) c e l h =
    ⊎_elim
    (λ p.
    or_left (leb a c && ltb c b) (member r c)
    (and_both (leb a c) (ltb c b)
    (le-leb a c (omega (arith, leb-true a lo (and_left (leb a lo) (leb hi b) p))))
    (lt-ltb c b (omega (arith, leb-true hi b (and_right (leb a lo) (leb hi b) p))))))
    (λ p. or_right (leb a c && ltb c b) (member r c) (covers_member lo hi r c p l h))
    (or_cases (leb a lo && leb hi b) (covers lo hi r) e)

-- no range of the first table meets one of the second
abbrev pub apart : List ℕ → List ℕ → Bool
apart [] ys = true
apart (lo ∷ []) ys = false
apart (lo ∷ hi ∷ r) ys = none_meets lo hi ys && apart r ys

pub apart_member : (xs ys : List ℕ) (c : ℕ) → apart xs ys ≡ true → member xs c ≡ true → member ys c ≡ false
unfolding member
apart_member [] ys c e m = absurd (false≢true m)
apart_member (lo ∷ []) ys c e m = absurd (false≢true e)
apart_member (lo ∷ hi ∷ r) ys c e m =
    ⊎_elim
    (λ p. clear_member lo hi ys c (and_left (none_meets lo hi ys) (apart r ys) e) (leb-true lo c (and_left (leb lo c) (ltb c hi) p)) (ltb-true c hi (and_right (leb lo c) (ltb c hi) p)))
    (λ p. apart_member r ys c (and_right (none_meets lo hi ys) (apart r ys) e) p)
    (or_cases (leb lo c && ltb c hi) (member r c) m)

-- printable ASCII is in neither table
pub ascii_anywhere : (c : ℕ) → 32 ≤ c → c < 127 → member escaped_anywhere c ≡ false
unfolding escaped_anywhere
ascii_anywhere c l h = clear_member 32 127 escaped_anywhere c refl l h

pub ascii_first : (c : ℕ) → 32 ≤ c → c < 127 → member first_only c ≡ false
unfolding first_only
ascii_first c l h = clear_member 32 127 first_only c refl l h

pub delete_hidden : (c : ℕ) → 127 ≤ c → c < 161 → member escaped_anywhere c ≡ true
unfolding escaped_anywhere
delete_hidden c l h = covers_member 127 161 escaped_anywhere c refl l h

-- the common characters are in neither table
pub common_anywhere : (c : ℕ) → member common c ≡ true → member escaped_anywhere c ≡ false
unfolding common escaped_anywhere
common_anywhere c m = apart_member common escaped_anywhere c refl m

pub common_first : (c : ℕ) → member common c ≡ true → member first_only c ≡ false
unfolding common first_only
common_first c m = apart_member common first_only c refl m

pub common_ascending : Ascending common
unfolding common
common_ascending = ascends_ascending common tt
