-- A text that is held against a word piece by piece.
-- Assumes nothing.
use mathlib.Core.Path.{◌≡◌, refl, sym, ap, ◌∙◌}
use mathlib.Core.Bool.{Bool, true, false, ◌&&◌}
use mathlib.Core.List.{List, [], ◌∷◌, ◌++◌, append-nil}
use Prim.Native.Nat.{ℕ, suc, ◌≤◌, ◌<◌}
use native.Mathlib.Decide.{ℕ_discrete}
use native.Mathlib.Omega.{arith}
use lib.Dec.{eqb}
use lib.ListN.{length, get_or, take, drop}
use borrow.Author.Tests.{eq-eqb, ne_eqb}
use Rattle.buffers.specs.Same.{same}
use Rattle.buffers.proofs.Choice.{and_false}

-- a text before another one: what the word begins with, and what it goes on with
same_after : (s x w : List ℕ) → length s ≤ length w → same (s ++ x) w ≡ (same (take (length s) w) s && same x (drop (length s) w))
unfolding same
same_after [] x w h = refl
same_after (a ∷ s) x [] h = absurd (omega arith)
same_after (a ∷ s) x (b ∷ w) h = go (ℕ_discrete a b) (same_after s x w (omega arith))
  where
    go : Dec (a ≡ b) → same (s ++ x) w ≡ (same (take (length s) w) s && same x (drop (length s) w))
        → (eqb a b && same (s ++ x) w) ≡ ((eqb b a && same (take (length s) w) s) && same x (drop (length s) w))
    go (yes e) f = rw (eq-eqb a b e, eq-eqb b a (sym e)) f
    go (no n) f = rw (ne_eqb a b n, ne_eqb b a (λ e. n (sym e)))

-- a word that is too short
same_short : (s x w : List ℕ) → length w < length s → same (s ++ x) w ≡ false
unfolding same
same_short [] x w h = absurd (omega arith)
same_short (a ∷ s) x [] h = refl
same_short (a ∷ s) x (b ∷ w) h = rw (same_short s x w (omega arith)) (and_false (eqb a b))

-- one byte
same_first : (b : ℕ) (w : List ℕ) → 1 ≤ length w → eqb (get_or w 0 0) b ≡ same (take 1 w) (b ∷ [])
unfolding same
same_first b [] h = absurd (omega arith)
same_first b (c ∷ w) h = go (eqb c b)
  where
    go : (t : Bool) → t ≡ (t && true)
    go true = refl
    go false = refl

-- nothing is left of the word
same_empty : (w : List ℕ) → same [] w ≡ eqb (length w) 0
unfolding same
same_empty [] = refl
same_empty (b ∷ w) = sym (ne_eqb (suc (length w)) 0 (omega arith))

-- where so far they were equal or not, and w is left of the word
module _ (equal : Bool) (x w : List ℕ) where
  pub goes_on_with : (s : List ℕ) → length s ≤ length w → {t : Bool} {rest : List ℕ} → t ≡ same (take (length s) w) s → rest ≡ drop (length s) w
      → ((equal && t) && same x rest) ≡ (equal && same (s ++ x) w)
  goes_on_with s h e f = rw (e, f, same_after s x w h) (joined equal (same (take (length s) w) s) (same x (drop (length s) w)))
    where
      joined : (p q r : Bool) → ((p && q) && r) ≡ (p && (q && r))
      joined true q r = refl
      joined false q r = refl

  pub goes_on_by : (b : ℕ) → 1 ≤ length w → {rest : List ℕ} → rest ≡ drop 1 w → ((equal && eqb (get_or w 0 0) b) && same x rest) ≡ (equal && same (b ∷ x) w)
  goes_on_by b h f = goes_on_with (b ∷ []) h (same_first b w h) f

  pub ends_before : (s : List ℕ) → length w < length s → false ≡ (equal && same (s ++ x) w)
  ends_before s h = sym (rw (same_short s x w h) (and_false equal))

-- all of a text was held against the word
pub held_all : (equal : Bool) (left text word : List ℕ) → (equal && same [] left) ≡ same (text ++ []) word → (equal && eqb (length left) 0) ≡ same text word
held_all equal left text word e = ap (λ (t : Bool). equal && t) (sym (same_empty left)) ∙ e ∙ ap (λ (l : List ℕ). same l word) (append-nil text)
