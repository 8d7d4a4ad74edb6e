-- A text may be cut before a byte that continues nothing: the character before it is the same with and without what follows,
-- so the whole is UTF-8 exactly where both parts are.
-- Assumes nothing.
use mathlib.Core.Path.{◌≡◌, refl, sym, ap, ◌∙◌}
use mathlib.Core.Logic.{◌⊎◌, inl, inr}
use mathlib.Core.Bool.{Bool, true, false, cond, ◌&&◌}
use mathlib.Core.List.{List, [], ◌∷◌, ◌++◌}
use Prim.Native.Nat.{ℕ, zero, suc, ◌+◌, ◌-◌, ◌≤◌, ◌<◌}
use native.Mathlib.Omega.{arith}
use lib.Dec.{ltb}
use lib.ListN.{length, get_or, take, drop, take-append-drop}
use lib.Seq.{get_or-drop}
use borrow.Author.Tests.{ltb-true, lt-ltb, le-ltb}
use Rattle.buffers.proofs.Choice.{both_arms, or_cases, or_left, or_right}
use Rattle.chars.specs.Utf8.{low, high, char_of, char_at, behind_char, utf8_from, utf8, starts}
use Rattle.chars.proofs.Reading.{low_128, high_191, char_whole}
use Rattle.std.specs.Prelude.{None, Option, Some}

pub starts_cases : (b : ℕ) → starts b ≡ true → (b < 0x80) ⊎ (0xBF < b)
unfolding starts
starts_cases b e = go (or_cases (ltb b 0x80) (ltb 0xBF b) e)
  where
    go : (ltb b 0x80 ≡ true) ⊎ (ltb 0xBF b ≡ true) → (b < 0x80) ⊎ (0xBF < b)
    go (inl p) = inl (ltb-true b 0x80 p)
    go (inr p) = inr (ltb-true 0xBF b p)

pub starts_low : (b : ℕ) → b < 0x80 → starts b ≡ true
unfolding starts
starts_low b h = or_left (ltb b 0x80) (ltb 0xBF b) (lt-ltb b 0x80 h)

pub starts_high : (b : ℕ) → 0xBF < b → starts b ≡ true
unfolding starts
starts_high b h = or_right (ltb b 0x80) (ltb 0xBF b) (lt-ltb 0xBF b h)

-- a byte out of its range ends the reading
out : (lo hi b : ℕ) (z : Option (ℕ × ℕ)) → (b < lo) ⊎ (hi < b) → cond (ltb b lo) None (cond (ltb hi b) None z) ≡ None
out lo hi b z (inl h) = rw (lt-ltb b lo h)
out lo hi b z (inr h) = go (ltb b lo)
  where
    go : (t : Bool) → cond t None (cond (ltb hi b) None z) ≡ None
    go true = refl
    go false = rw (lt-ltb hi b h)

beyond : (a b : ℕ) → (b < 0x80) ⊎ (0xBF < b) → (b < low a) ⊎ (high a < b)
beyond a b (inl h) = inl (omega (arith, low_128 a))
beyond a b (inr h) = inr (omega (arith, high_191 a))

module _ (a b c d : ℕ) where
  second_off : starts b ≡ true → char_of a b c d ≡ char_of a 0 0 0
  unfolding char_of
  second_off h =
      rw (out (low a) (high a) b _ (beyond a b (starts_cases b h)), out (low a) (high a) 0 _ (beyond a 0 (inl zero_low)))
    where
      zero_low : 0 < 0x80
      zero_low = omega arith

  third_off : starts c ≡ true → char_of a b c d ≡ char_of a b 0 0
  unfolding char_of
  third_off h = rw (out 0x80 0xBF c _ (starts_cases c h))

  fourth_off : starts d ≡ true → char_of a b c d ≡ char_of a b c 0
  unfolding char_of
  fourth_off h = rw (out 0x80 0xBF d _ (starts_cases d h))

-- past ASCII a second byte out of its range leaves no character
pub second_bad : (a b c d : ℕ) → 0x80 ≤ a → (b < 0x80) ⊎ (0xBF < b) → char_of a b c d ≡ None
unfolding char_of
second_bad a b c d h o =
    rw (le-ltb a 0x80 h, out (low a) (high a) b _ (beyond a b o))
    (both_arms (λ (t : Option (ℕ × ℕ)). t ≡ None) (ltb a 0xC2) refl (both_arms (λ (t : Option (ℕ × ℕ)). t ≡ None) (ltb 0xF4 a) refl refl))

-- what follows does not change the character that a text begins with
pub char_cut : (x w : List ℕ) → 0 < length x → starts (get_or w 0 0) ≡ true → char_at (x ++ w) ≡ char_at x
char_cut [] w l h = absurd (omega arith)
char_cut (a ∷ []) w l h = second_off a (get_or w 0 0) (get_or w 1 0) (get_or w 2 0) h
char_cut (a ∷ b ∷ []) w l h = third_off a b (get_or w 0 0) (get_or w 1 0) h
char_cut (a ∷ b ∷ c ∷ []) w l h = fourth_off a b c (get_or w 0 0) h
char_cut (a ∷ b ∷ c ∷ d ∷ r) w l h = refl

utf8_from_append : (k : ℕ) (x w : List ℕ) → k ≤ length x → starts (get_or w 0 0) ≡ true → utf8_from k (x ++ w) ≡ (utf8_from k x && utf8 w)
unfolding utf8_from
utf8_from_append zero [] w l h = refl
utf8_from_append (suc k) [] w l h = absurd (omega arith)
utf8_from_append (suc k) (a ∷ r) w l h = utf8_from_append k r w (omega arith) h
utf8_from_append zero (a ∷ r) w l h =
    ap (λ (t : Option (ℕ × ℕ)). behind_char t (λ k. utf8_from k (r ++ w))) (char_cut (a ∷ r) w (omega arith) h)
    ∙ go (char_at (a ∷ r)) refl (λ k m. utf8_from_append k r w m h)
  where
    go : (t : Option (ℕ × ℕ)) → char_at (a ∷ r) ≡ t → ((k : ℕ) → k ≤ length r → utf8_from k (r ++ w) ≡ (utf8_from k r && utf8 w))
        → behind_char t (λ k. utf8_from k (r ++ w)) ≡ (behind_char t (λ k. utf8_from k r) && utf8 w)
    go (Some (c, n)) e ih = ih (n - 1) (omega (arith, char_whole (a ∷ r) c n e))
    go None e ih = refl

-- two texts, one behind the other
pub utf8_append : (x w : List ℕ) → starts (get_or w 0 0) ≡ true → utf8 (x ++ w) ≡ (utf8 x && utf8 w)
utf8_append x w h = utf8_from_append 0 x w (omega arith) h

-- a text cut before a byte that continues nothing, or at its end
pub utf8_cut : (n : ℕ) (s : List ℕ) → starts (get_or s n 0) ≡ true → utf8 s ≡ (utf8 (take n s) && utf8 (drop n s))
utf8_cut n s h = sym (ap utf8 (take-append-drop n s)) ∙ utf8_append (take n s) (drop n s) (rw (get_or-drop n s 0 0) at_n)
  where
    at_n : starts (get_or s (n + 0) 0) ≡ true
    at_n = rw (native.Mathlib.Nat.add-zero n) h
