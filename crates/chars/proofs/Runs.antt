-- Runs of ASCII bytes: how they grow, join, and are passed by the UTF-8 check; and characters of two bytes.
-- Assumes nothing.
use mathlib.Core.Path.{◌≡◌, ap, ◌∙◌}
use mathlib.Core.Logic.{◌⊎◌, inl}
use mathlib.Core.List.{List}
use Prim.Native.Nat.{ℕ, ◌+◌, ◌-◌, ◌≤◌, ◌<◌}
use native.Mathlib.Decide.{dec_lt}
use native.Mathlib.Omega.{arith}
use lib.ListN.{length, get_or, get_or-eq_default}
use lib.Dec.{ltb}
use borrow.Author.Tests.{ltb-true, lt-ltb, le-ltb}
use Rattle.chars.specs.Utf8.{char_of}
use Rattle.chars.specs.Post.{AllBytes, Plain, Advances}
use Rattle.chars.proofs.Reading.{char_here, advance_char, advance_ascii, advance_stuck}
use Rattle.chars.proofs.Boundary.{second_bad}
use Rattle.chars.proofs.Encoding.{low_le, le_high, step_2}
use Rattle.std.specs.Prelude.{None}

-- ---- ASCII

module _ (s : List ℕ) where
  pub plain_all : (at end : ℕ) → at ≤ end → AllBytes (λ b. ltb b 128) s at end → Plain s at end
  plain_all at end h f = record { forward = h; ascii = λ i g l. ltb-true (get_or s i 0) 128 (f i g l) }

  pub plain_none : (at : ℕ) → Plain s at at
  plain_none at = record { forward = omega arith; ascii = λ i h l. absurd (omega arith) }

  -- one byte more
  pub plain_more : (at i : ℕ) → Plain s at i → get_or s i 0 ≤ 0x7F → Plain s at (i + 1)
  plain_more at i p h = record { forward = let f = p.forward in omega arith; ascii = λ k g l. go k g l (dec_lt k i) }
    where
      go : (k : ℕ) → at ≤ k → k < i + 1 → Dec (k < i) → get_or s k 0 < 128
      go k g l (yes m) = p.ascii k g m
      go k g l (no m) = let e : k ≡ i = omega arith in omega (arith, ap (λ (j : ℕ). get_or s j 0) e)

  -- one run behind another
  pub plain_join : (a b c : ℕ) → Plain s a b → Plain s b c → Plain s a c
  plain_join a b c p q = record { forward = let f = p.forward in let g = q.forward in omega arith; ascii = λ k g l. go k g l (dec_lt k b) }
    where
      go : (k : ℕ) → a ≤ k → k < c → Dec (k < b) → get_or s k 0 < 128
      go k g l (yes m) = p.ascii k g m
      go k g l (no m) = q.ascii k (omega arith) l

  -- the check passes it
  pub plain_advances : (at end : ℕ) → at < end → end ≤ length s → Plain s at end → Advances s at (end - at)
  plain_advances at end h l p =
      advance_ascii s at (omega arith) (end - at) (omega arith) (omega arith) (λ i m. p.ascii (at + i) (omega arith) (omega arith))

-- ---- characters of two bytes

module _ (s : List ℕ) (at : ℕ) (h : at < length s) (past : 128 ≤ get_or s at 0) where
  stuck : char_of (get_or s at 0) (get_or s (at + 1) 0) (get_or s (at + 2) 0) (get_or s (at + 3) 0) ≡ None → Advances s at 0
  stuck e = advance_stuck s at h (char_here s at h ∙ e)

  pub two_first : get_or s at 0 < 0xC2 → Advances s at 0
  unfolding char_of
  two_first l = stuck (rw (le-ltb (get_or s at 0) 0x80 past, lt-ltb (get_or s at 0) 0xC2 l))

  pub two_short : length s - at < 2 → Advances s at 0
  two_short l =
      let z : get_or s (at + 1) 0 ≡ 0 = get_or-eq_default s 0 (omega arith) in
      stuck (second_bad (get_or s at 0) (get_or s (at + 1) 0) _ _ past (inl (omega arith)))

  pub two_second : (get_or s (at + 1) 0 < 0x80) ⊎ (0xBF < get_or s (at + 1) 0) → Advances s at 0
  two_second b = stuck (second_bad (get_or s at 0) (get_or s (at + 1) 0) _ _ past b)

  pub two_good : 0xC2 ≤ get_or s at 0 → get_or s at 0 < 0xE0 → 0x80 ≤ get_or s (at + 1) 0 → get_or s (at + 1) 0 ≤ 0xBF → Advances s at 2
  two_good l m f g =
      advance_char s at h _ 2
      (char_here s at h
      ∙ step_2 (get_or s at 0) (get_or s (at + 1) 0) _ _ l m
      (low_le (get_or s at 0) (get_or s (at + 1) 0) (λ e. omega arith) (λ e. omega arith) f)
      (le_high (get_or s at 0) (get_or s (at + 1) 0) (λ e. omega arith) (λ e. omega arith) g))
