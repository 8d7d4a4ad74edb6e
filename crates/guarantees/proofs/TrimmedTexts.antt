-- A line that is trimmed: it is UTF-8 where the line is, and has no line feed.
-- Assumes nothing.
use mathlib.Core.Path.{◌≡◌, refl, sym, ap, ◌∙◌}
use mathlib.Core.Bool.{true, false}
use mathlib.Core.List.{List, [], ◌∷◌}
use Prim.Native.Nat.{ℕ, zero, suc, ◌-◌}
use Prim.Native.Char.{code}
use native.Mathlib.Omega.{arith}
use lib.Dec.{eqb}
use lib.ListN.{length, drop}
use Rattle.buffers.proofs.Choice.{by_cond, and_left}
use Rattle.chars.specs.Utf8.{char_at, behind_char, utf8_from, utf8}
use Rattle.chars.specs.White.{white, width_of, white_at, or_past, trim_from, trim_start, trim_end, trim}
use Rattle.chars.proofs.Boundary.{utf8_append}
use Rattle.chars.proofs.Trimming.{blank_starts, trim_end_split, trim_part}
use Rattle.cuts.specs.Split.{onto}
use Rattle.sorting.specs.Order.{Each}
use Rattle.sorting.proofs.EachLaws.{each_take, each_drop}
use Rattle.logs.specs.Lines.{lines_of}
use Rattle.std.specs.Prelude.{None, Option, Some}

-- ---- a text that is UTF-8 is so when it is trimmed

utf8_trim_from : (k : ℕ) (s : List ℕ) → utf8_from k s ≡ true → utf8 (trim_from k s) ≡ true
unfolding utf8_from trim_from white_at
utf8_trim_from k [] h = refl
utf8_trim_from (suc k) (a ∷ r) h = utf8_trim_from k r h
utf8_trim_from zero (a ∷ r) h = go (char_at (a ∷ r)) h (λ k. utf8_trim_from k r)
  where
    go : (t : Option (ℕ × ℕ)) → behind_char t (λ k. utf8_from k r) ≡ true → ((k : ℕ) → utf8_from k r ≡ true → utf8 (trim_from k r) ≡ true)
        → utf8 (or_past (width_of t) (a ∷ r) (λ n. trim_from n r)) ≡ true
    go (Some (c, zero)) e ih = by_cond (λ (w : ℕ). utf8 (or_past w (a ∷ r) (λ n. trim_from n r)) ≡ true) (white c) 0 0 (λ _. h) (λ _. h)
    go (Some (c, (suc n))) e ih = by_cond (λ (w : ℕ). utf8 (or_past w (a ∷ r) (λ n. trim_from n r)) ≡ true) (white c) (suc n) 0 (λ _. ih n (let z : suc n - 1 ≡ n = omega arith in rw z at e)) (λ _. h)
    go None e ih = h

utf8_trim_end : (s : List ℕ) → utf8 s ≡ true → utf8 (trim_end s) ≡ true
utf8_trim_end s h =
    let o = trim_end_split s in
    and_left (utf8 (trim_end s)) (utf8 o.0) (sym (utf8_append (trim_end s) o.0 (blank_starts o.0 o.2)) ∙ ap utf8 (sym o.1) ∙ h)

pub utf8_trim : (s : List ℕ) → utf8 s ≡ true → utf8 (trim s) ≡ true
utf8_trim s h = utf8_trim_end (trim_start s) (utf8_trim_from 0 s h)

-- ---- a line has no line feed, nor has a part of it

abbrev pub Feedless : List ℕ → Type 0
Feedless x = Each (λ (b : ℕ). eqb b (code "\n") ≡ false) x

pub lines_feedless : (s : List ℕ) → Each Feedless (lines_of s)
unfolding lines_of Each onto
lines_feedless [] = tt
lines_feedless (a ∷ r) = by_cond (Each Feedless) (eqb a (code "\n")) ([] ∷ lines_of r) (onto a (lines_of r))
    (λ _. (tt, lines_feedless r))
    (λ e. go e (lines_of r) (lines_feedless r))
  where
    go : eqb a (code "\n") ≡ false → (xs : List (List ℕ)) → Each Feedless xs → Each Feedless (onto a xs)
    go e [] h = ((e, tt), tt)
    go e (x ∷ xs) h = ((e, h.0), h.1)

pub trim_feedless : (x : List ℕ) → Feedless x → Feedless (trim x)
trim_feedless x h = rw (trim_part x) (each_take _ (length (trim x)) (drop (length x - length (trim_start x)) x) (each_drop _ (length x - length (trim_start x)) x h))
