-- A table in four parts, of which the two in the middle are sorted, one after the other, and then merged.
-- Assumes nothing.
use mathlib.Core.Path.{◌≡◌, refl, sym, ap, ◌∙◌}
use mathlib.Core.Bool.{Bool, false}
use mathlib.Core.List.{List, [], ◌∷◌, ◌++◌, append_assoc}
use Prim.Native.Nat.{ℕ, ◌+◌, ◌-◌, ◌≤◌, ◌<◌}
use native.Mathlib.Omega.{arith}
use lib.ListN.{length, take, drop, get_or, length-append, length-drop, length-take, take-append-drop, get_or-append}
use lib.Seq.{take_at, drop_at, drop-drop, take-add, length-take-le, get_or-append-add}
use Rattle.buffers.proofs.Appending.{length_part}
use Rattle.sorting.specs.Order.{precedes, insert_by, sort_by}
use Rattle.sorting.specs.Places.{sorted_part}
use Rattle.sorting.specs.Merge.{merge_by, merged_part}
use Rattle.sorting.proofs.Sorted.{sort_length, sort_ascends}
use Rattle.sorting.proofs.MergeLaws.{merge_sorted, merge_in_order}

-- a part, and what stands behind it
pub part_rest : (a n : ℕ) (l : List ℕ) → take n (drop a l) ++ drop (a + n) l ≡ drop a l
part_rest a n l = rw (← drop-drop n a l) (take-append-drop n (drop a l))

-- a run that was saved
pub saved : (l spare : List ℕ) (from h : ℕ) → from + h ≤ length l
    → take (length (take (from + h - from) (drop from l))) spare ≡ take (from + h - from) (drop from l) → take h spare ≡ take h (drop from l)
saved l spare from h f s =
    let e : from + h - from ≡ h = omega arith in
    rw (e, length_part from h l f) at s

module _ (key : ℕ → List ℕ) where
  part_sorted : (p x z : List ℕ) (from n : ℕ) → length p ≡ from → length x ≡ n → sorted_part key from n (p ++ (x ++ z)) ≡ p ++ (sort_by key x ++ z)
  unfolding sorted_part
  part_sorted p x z from n lp lx =
      rw (take_at p (x ++ z) from lp, ← drop-drop n from (p ++ (x ++ z)), drop_at p (x ++ z) from lp, take_at x z n lx, drop_at x z n lx)

  part_merged : (run p x y z : List ℕ) (from h m : ℕ) → length p ≡ from → length x ≡ h → length y ≡ m
      → merged_part key run from h m (p ++ (x ++ (y ++ z))) ≡ p ++ (merge_by key run y ++ z)
  unfolding merged_part
  part_merged run p x y z from h m lp lx ly =
      let o : List ℕ = p ++ (x ++ (y ++ z)) in
      rw (take_at p (x ++ (y ++ z)) from lp, ← drop-drop m (from + h) o, ← drop-drop h from o, drop_at p (x ++ (y ++ z)) from lp, drop_at x (y ++ z) h lx, take_at y z m ly, drop_at y z m ly)

  sort_short : (xs : List ℕ) → length xs < 2 → sort_by key xs ≡ xs
  unfolding sort_by insert_by
  sort_short [] h = refl
  sort_short (x ∷ []) h = refl
  sort_short (x ∷ y ∷ xs) h = absurd (omega arith)

  -- one place, or none, is sorted
  pub sorted_short : (o : List ℕ) (from n : ℕ) → n < 2 → o ≡ sorted_part key from n o
  unfolding sorted_part
  sorted_short o from n h =
      sym (rw (sort_short (take n (drop from o)) (omega (arith, length-take n (drop from o))), part_rest from n o) (take-append-drop from o))

  -- the parts of o: the first `from`, then h, then m, then the rest
  module _ (o : List ℕ) (from h m : ℕ) (fits : from + h + m ≤ length o) where
    abbrev p : List ℕ
    p = take from o

    abbrev x : List ℕ
    x = take h (drop from o)

    abbrev y : List ℕ
    y = take m (drop (from + h) o)

    abbrev z : List ℕ
    z = drop (from + h + m) o

    p_length : length p ≡ from
    p_length = length-take-le from o (omega arith)

    x_length : length x ≡ h
    x_length = length-take-le h (drop from o) (omega (arith, length-drop from o))

    y_length : length y ≡ m
    y_length = length-take-le m (drop (from + h) o) (omega (arith, length-drop (from + h) o))

    cut : o ≡ p ++ (x ++ (y ++ z))
    cut = sym (rw (part_rest (from + h) m o, part_rest from h o) (take-append-drop from o))

    -- both halves are sorted
    halves : sorted_part key (from + h) m (sorted_part key from h o) ≡ p ++ (sort_by key x ++ (sort_by key y ++ z))
    halves =
        ap (λ (l : List ℕ). sorted_part key (from + h) m (sorted_part key from h l)) cut
        ∙ ap (sorted_part key (from + h) m) (part_sorted p x (y ++ z) from h p_length x_length ∙ sym (append_assoc p (sort_by key x) (y ++ z)))
        ∙ part_sorted (p ++ sort_by key x) y z (from + h) m (omega (arith, length-append p (sort_by key x), sort_length key x, p_length, x_length)) y_length
        ∙ append_assoc p (sort_by key x) (sort_by key y ++ z)

    whole : sorted_part key from (h + m) o ≡ p ++ (sort_by key (x ++ y) ++ z)
    unfolding sorted_part
    whole = let e : from + (h + m) ≡ from + h + m = omega arith in rw (e, take-add h m (drop from o), drop-drop h from o)

    module _ (n : ℕ) (split : n ≡ h + m) (o₁ o₂ : List ℕ) (e₁ : o₁ ≡ sorted_part key from h o) (e₂ : o₂ ≡ sorted_part key (from + h) m o₁) where
      halves_in : o₂ ≡ p ++ (sort_by key x ++ (sort_by key y ++ z))
      halves_in = e₂ ∙ ap (sorted_part key (from + h) m) e₁ ∙ halves

      -- the first of them is the run that is merged
      pub merged_halves : (o₃ run : List ℕ) → run ≡ take h (drop from o₂) → o₃ ≡ merged_part key run from h m o₂ → o₃ ≡ sorted_part key from n o
      merged_halves o₃ run f g =
          let r : run ≡ sort_by key x = f ∙ rw (halves_in, drop_at p (sort_by key x ++ (sort_by key y ++ z)) from p_length) (take_at (sort_by key x) (sort_by key y ++ z) h (sort_length key x ∙ x_length)) in
          g ∙ rw (halves_in, r, split) (part_merged (sort_by key x) p (sort_by key x) (sort_by key y) z from h m p_length (sort_length key x ∙ x_length) (sort_length key y ∙ y_length)
          ∙ ap (λ (l : List ℕ). p ++ (l ++ z)) (merge_sorted key x y) ∙ sym whole)

      -- halves that stand in order already
      pub halves_in_order : 0 < h → 0 < m → (r : Bool) → r ≡ precedes (key (get_or o₂ (from + h) 0)) (key (get_or o₂ (from + h - 1) 0)) → r ≡ false → o₂ ≡ sorted_part key from n o
      halves_in_order hh hm r test t =
          let first : get_or o₂ (from + h) 0 ≡ get_or (sort_by key y) 0 0 = first_right in
          let last : get_or o₂ (from + h - 1) 0 ≡ get_or (sort_by key x) (h - 1) 0 = last_left in
          let apart : merge_by key (sort_by key x) (sort_by key y) ≡ sort_by key x ++ sort_by key y =
          merge_in_order key (sort_by key x) (sort_by key y) 0 (h - 1) (m - 1) (omega (arith, sort_length key x, x_length)) (omega (arith, sort_length key y, y_length)) (sort_ascends key x) (rw (← first, ← last) (sym test ∙ t)) in
          halves_in ∙ rw split (sym (whole ∙ ap (λ (l : List ℕ). p ++ (l ++ z)) (sym (merge_sorted key x y) ∙ apart) ∙ ap (λ (l : List ℕ). p ++ l) (append_assoc (sort_by key x) (sort_by key y) z)))
        where
          first_right : get_or o₂ (from + h) 0 ≡ get_or (sort_by key y) 0 0
          first_right =
              let i : from + h ≡ length p + (length (sort_by key x) + 0) = omega (arith, p_length, x_length, sort_length key x) in
              ap (λ (l : List ℕ). get_or l (from + h) 0) halves_in
              ∙ ap (λ (k : ℕ). get_or (p ++ (sort_by key x ++ (sort_by key y ++ z))) k 0) i
              ∙ get_or-append-add p (sort_by key x ++ (sort_by key y ++ z)) (length (sort_by key x) + 0) 0
              ∙ get_or-append-add (sort_by key x) (sort_by key y ++ z) 0 0
              ∙ get_or-append (sort_by key y) z 0 0 (omega (arith, sort_length key y, y_length))

          last_left : get_or o₂ (from + h - 1) 0 ≡ get_or (sort_by key x) (h - 1) 0
          last_left =
              let i : from + h - 1 ≡ length p + (h - 1) = omega (arith, p_length) in
              ap (λ (l : List ℕ). get_or l (from + h - 1) 0) halves_in
              ∙ ap (λ (k : ℕ). get_or (p ++ (sort_by key x ++ (sort_by key y ++ z))) k 0) i
              ∙ get_or-append-add p (sort_by key x ++ (sort_by key y ++ z)) (h - 1) 0
              ∙ get_or-append (sort_by key x) (sort_by key y ++ z) 0 (h - 1) (omega (arith, sort_length key x, x_length))
