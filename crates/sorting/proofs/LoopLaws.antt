-- The loop of `merge_runs`, turn by turn.
-- Assumes nothing.
use mathlib.Core.Path.{◌≡◌, refl, sym, ap, ◌∙◌}
use mathlib.Core.Bool.{Bool, true, false, ◌&&◌}
use mathlib.Core.List.{List, ◌∷◌, ◌++◌}
use Prim.Native.Nat.{ℕ, suc, ◌+◌, ◌-◌, ◌≤◌, ◌<◌}
use native.Mathlib.Numerals.{add-one}
use native.Mathlib.Omega.{arith}
use borrow.Author.Tests.{ltb-true, ltb-false}
use lib.Dec.{ltb}
use lib.ListN.{length, take, drop, get_or, set, length-set, length-take, drop_of_length-le, take-append-drop}
use lib.Seq.{drop-cons, drop-set-lt, append_snoc, get_or-take, length-take-le}
use Rattle.buffers.proofs.Appending.{snoc}
use Rattle.buffers.proofs.Choice.{and_left, and_right}
use Rattle.sorting.specs.Order.{precedes}
use Rattle.sorting.specs.Merge.{into, merge_by, merged_part}
use Rattle.sorting.proofs.MergeLaws.{merge_left, merge_right}
use Rattle.sorting.proofs.PartLaws.{part_rest}

-- the table so far: what is written, then the merge of what is left of both runs, then the rest; the gap between what is written
-- and what is to be read of the second run is as long as what is left of the first
pub record Merging (key : ℕ → List ℕ) (spare : List ℕ) (h end : ℕ) (goal order : List ℕ) (at i right : ℕ) : Type 0 where
  pub left_in : i ≤ h
  pub right_in : right ≤ end
  pub gap : at + h ≡ right + i
  pub room : end ≤ length order
  pub stands : take at order ++ (merge_by key (drop i (take h spare)) (take (end - right) (drop right order)) ++ drop end order) ≡ goal

pub merging_start : (key : ℕ → List ℕ) (spare order : List ℕ) (from h m : ℕ) → from + h + m ≤ length order
    → Merging key spare h (from + h + m) (merged_part key (take h spare) from h m order) order from 0 (from + h)
unfolding merged_part
merging_start key spare order from h m f =
    let e : from + h + m - (from + h) ≡ m = omega arith in
    record { left_in = omega arith; right_in = omega arith; gap = omega arith; room = f; stands = rw e }

module _ (key : ℕ → List ℕ) (spare : List ℕ) (h end : ℕ) (goal order : List ℕ) (at i right : ℕ) (s : Merging key spare h end goal order at i right) where
  -- one more is written, where the merge starts with it
  stored : (v : ℕ) (m : List ℕ) → i < h → merge_by key (drop i (take h spare)) (take (end - right) (drop right order)) ≡ v ∷ m
      → take (at + 1) (set order at v) ++ (m ++ drop end (set order at v)) ≡ goal
  stored v m l e =
      rw (snoc at order v (omega (arith, s.gap, s.right_in, s.room)), drop-set-lt end order at v (omega (arith, s.gap, s.right_in)))
      (append_snoc (take at order) v (m ++ drop end order) ∙ ap (λ (r : List ℕ). take at order ++ (r ++ drop end order)) (sym e) ∙ s.stands)

  module _ (fits : h ≤ length spare) (more : i < h) where
    abbrev left : ℕ
    left = get_or spare i 0

    lefts : drop i (take h spare) ≡ left ∷ drop (i + 1) (take h spare)
    lefts = rw add-one (drop-cons (take h spare) i 0 (omega (arith, length-take-le h spare fits)) ∙ ap (λ (v : ℕ). v ∷ drop (suc i) (take h spare)) (get_or-take h spare i 0 more))

    rights : right < end → take (end - right) (drop right order) ≡ get_or order right 0 ∷ take (end - (right + 1)) (drop (right + 1) order)
    rights l =
        let e : end - right ≡ suc (end - (right + 1)) = omega arith in
        rw (e, drop-cons order right 0 (omega (arith, s.room)), add-one right)

    module _ (r : Bool) (test : r ≡ (ltb right end && precedes (key (get_or order right 0)) (key left))) where
      pub right_more : r ≡ true → right < end
      right_more t = ltb-true right end (and_left (ltb right end) (precedes (key (get_or order right 0)) (key left)) (sym test ∙ t))

      pub merging_right : r ≡ true → Merging key spare h end goal (set order at (get_or order right 0)) (at + 1) i (right + 1)
      merging_right t =
          let v : ℕ = get_or order right 0 in
          let l : right < end = right_more t in
          let q = and_right (ltb right end) (precedes (key v) (key left)) (sym test ∙ t) in
          let rest : List ℕ = take (end - (right + 1)) (drop (right + 1) order) in
          record {
            left_in = s.left_in;
            right_in = omega arith;
            gap = omega (arith, s.gap);
            room = simp length-set s.room;
            stands = rw (drop-set-lt (right + 1) order at v (omega (arith, s.gap)))
                (stored v (merge_by key (drop i (take h spare)) rest) more (rw (rights l, lefts) (merge_right key left v (drop (i + 1) (take h spare)) rest q)));
          }

      left_first : r ≡ false → merge_by key (drop i (take h spare)) (take (end - right) (drop right order))
          ≡ left ∷ merge_by key (drop (i + 1) (take h spare)) (take (end - right) (drop right order))
      unfolding merge_by into
      left_first t = go (ltb right end) refl
        where
          go : (b : Bool) → ltb right end ≡ b → merge_by key (drop i (take h spare)) (take (end - right) (drop right order))
              ≡ left ∷ merge_by key (drop (i + 1) (take h spare)) (take (end - right) (drop right order))
          go false e =
              let n : end - right ≡ 0 = omega (arith, ltb-false right end e) in
              rw (n, lefts)
          go true e =
              let l : right < end = ltb-true right end e in
              let q : precedes (key (get_or order right 0)) (key left) ≡ false = ap (λ (b : Bool). b && precedes (key (get_or order right 0)) (key left)) (sym e) ∙ sym test ∙ t in
              rw (rights l, lefts) (merge_left key left (get_or order right 0) (drop (i + 1) (take h spare)) (take (end - (right + 1)) (drop (right + 1) order)) q)

      pub merging_left : r ≡ false → Merging key spare h end goal (set order at left) (at + 1) (i + 1) right
      merging_left t = record {
        left_in = omega arith;
        right_in = s.right_in;
        gap = omega (arith, s.gap);
        room = simp length-set s.room;
        stands = rw (drop-set-lt right order at left (omega (arith, s.gap)))
            (stored left (merge_by key (drop (i + 1) (take h spare)) (take (end - right) (drop right order))) more (left_first t));
      }

  pub merging_end : h ≤ i → order ≡ goal
  unfolding merge_by
  merging_end l =
      let a : right ≡ at = omega (arith, s.gap, s.left_in) in
      let e : at + (end - at) ≡ end = omega (arith, s.right_in) in
      let behind : take (end - at) (drop at order) ++ drop end order ≡ drop at order = ap (λ (k : ℕ). take (end - at) (drop at order) ++ drop k order) (sym e) ∙ part_rest at (end - at) order in
      sym (take-append-drop at order) ∙ ap (λ (l : List ℕ). take at order ++ l) (sym behind)
      ∙ (rw (a, drop_of_length-le (take h spare) {i = i} (omega (arith, length-take h spare))) at s.stands)
