-- The order of a merged log's lines. Ranks compare as the integers do that the times stand for; and two logs whose times do not fall are
-- merged as two runs, in which each keeps its order.
-- Assumes nothing.
use mathlib.Core.Path.{◌≡◌, refl, sym, subst, ◌∙◌}
use mathlib.Core.Bool.{Bool, true, false, not}
use mathlib.Core.List.Permᴰ
use mathlib.Core.List.{List, [], ◌∷◌, ◌++◌}
use mathlib.Core.Logic.{◌↔◌}
use Prim.Native.Nat.{ℕ, suc, ◌-◌, ◌≤◌, ◌<◌, ◌^◌}
use native.Mathlib.Omega.{arith}
use lib.Dec.{T, ltb}
use lib.Signed.{lt_z, ◌≤ℤ◌, lt_z_yes, lt_z_no, clash_ℤ}
use borrow.Author.Tests.{ltb-true, ltb-false, lt-ltb, le-ltb}
use Rattle.std.specs.Prelude.{None}
use Rattle.numbers.specs.Twos.{untwos}
use Rattle.sorting.specs.Order.{precedes, Each, Ascends, of_key}
use Rattle.sorting.specs.Merge.{merge_by}
use Rattle.sorting.proofs.EachLaws.{each_both, each_append, each_permuted}
use Rattle.sorting.proofs.Sorted.{sort_permutes, sort_ascends, sort_fixed, of_key_append, sort_stable}
use Rattle.sorting.proofs.MergeLaws.{merge_sorted, merge_keeps}
use Rattle.events.specs.Answer.{Answer, event, blank, refused, line_answer}
use Rattle.events.proofs.Answers.{time_small}
use Rattle.logs.specs.Events.{EventLine, gathered, gather, event_lines}
use Rattle.event_lines.specs.Time.{rank, time_key, fall_from, fall_in}
use Rattle.merging.specs.Merge.{merged_lines}
use Rattle.event_lines.proofs.Falls.{precedes_one, lines_ascend, lines_no_fall}
use Rattle.guarantees.specs.Merging.{signed_time, Rises, Subsequence}

-- ---- ranks and integers

same_test : (a b c d : ℕ) → (a < b → c < d) → (b ≤ a → d ≤ c) → ltb a b ≡ ltb c d
same_test a b c d f g = go (ltb a b) refl
  where
    go : (t : Bool) → ltb a b ≡ t → t ≡ ltb c d
    go true e = sym (lt-ltb c d (f (ltb-true a b e)))
    go false e = sym (le-ltb c d (g (ltb-false a b e)))

module _ (a b : ℕ) (small-a : a < 2 ^ 64) (small_b : b < 2 ^ 64) where
  pub rank_order : ltb (rank a) (rank b) ≡ lt_z (untwos a) (untwos b)
  rank_order = go (ltb a (2 ^ 63)) refl (ltb b (2 ^ 63)) refl
    where
      go : (s : Bool) → ltb a (2 ^ 63) ≡ s → (t : Bool) → ltb b (2 ^ 63) ≡ t → ltb (rank a) (rank b) ≡ lt_z (untwos a) (untwos b)
      go true p true q =
          let x = ltb-true a (2 ^ 63) p in
          let y = ltb-true b (2 ^ 63) q in
          rw (p, q) (same_test (rank a) (rank b) a b (λ h. omega arith) (λ h. omega arith))
      go true p false q =
          let x = ltb-true a (2 ^ 63) p in
          let y = ltb-false b (2 ^ 63) q in
          rw (p, q) (le-ltb (rank a) (rank b) (omega arith))
      go false p true q =
          let x = ltb-false a (2 ^ 63) p in
          let y = ltb-true b (2 ^ 63) q in
          rw (p, q) (lt-ltb (rank a) (rank b) (omega arith))
      go false p false q =
          let x = ltb-false a (2 ^ 63) p in
          let y = ltb-false b (2 ^ 63) q in
          rw (p, q) (same_test (rank a) (rank b) (2 ^ 64 - suc b) (2 ^ 64 - suc a) (λ h. omega arith) (λ h. omega arith))

-- ---- what holds of each line of both logs holds of each merged line

pub each_merged : (P : EventLine → Type 0) (f s : List ℕ) → Each P (event_lines f) → Each P (event_lines s) → Each P (merged_lines f s)
unfolding merged_lines
each_merged P f s g h = each_permuted P (Permᴰ.symm (sort_permutes time_key (event_lines f ++ event_lines s))) (each_append P (event_lines f) (event_lines s) g h)

-- ---- the times rise

abbrev SmallRank : EventLine → Type 0
SmallRank l = l.event.time < 2 ^ 64

gathered_small : (xs : List (List ℕ)) → Each SmallRank (gather line_answer xs)
unfolding gather Each
gathered_small [] = tt
gathered_small (x ∷ xs) = go (line_answer x) refl (gathered_small xs)
  where
    go : (a : Answer) → line_answer x ≡ a → Each SmallRank (gather line_answer xs) → Each SmallRank (gathered x a (gather line_answer xs))
    go (event e) h rest = (time_small x e h, rest)
    go blank h rest = rest
    go (refused n) h rest = rest

-- of two lines, the later one's key does not come first just where its time is not below
module _ (l k : EventLine) (small-l : SmallRank l) (small-k : SmallRank k) where
  keys_order : precedes (time_key k) (time_key l) ≡ lt_z (signed_time k) (signed_time l)
  keys_order = precedes_one _ _ ∙ rank_order k.event.time l.event.time small-k small-l

  not_above : precedes (time_key k) (time_key l) ≡ false → signed_time l ≤ℤ signed_time k
  not_above e = lt_z_no (subst (λ (t : Bool). T (not t)) (sym e ∙ keys_order) tt)

  not_first : signed_time l ≤ℤ signed_time k → precedes (time_key k) (time_key l) ≡ false
  not_first h = keys_order ∙ go (lt_z (signed_time k) (signed_time l)) refl
    where
      go : (t : Bool) → lt_z (signed_time k) (signed_time l) ≡ t → t ≡ false
      go true e = clash_ℤ (lt_z_yes {a = signed_time k} {b = signed_time l} (subst T (sym e) tt)) h
      go false e = refl

ascends_rises : (ls : List EventLine) → Each SmallRank ls → Ascends time_key ls → Rises ls
unfolding Each Ascends Rises
ascends_rises [] small h = tt
ascends_rises (l ∷ ls) small h = (each_both SmallRank _ _ (λ k s. not_above l k small.0 s) ls small.1 h.0, ascends_rises ls small.1 h.1)

rises_ascends : (ls : List EventLine) → Each SmallRank ls → Rises ls → Ascends time_key ls
unfolding Each Ascends Rises
rises_ascends [] small h = tt
rises_ascends (l ∷ ls) small h = (each_both SmallRank _ _ (λ k s. not_first l k small.0 s) ls small.1 h.0, rises_ascends ls small.1 h.1)

-- of lines that are read one after the other, no time falls just where they rise
pub lines_rise : (xs : List (List ℕ)) → (fall_from 1 0 xs ≡ None) ↔ Rises (gather line_answer xs)
lines_rise xs = (
  (λ h. ascends_rises (gather line_answer xs) (gathered_small xs) (lines_ascend xs h)),
  (λ h. lines_no_fall xs (rises_ascends (gather line_answer xs) (gathered_small xs) h)),
)

pub merged_ascends : (f s : List ℕ) → Ascends time_key (merged_lines f s)
unfolding merged_lines
merged_ascends f s = sort_ascends time_key (event_lines f ++ event_lines s)

pub merged_rises : (f s : List ℕ) → Rises (merged_lines f s)
merged_rises f s = ascends_rises (merged_lines f s) (each_merged SmallRank f s (gathered_small _) (gathered_small _)) (merged_ascends f s)

-- ---- the first log's lines first

module _ (f s : List ℕ) where
  pub merged_stable : (k : List ℕ) → of_key time_key k (merged_lines f s) ≡ of_key time_key k (event_lines f) ++ of_key time_key k (event_lines s)
  unfolding merged_lines
  merged_stable k = sort_stable time_key k (event_lines f ++ event_lines s) ∙ of_key_append time_key k (event_lines f) (event_lines s)

  module _ (g : fall_in f ≡ None) (h : fall_in s ≡ None) where
    merged_runs : merged_lines f s ≡ merge_by time_key (event_lines f) (event_lines s)
    unfolding merged_lines
    merged_runs = rw (sort_fixed time_key (event_lines f) (lines_ascend _ g), sort_fixed time_key (event_lines s) (lines_ascend _ h)) at (sym (merge_sorted time_key (event_lines f) (event_lines s)))

    pub merged_keeps : Subsequence (event_lines f) (merged_lines f s) × Subsequence (event_lines s) (merged_lines f s)
    merged_keeps = rw merged_runs (merge_keeps time_key (event_lines f) (event_lines s))
