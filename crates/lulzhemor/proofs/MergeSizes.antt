-- What merging answers is small: a merged log's bytes, a refusal's log and line, so that its number can be taken apart.
-- Assumes nothing.
use mathlib.Core.Path.{◌≡◌, subst}
use mathlib.Core.List.{List, [], ◌∷◌}
use Prim.Native.Nat.{ℕ, suc, ◌+◌, ◌≤◌, ◌<◌, ◌^◌}
use native.Mathlib.Omega.{arith}
use lib.Dec.{ltb}
use lib.ListN.{length}
use Rattle.buffers.proofs.Choice.{both_arms}
use Rattle.format.specs.Limits.{text_limit}
use Rattle.events.specs.Answer.{Answer, event, blank, line_answer}
use Rattle.lines.specs.Entry.{enough}
use Rattle.logs.specs.Lines.{lines_of, unmarked}
use Rattle.logs.proofs.Judging.{accepted_means}
use Rattle.event_lines.specs.Time.{rank, fall_at, fall_from, fall_in}
use Rattle.merging.specs.Merge.{merge_logs, merge_answer}
use Rattle.merging.proofs.Cases.{by_cases}
use Rattle.lulzhemor.specs.Answer.{refused_from, of_merged}
use Rattle.lulzhemor.proofs.Sizes.{SmallJudged, log_lines_few, judge_log_small}
use Rattle.std.specs.Prelude.{Err, None, Ok, Option, Result, Some}
use Rattle.format.specs.declared.Refusal.{Refusal}
use Rattle.format.proofs.Numbers.{number_same, number_small}
use Rattle.merging.specs.declared.MergeRefusal.{MergeRefusal}

abbrev pub SmallMerged : Result ℕ MergeRefusal → Type 0
SmallMerged (Ok n) = n ≤ text_limit
SmallMerged (Err refusal) = (refusal.log ≤ 2) × (refusal.line ≤ text_limit + 1)

-- a line that is found, if one is, is at most m
abbrev Few : ℕ → Option ℕ → Type 0
Few m None = Unit {0}
Few m (Some line) = line ≤ m

fall_at_few : (m line last : ℕ) (a : Answer) (next : ℕ → Option ℕ) → line ≤ m → ((r : ℕ) → Few m (next r)) → Few m (fall_at line last a next)
fall_at_few m line last (event e) next h i = both_arms (Few m) (ltb (rank e.time) last) h (i (rank e.time))
fall_at_few m line last blank next h i = i last
fall_at_few m line last (Answer.refused n) next h i = i last

-- a fall is met at one of the lines
fall_few : (m line last : ℕ) (l : List (List ℕ)) → line + length l ≤ m → Few m (fall_from line last l)
unfolding fall_from
fall_few m line last [] h = tt
fall_few m line last (x ∷ xs) h = fall_at_few m line last (line_answer x) (λ r. fall_from (suc line) r xs) (omega (arith, h)) (λ r. fall_few m (suc line) r xs (omega (arith, h)))

log_falls : (s : List ℕ) → length s ≤ text_limit → Few (text_limit + 1) (fall_in s)
log_falls s l = fall_few (text_limit + 1) 1 0 (lines_of (unmarked s)) (omega (arith, log_lines_few s l))

merge_logs_small : (first second : List ℕ) (room : ℕ) → SmallMerged (merge_logs first second room)
merge_logs_small first second room = by_cases SmallMerged first second room (record {
  first_log_refused = λ r e. (omega arith, subst SmallJudged e (judge_log_small first));
  second_refused = λ r e. (omega arith, subst SmallJudged e (judge_log_small second));
  first_falls = λ m line a h. (omega arith, subst (Few (text_limit + 1)) h (log_falls first (accepted_means first m a).0));
  second_falls = λ n line b h. (omega arith, subst (Few (text_limit + 1)) h (log_falls second (accepted_means second n b).0));
  too_long = (omega arith, omega arith);
  no_room = (omega arith, omega arith);
  merged = λ m n a b x y short fits. short;
})

pub merge_small : (first second k n t out : List ℕ) → SmallMerged (merge_answer first second k n t out)
merge_small first second k n t out = both_arms SmallMerged (enough k n t) (merge_logs_small first second (length out)) (omega arith, omega arith)

pub merge_refusal_small : (first second k n t out : List ℕ) {refusal : MergeRefusal} → merge_answer first second k n t out ≡ Err refusal → (refusal.log ≤ 2) × (refusal.line ≤ text_limit + 1)
merge_refusal_small first second k n t out e = subst SmallMerged e (merge_small first second k n t out)

-- ---- its number

-- a refusal, its log and its line
pub merge_refusal_apart : (e f : Refusal) (log line other place : ℕ) → line < 2 ^ 18 → place < 2 ^ 18
    → of_merged (Err (record { refusal = e; log = log; line = line })) ≡ of_merged (Err (record { refusal = f; log = other; line = place })) → (e ≡ f) × (log ≡ other) × (line ≡ place)
merge_refusal_apart e f log line other place i j h =
    let a = number_small e in
    let b = number_small f in (number_same e f (omega (arith, a, b, h)), omega (arith, a, b, i, j, h), omega (arith, a, b, i, j, h))

-- no merged log is as large as a refusal
pub merge_below : (first second k n t out : List ℕ) (count : ℕ) → merge_answer first second k n t out ≡ Ok count → of_merged (Ok count) < refused_from
merge_below first second k n t out count e = omega (arith, subst SmallMerged e (merge_small first second k n t out))
