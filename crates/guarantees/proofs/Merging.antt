-- Two logs, one log: what is guaranteed of merging (document 02, A11). Each theorem is a few words that cite the file with the work. That a
-- call meets its contract, on every input, is `merge_promised` in `EntryPoints`.
-- Assumes nothing.
use mathlib.Core.Path.{◌≡◌}
use mathlib.Core.List.{List, ◌++◌, Permᴰ}
use mathlib.Core.Logic.{◌↔◌}
use Prim.Native.Nat.{ℕ, suc, ◌+◌, ◌≤◌, ◌<◌, ◌^◌}
use lib.Dec.{ltb}
use lib.ListN.{length, take}
use lib.Signed.{lt_z}
use Rattle.numbers.specs.Twos.{untwos}
use Rattle.sorting.specs.Order.{of_key}
use Rattle.sorting.proofs.Sorted.{sort_permutes}
use Rattle.events.specs.Answer.{line_answer}
use Rattle.logs.specs.Events.{gather, event_lines}
use Rattle.event_lines.specs.Time.{rank, time_key, fall_in}
use Rattle.merging.specs.Merge.{merged_lines, merged_text, merge_logs, MergeWhole}
use Rattle.guarantees.specs.Lines.{log_lines}
use Rattle.guarantees.specs.Merging.{Mergeable, Rises, Subsequence, ReadsAs, Stays}
use Rattle.guarantees.proofs.MergeOrder.{rank_order, lines_rise, merged_rises, merged_stable, merged_keeps}
use Rattle.guarantees.proofs.FirstFall.{first_fall}
use Rattle.guarantees.proofs.MergedLogs.{call_merged, mergeable_written, written_mergeable, merged_reads, merged_stays}
use Rattle.std.specs.Prelude.{None, Ok, Some}

-- 1. Two logs are merged where neither is refused, the times of neither fall, and the result is short enough for a log and for the output:
-- then the answer is the length of the merged text,
pub written_when : {f s : List ℕ} {m n : ℕ} → Mergeable f s m n → (room : ℕ) → length (merged_text f s) ≤ room → merge_logs f s room ≡ Ok (length (merged_text f s))
written_when {f} {s} h room fits = mergeable_written f s room h fits

-- and only then.
pub written_means : (f s : List ℕ) (room k : ℕ) → merge_logs f s room ≡ Ok k
    → (m : ℕ) × (n : ℕ) × Mergeable f s m n × (k ≡ length (merged_text f s)) × (k ≤ room)
written_means f s room k e = written_mergeable f s room k e

-- 2. Every event line of both logs stands in the result exactly once.
pub once_each : (f s : List ℕ) → Permᴰ (merged_lines f s) (event_lines f ++ event_lines s)
unfolding merged_lines
once_each f s = sort_permutes time_key (event_lines f ++ event_lines s)

-- 3. The number by which times are compared orders them as the integers that they stand for,
pub key_order : (a b : ℕ) → a < 2 ^ 64 → b < 2 ^ 64 → ltb (rank a) (rank b) ≡ lt_z (untwos a) (untwos b)
key_order = rank_order

-- so a log's times fall nowhere just where they rise as integers;
pub no_fall_iff : (s : List ℕ) → (fall_in s ≡ None) ↔ Rises (event_lines s)
no_fall_iff s = lines_rise (log_lines s)

-- where they fall, the line that is named is the first with which they do not rise;
pub falls_at : (s : List ℕ) (line : ℕ) → fall_in s ≡ Some line
    → (k : ℕ) × (line ≡ suc k) × Rises (gather line_answer (take k (log_lines s))) × (Rises (gather line_answer (take (suc k) (log_lines s))) → ⊥)
falls_at = first_fall

-- and those of the result rise, whatever the logs are.
pub times_rise : (f s : List ℕ) → Rises (merged_lines f s)
times_rise = merged_rises

-- 4. Of the lines of any one time, all of the first log come before all of the second, each log's in its own order;
pub first_first : (f s k : List ℕ) → of_key time_key k (merged_lines f s) ≡ of_key time_key k (event_lines f) ++ of_key time_key k (event_lines s)
first_first = merged_stable

-- and where the times of neither log fall, all lines of each stand in their own order.
pub own_order : (f s : List ℕ) → fall_in f ≡ None → fall_in s ≡ None → Subsequence (event_lines f) (merged_lines f s) × Subsequence (event_lines s) (merged_lines f s)
own_order = merged_keeps

-- 5. The result is a log: its lines are the merged lines, each read as its event, and it is accepted with the events of both.
pub reads_merged : {f s : List ℕ} {m n : ℕ} → Mergeable f s m n → ReadsAs (merged_text f s) (merged_lines f s) (m + n)
reads_merged = merged_reads

-- 6. Merged with an empty log, before or behind it, the result stays as it is.
pub merges_again : {f s : List ℕ} {m n : ℕ} → Mergeable f s m n → Stays (merged_text f s)
merges_again = merged_stays

-- 7. All of this holds of what a call left: where it answered that so many bytes were written, these are the merged text of logs that are
-- merged so.
pub merged_by_call : (f s k n t out : List ℕ) (count : ℕ) (k' n' t' out' : List ℕ) → MergeWhole f s k n t out (Ok count) k' n' t' out'
    → (i : ℕ) × (j : ℕ) × Mergeable f s i j × (take count out' ≡ merged_text f s)
merged_by_call = call_merged
