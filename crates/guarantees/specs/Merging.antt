-- The words of "two logs, one log": which logs are merged, times that rise, lines that keep their order, and what a merged log reads as.
-- Total on all lists.
-- Assumes nothing.
use Rattle.std.specs.Prelude.{◌≡◌, ℕ, ◌≤◌, ℤ, length, ◌≤ℤ◌}
use mathlib.Core.List.{List, [], ◌∷◌, map, Sublistᴰ}
use Rattle.format.specs.Limits.{text_limit}
use Rattle.numbers.specs.Twos.{untwos}
use Rattle.sorting.specs.Order.{Each}
use Rattle.events.specs.Answer.{event, read_line}
use Rattle.logs.specs.Judge.{judge_log}
use Rattle.logs.specs.Events.{EventLine, event_lines}
use Rattle.event_lines.specs.Time.{fall_in}
use Rattle.event_lines.specs.Laid.{line_texts}
use Rattle.merging.specs.Merge.{merged_text, merge_logs}
use Rattle.guarantees.specs.Lines.{log_lines}
use Rattle.std.specs.Prelude.{None, Ok}

-- both logs are accepted, with m and n events, the times of neither fall, and the result is no longer than a log may be
pub record Mergeable (first second : List ℕ) (m n : ℕ) : Type 0 where
  pub first_accepted : judge_log first ≡ Ok m
  pub second_accepted : judge_log second ≡ Ok n
  pub first_rises : fall_in first ≡ None
  pub second_rises : fall_in second ≡ None
  pub short : length (merged_text first second) ≤ text_limit

-- the time of an event line, as the integer that it stands for
abbrev pub signed_time : EventLine → ℤ
signed_time l = untwos l.event.time

-- no time is above a later one
unfoldable pub Rises : List EventLine → Type 0
Rises [] = Unit
Rises (l ∷ ls) = Each (λ (later : EventLine). signed_time l ≤ℤ signed_time later) ls × Rises ls

-- xs is ys with some of its elements left out, or none
abbrev pub Subsequence : {A : Type 0} → List A → List A → Type 0
Subsequence xs ys = Sublistᴰ xs ys

-- the lines of a log are those of ls, none blank and none refused; each, read alone, answers its event; and the log is accepted with n events
pub record ReadsAs (s : List ℕ) (ls : List EventLine) (n : ℕ) : Type 0 where
  pub lines : log_lines s ≡ line_texts ls
  pub answers : map read_line (log_lines s) ≡ map (λ (l : EventLine). event l.event) ls
  pub events : event_lines s ≡ ls
  pub judged : judge_log s ≡ Ok n

-- a log that merging leaves as it is: its times do not fall, and merged with the empty log it gives its own bytes, in any output that holds them
pub record Stays (s : List ℕ) : Type 0 where
  pub rises : fall_in s ≡ None
  pub with_empty : merged_text s [] ≡ s
  pub empty_with : merged_text [] s ≡ s
  pub written : (room : ℕ) → length s ≤ room → merge_logs s [] room ≡ Ok (length s)
  pub written_second : (room : ℕ) → length s ≤ room → merge_logs [] s room ≡ Ok (length s)
