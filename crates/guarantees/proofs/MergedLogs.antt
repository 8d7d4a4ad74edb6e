-- What merging answers; and the merged log as a log of its own: it is read as the lines that were merged, and stays when it is merged again.
-- Assumes nothing.
use mathlib.Core.Path.{◌≡◌, refl, sym, ap, ◌∙◌}
use mathlib.Core.Bool.{Bool, true, false, cond}
use mathlib.Core.List.{List, [], ◌++◌, append-nil}
use Prim.Native.Nat.{ℕ, ◌+◌, ◌≤◌}
use native.Mathlib.Omega.{arith}
use lib.ListN.{length, take, drop, length-append}
use lib.Seq.{take_at}
use borrow.Author.Tests.{le-leb}
use Rattle.format.specs.Limits.{text_limit}
use Rattle.format.specs.Refusals.{table_too_short}
use Rattle.chars.specs.Utf8.{utf8_from}
use Rattle.sorting.specs.Order.{Each, Ascends}
use Rattle.sorting.proofs.Sorted.{sort_length, sort_fixed}
use Rattle.lines.specs.Entry.{enough}
use Rattle.logs.specs.Lines.{lines_of, marked, unmarked, walk_from, walk, behind}
use Rattle.logs.specs.Judge.{count_line, judge_log}
use Rattle.logs.specs.Events.{EventLine, gather, event_lines}
use Rattle.logs.proofs.Judging.{accepted_means}
use Rattle.event_lines.specs.Time.{time_key, fall_from, fall_in}
use Rattle.event_lines.specs.Laid.{laid, line_texts}
use Rattle.merging.specs.Merge.{of_neither, merged_lines, merged_text, merge_logs, MergeWhole}
use Rattle.event_lines.proofs.Falls.{lines_no_fall}
use Rattle.merging.proofs.Cases.{by_cases}
use Rattle.guarantees.specs.Lines.{InLimits, log_lines}
use Rattle.guarantees.specs.Merging.{Mergeable, ReadsAs, Stays}
use Rattle.guarantees.proofs.Judged.{accepted_within, log_walked}
use Rattle.guarantees.proofs.MergeOrder.{each_merged, merged_ascends}
use Rattle.guarantees.proofs.LaidLines.{Sound, log_sound, laid_encoded, laid_lines, laid_answers, laid_events, walk_counts, walk_counted}
use Rattle.std.specs.Prelude.{Err, None, Ok, Result}
use Rattle.merging.specs.declared.MergeRefusal.{MergeRefusal}

-- ---- the answer

-- bytes are written only where the tables are long enough
answer_written : (b : Bool) (r : Result ℕ MergeRefusal) (k : ℕ) → Ok k ≡ cond b r (Err (of_neither table_too_short)) → r ≡ Ok k
answer_written true r k h = sym h
answer_written false r k h = let z : ◌≡◌ {A = ℕ} 0 1 = cc in absurd (omega arith)

module _ (f s : List ℕ) (room : ℕ) where
  pub mergeable_written : {m n : ℕ} → Mergeable f s m n → length (merged_text f s) ≤ room → merge_logs f s room ≡ Ok (length (merged_text f s))
  unfolding merge_logs
  mergeable_written h fits =
      rw (h.first_accepted, h.second_accepted, h.first_rises, h.second_rises, le-leb (length (merged_text f s)) text_limit h.short, le-leb (length (merged_text f s)) room fits)

  abbrev Means : ℕ → Type 0
  Means k = (m : ℕ) × (n : ℕ) × Mergeable f s m n × (k ≡ length (merged_text f s)) × (k ≤ room)

  pub written_mergeable : (k : ℕ) → merge_logs f s room ≡ Ok k → Means k
  written_mergeable k = by_cases (λ (r : Result ℕ MergeRefusal). r ≡ Ok k → Means k) f s room (record {
    first_log_refused = λ r a h. not_written h;
    second_refused = λ r b h. not_written h;
    first_falls = λ m line a x h. not_written h;
    second_falls = λ n line b y h. not_written h;
    too_long = not_written;
    no_room = not_written;
    merged = λ m n a b x y short fits h.
        let e : length (merged_text f s) ≡ k = cc in
        (m, n, record { first_accepted = a; second_accepted = b; first_rises = x; second_rises = y; short = short }, sym e, omega (arith, fits));
  })
    where
      not_written : {r : MergeRefusal} → Err r ≡ Ok k → Means k
      not_written h = let z : ◌≡◌ {A = ℕ} 0 1 = cc in absurd (omega arith)

-- the bytes that a call wrote
pub call_merged : (f s k n t out : List ℕ) (count : ℕ) (k' n' t' out' : List ℕ) → MergeWhole f s k n t out (Ok count) k' n' t' out'
    → (i : ℕ) × (j : ℕ) × Mergeable f s i j × (take count out' ≡ merged_text f s)
call_merged f s k n t out count k' n' t' out' w =
    let a : merge_logs f s (length out) ≡ Ok count = answer_written (enough k n t) (merge_logs f s (length out)) count w.answer in
    let m = written_mergeable f s (length out) count a in
    (m.0, m.1, m.2, rw w.output (take_at (merged_text f s) (drop count out) count (sym m.3)))

-- ---- the merged log, read

-- a log's count is how many lines it gathers
events_counted : (s : List ℕ) (n : ℕ) → judge_log s ≡ Ok n → n ≡ length (event_lines s)
events_counted s n e = omega (arith, walk_counted 1 0 n (log_lines s) (accepted_means s n e).2)

module _ {f s : List ℕ} {m n : ℕ} (h : Mergeable f s m n) where
  sound : Each Sound (merged_lines f s)
  sound = each_merged Sound f s (log_sound f (accepted_within f m h.first_accepted)) (log_sound s (accepted_within s n h.second_accepted))

  count : length (merged_lines f s) ≡ m + n
  unfolding merged_lines
  count = omega (
    arith,
    sort_length time_key (event_lines f ++ event_lines s),
    length-append (event_lines f) (event_lines s),
    events_counted f m h.first_accepted,
    events_counted s n h.second_accepted,
  )

  lines : log_lines (merged_text f s) ≡ line_texts (merged_lines f s)
  unfolding merged_text
  lines = laid_lines (merged_lines f s) sound

  within : InLimits (merged_text f s)
  unfolding merged_text
  within = record { short = h.short; encoded = laid_encoded (merged_lines f s) sound }

  walked : walk count_line 0 (merged_text f s) ≡ behind (m + n)
  walked = ap (walk_from count_line 1 0) lines ∙ walk_counts 1 0 (merged_lines f s) sound ∙ ap behind (let c = count in omega arith)

  pub merged_reads : ReadsAs (merged_text f s) (merged_lines f s) (m + n)
  unfolding merged_text
  merged_reads = record {
    lines = lines;
    answers = rw lines (laid_answers (merged_lines f s) sound);
    events = laid_events (merged_lines f s) sound;
    judged = (log_walked (merged_text f s) within (m + n)).1 walked;
  }

-- ---- and merged again

no_events : event_lines [] ≡ []
unfolding gather lines_of unmarked marked
no_events = refl

empty_accepted : judge_log [] ≡ Ok 0
unfolding judge_log utf8_from walk_from lines_of unmarked marked
empty_accepted = refl

empty_rises : fall_in [] ≡ None
unfolding fall_from lines_of unmarked marked
empty_rises = refl

-- a log that ascends and is its own event lines, laid down
module _ (t : List ℕ) (n : ℕ) (accepted : judge_log t ≡ Ok n) (ascends : Ascends time_key (event_lines t)) (own : laid (line_texts (event_lines t)) ≡ t) where
  never_falls : fall_in t ≡ None
  never_falls = lines_no_fall _ ascends

  with_empty : merged_text t [] ≡ t
  unfolding merged_text merged_lines
  with_empty = rw (no_events, append-nil (event_lines t), sort_fixed time_key (event_lines t) ascends) own

  empty_with : merged_text [] t ≡ t
  unfolding merged_text merged_lines
  empty_with = rw (no_events, sort_fixed time_key (event_lines t) ascends) own

  short : length t ≤ text_limit
  short = (accepted_within t n accepted).short

  own_stays : Stays t
  own_stays = record {
    rises = never_falls;
    with_empty = with_empty;
    empty_with = empty_with;
    written = λ room fits.
        rw with_empty at (mergeable_written t [] room (record {
          first_accepted = accepted;
          second_accepted = empty_accepted;
          first_rises = never_falls;
          second_rises = empty_rises;
          short = rw with_empty short;
        }) (rw with_empty fits));
    written_second = λ room fits.
        rw empty_with at (mergeable_written [] t room (record {
          first_accepted = empty_accepted;
          second_accepted = accepted;
          first_rises = empty_rises;
          second_rises = never_falls;
          short = rw empty_with short;
        }) (rw empty_with fits));
  }

pub merged_stays : {f s : List ℕ} {m n : ℕ} → Mergeable f s m n → Stays (merged_text f s)
unfolding merged_text
merged_stays {f} {s} {m} {n} h =
    let r = merged_reads h in
    own_stays (merged_text f s) (m + n) r.judged (rw r.events (merged_ascends f s)) (ap (λ (ls : List EventLine). laid (line_texts ls)) r.events)
