-- What reading a line is, and that judging a log and reading its lines agree, line by line. Each theorem is a few words that cite the file
-- with the work.
-- Assumes nothing.
use mathlib.Core.Path.{◌≡◌, sym}
use mathlib.Core.Bool.{false}
use mathlib.Core.List.{List}
use mathlib.Core.Logic.{◌↔◌}
use Prim.Native.Nat.{ℕ, ◌≤◌, ◌<◌}
use lib.ListN.{length}
use borrow.Author.Tests.{le-leb, lt-leb}
use Rattle.format.specs.declared.Refusal.{Refusal}
use Rattle.format.specs.Limits.{text_limit}
use Rattle.format.specs.Refusals.{text_too_long, not_utf8}
use Rattle.format.specs.declared.Reach.{Reach}
use Rattle.chars.specs.Utf8.{utf8}
use Rattle.chars.specs.White.{trim}
use Rattle.pack.specs.Pack.{Pack}
use Rattle.format.specs.Outcome.{ok}
use Rattle.events.specs.Event.{Event}
use Rattle.events.specs.Line.{parse_line}
use Rattle.events.specs.Answer.{line_answer, read_line}
use Rattle.logs.specs.Judge.{of_text, judge_log}
use Rattle.logs.proofs.Judging
use Rattle.guarantees.specs.Keys.{tables_of}
use Rattle.guarantees.specs.Calls.{ReadInto}
use Rattle.guarantees.specs.Lines.{InLimits, log_lines, line_numbered, EachReadOrBlank, events_in, FirstRefused}
use Rattle.guarantees.proofs.LineTexts.{line_within, read_within}
use Rattle.guarantees.proofs.Left.{read_accepted, event_read, event_left_tables}
use Rattle.guarantees.proofs.Judged.{log_accepted, log_stopped}
use Rattle.std.specs.Prelude.{Err, Ok, Some}

-- 1. A call of `read_line` that answers with an event: the trimmed line is read as that event by the rules (`parse_line`, written from
-- document 01), and the tables that the call left begin with the event's pack.
pub line_read : {s : List ℕ} {p q : Pack} {f : Reach} → ReadInto s p (Ok (Some f)) q → (e : Event) × (parse_line (trim s) ≡ ok e) × (rest : Pack) × (q ≡ tables_of e rest)
line_read {s} w = let h = event_read w in let t = event_left_tables w h.1 in (h.0, (read_accepted s h.1).read, t.0, t.1)

-- 2. A line of a log within the limits is itself within them, so reading it alone answers what it gives in its log.
pub line_alone : (s : List ℕ) → InLimits s → (line : ℕ) → read_line (line_numbered line (log_lines s)) ≡ line_answer (line_numbered line (log_lines s))
line_alone s w line = read_within _ (line_within s w _)

-- 3. A log is accepted exactly when it is within the limits and each of its lines, read alone, is blank or read. Its count is the number of
-- lines read.
pub accepted_iff : (s : List ℕ) (n : ℕ) → (judge_log s ≡ Ok n) ↔ (InLimits s × EachReadOrBlank (log_lines s) × (n ≡ events_in (log_lines s)))
accepted_iff = log_accepted

-- 4. Within the limits a log is refused exactly when one of its lines is. Its refusal is that of the first line refused, and its line is that
-- line's number.
pub refused_iff : (s : List ℕ) → InLimits s → (x : Refusal) (line : ℕ) → (judge_log s ≡ Err (record { refusal = x; line = line })) ↔ FirstRefused (log_lines s) line x
refused_iff = log_stopped

-- 5. Past the limits a log is refused as a whole, with line 0, whatever its lines are: first for its length,
pub too_long : (s : List ℕ) → text_limit < length s → judge_log s ≡ Err (of_text text_too_long)
too_long s h = sym (Judging.judge_too_long s (lt-leb (length s) text_limit h))

-- and then for its UTF-8.
pub text_not_utf8 : (s : List ℕ) → length s ≤ text_limit → utf8 s ≡ false → judge_log s ≡ Err (of_text not_utf8)
text_not_utf8 s h u = sym (Judging.judge_not_utf8 s (le-leb (length s) text_limit h) u)
