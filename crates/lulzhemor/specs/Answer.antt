-- How an answer passes to C: as one number. A refusal is 2^32 and its number, and in a log that is judged or merged
-- 256 times its line more, and of two logs 2^26 times the log more; a success is less: the count of what was written or of events, or 1
-- where a line has an event or entities JSON was read, and the sizes of the pack stand in a lent array. A blank line is 0.
-- Assumes nothing.
use Rattle.std.specs.Prelude.{cond, List, [], ◌∷◌, ℕ, ◌+◌, ◌*◌, ◌^◌, length}
use Rattle.format.specs.Refusals.{number, table_too_short}
use Rattle.events.specs.Answer.{read_line}
use Rattle.lines.specs.Entry.{enough, line_read_of}
use Rattle.logs.specs.Judge.{of_text, judge_log}
use Rattle.listing.specs.Entry.{list_answer}
use Rattle.json_entities.specs.Entry.{read_entities, sizes_or}
use Rattle.std.specs.Prelude.{Err, None, Ok, Option, Result, Some}
use Rattle.format.specs.declared.Reach.{Reach}
use Rattle.logs.specs.declared.LineRefusal.{LineRefusal}
use Rattle.merging.specs.declared.MergeRefusal.{MergeRefusal}
use Rattle.format.specs.declared.Refusal.{Refusal}

-- no success is as large, and every refusal is
abbrev pub refused_from : ℕ
refused_from = 2 ^ 32

abbrev pub refused_answer : Refusal → ℕ
refused_answer refusal = refused_from + number refusal

-- what was counted
abbrev pub counted_answer : Result ℕ Refusal → ℕ
counted_answer (Ok n) = n
counted_answer (Err n) = refused_answer n

abbrev pub of_read : Result (Option Reach) Refusal → ℕ
of_read (Ok (Some f)) = 1
of_read (Ok None) = 0
of_read (Err n) = refused_answer n

-- the sizes of a pack in an array: its nodes, then its text bytes
abbrev pub both_sizes : Reach → List ℕ
both_sizes f = f.nodes ∷ f.texts ∷ []

-- the whole array of sizes afterwards; only an event writes it
abbrev pub sizes_after : Result (Option Reach) Refusal → List ℕ → List ℕ
sizes_after (Ok (Some f)) sizes = both_sizes f
sizes_after (Ok None) sizes = sizes
sizes_after (Err n) sizes = sizes

-- entities JSON: its text is never blank
abbrev pub of_entities : Result Reach Refusal → ℕ
of_entities (Ok f) = 1
of_entities (Err n) = refused_answer n

-- the whole array of sizes afterwards; a refusal does not write it
abbrev pub entities_sizes_after : Result Reach Refusal → List ℕ → List ℕ
entities_sizes_after (Ok f) sizes = both_sizes f
entities_sizes_after (Err n) sizes = sizes

abbrev pub of_judged : Result ℕ LineRefusal → ℕ
of_judged (Ok n) = n
of_judged (Err refusal) = refused_answer refusal.refusal + 256 * refusal.line

abbrev pub of_merged : Result ℕ MergeRefusal → ℕ
of_merged (Ok n) = n
of_merged (Err refusal) = refused_answer refusal.refusal + 256 * refusal.line + 2 ^ 26 * refusal.log

abbrev pub of_listed : Result (Option ℕ) Refusal → ℕ
of_listed (Ok (Some n)) = n
of_listed (Ok None) = 0
of_listed (Err n) = refused_answer n

-- ---- the answers themselves, with tables k, n and t

abbrev pub read_answer : List ℕ → List ℕ → List ℕ → List ℕ → Result (Option Reach) Refusal
read_answer s k n t = cond (enough k n t) (line_read_of (read_line s)) (Err table_too_short)

abbrev pub entities_answer : List ℕ → List ℕ → List ℕ → List ℕ → Result Reach Refusal
entities_answer s k n t = cond (enough k n t) (sizes_or (read_entities s)) (Err table_too_short)

abbrev pub judge_answer : List ℕ → List ℕ → List ℕ → List ℕ → Result ℕ LineRefusal
judge_answer s k n t = cond (enough k n t) (judge_log s) (Err (of_text table_too_short))

abbrev pub line_listed : List ℕ → ℕ → List ℕ → List ℕ → List ℕ → List ℕ → Result (Option ℕ) Refusal
line_listed s number k n t out = cond (enough k n t) (list_answer number (length out) (read_line s)) (Err table_too_short)
