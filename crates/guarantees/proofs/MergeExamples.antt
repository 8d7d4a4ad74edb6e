-- Short logs, merged: document 02, A11.
-- Assumes nothing.
use mathlib.Core.Path.{◌≡◌, refl}
use mathlib.Core.List.{List, [], ◌∷◌}
use Prim.Native.Nat.{ℕ}
use Rattle.format.specs.Refusals.{output_too_short, no_at, times_fall_in_first, times_fall_in_second}
use Rattle.buffers.specs.Ascii.{ascii}
use Rattle.buffers.specs.Same.{same}
use Rattle.chars.specs.Utf8.{char_of, utf8_from}
use Rattle.chars.specs.White.{wide_white, white, white_at, trim_from, trim_end}
use Rattle.cuts.specs.Split.{onto, split_from, split_top_level}
use Rattle.cuts.specs.Quote.{quote_from}
use Rattle.escapes.specs.Unescape.{unescape_from}
use Rattle.keys.specs.Entity.{opens_id}
use Rattle.numbers.specs.Grammar.{many}
use Rattle.numbers.specs.Digits.{value}
use Rattle.numbers.specs.Integer.{i64_of}
use Rattle.sorting.specs.Order.{precedes, insert_by, sort_by}
use Rattle.values.specs.Text.{full, parts}
use Rattle.values.specs.Parse.{parse_fields}
use Rattle.heads.specs.Head.{quote_open_from, double_colon, names_from, kind_in, parse_event_head}
use Rattle.events.specs.Line.{parse_args, byte_from, last_from, white_from, parse_time, begins, parse_scope, parse_entities_envelope, parse_context, parse_group, field_named, parse_line}
use Rattle.events.specs.Answer.{line_answer}
use Rattle.logs.specs.Lines.{lines_of, marked, unmarked, walk_from}
use Rattle.logs.specs.Judge.{judge_log}
use Rattle.logs.specs.Events.{gather}
use Rattle.event_lines.specs.Time.{fall_from}
use Rattle.event_lines.specs.Laid.{laid}
use Rattle.merging.specs.Merge.{of_neither, merged_lines, merged_text, merge_logs}
use Rattle.std.specs.Prelude.{Err, Ok}

-- two lines of which the second is earlier, and a blank line between them
abbrev falling : List ℕ
falling = ascii "@2 ::\"\"::k()\n\n@-1 ::\"\"::k()"

-- the earlier line goes first; at equal times the first log's do, each as it is spelled; each is trimmed and has its line feed, and no
-- mark stands there
merged : (merged_text (ascii "@2 ::\"\"::k()") (ascii "\n @-1 ::\"\"::k()") ≡ ascii "@-1 ::\"\"::k()\n@2 ::\"\"::k()\n")
    × (merged_text (ascii "@+5 ::\"\"::k()\r\n") (ascii "@5 ::\"\"::k() tail") ≡ ascii "@+5 ::\"\"::k()\n@5 ::\"\"::k() tail\n")
    × (merged_text (ascii "@5 ::\"\"::k() tail") (ascii "@+5 ::\"\"::k()") ≡ ascii "@5 ::\"\"::k() tail\n@+5 ::\"\"::k()\n")
    × (merged_text (0xEF ∷ 0xBB ∷ 0xBF ∷ ascii "@0 ::\"\"::k()\n\n@0 ::\"\"::m()") (0xEF ∷ 0xBB ∷ 0xBF ∷ ascii "@-0 ::\"\"::k()") ≡ ascii "@0 ::\"\"::k()\n@0 ::\"\"::m()\n@-0 ::\"\"::k()\n")
unfolding merged_text merged_lines laid gather lines_of unmarked marked onto line_answer parse_line parse_time white_from white_at white wide_white char_of trim_from trim_end i64_of many value parse_scope parse_entities_envelope parse_context begins same parse_group byte_from last_from parse_event_head quote_open_from opens_id quote_from unescape_from kind_in double_colon names_from parse_args parts full split_top_level split_from parse_fields field_named sort_by insert_by precedes
merged = (refl, refl, refl, refl)

-- 45 and 46 with the line that is earlier than the one before it; a log's own refusal stands before both, and 5 comes last; equal times
-- are no fall
answers : (merge_logs falling [] 0 ≡ Err (record { refusal = times_fall_in_first; log = 1; line = 3 }))
    × (merge_logs (ascii "@2 ::\"\"::k()") falling 0 ≡ Err (record { refusal = times_fall_in_second; log = 2; line = 3 }))
    × (merge_logs falling (ascii "\nx") 0 ≡ Err (record { refusal = no_at; log = 2; line = 2 }))
    × (merge_logs (ascii "@2 ::\"\"::k()") (ascii "@-1 ::\"\"::k()") 26 ≡ Err (of_neither output_too_short))
    × (merge_logs (ascii "@2 ::\"\"::k()") (ascii "@-1 ::\"\"::k()") 27 ≡ Ok 27)
    × (merge_logs (ascii "@2 ::\"\"::k()\n@2 ::\"\"::k()") [] 26 ≡ Ok 26)
    × (merge_logs [] (ascii " \n") 0 ≡ Ok 0)
unfolding merge_logs judge_log utf8_from walk_from fall_from merged_text merged_lines laid gather lines_of unmarked marked onto line_answer parse_line parse_time white_from white_at white wide_white char_of trim_from trim_end i64_of many value parse_scope parse_entities_envelope parse_context begins same parse_group byte_from last_from parse_event_head quote_open_from opens_id quote_from unescape_from kind_in double_colon names_from parse_args parts full split_top_level split_from parse_fields field_named sort_by insert_by precedes
answers = (refl, refl, refl, refl, refl, refl, refl)
