-- Document 01, "Refusal table", with document 02's rows of entities JSON and of merging, and which rows each entry point can give.
-- Assumes nothing.
use mathlib.Core.List.{List, [], ◌∷◌, ◌++◌, Memᴰ}
use Rattle.format.specs.declared.Refusal.{Refusal}
use Rattle.format.specs.Refusals.{table_too_short, text_too_long, not_utf8, line_too_long, output_too_short, no_at, no_space_after_time, bad_time, scope_unclosed, entities_unclosed, context_unclosed, event_unopened, event_unclosed, event_out_of_order, no_action, action_unterminated, no_kind, argument_without_colon, duplicate_argument, value_too_deep, field_without_colon, duplicate_field, entry_without_record, entry_without_colon, entry_unterminated, text_after_record, parents_not_bracketed, parent_no_entity, key_no_entity, duplicate_key, entry_not_a_record, not_json, not_entities, times_fall_in_first, times_fall_in_second, merged_too_long}

-- one of these: the library's membership
abbrev pub OneOf : List Refusal → Refusal → Type 0
OneOf ns n = Memᴰ n ns

-- ---- the rows

-- 10 to 35: `parse_line` and what it calls
abbrev pub line_rows : List Refusal
line_rows =
    no_at ∷ no_space_after_time ∷ bad_time
    ∷ scope_unclosed ∷ entities_unclosed ∷ context_unclosed
    ∷ event_unopened ∷ event_unclosed ∷ event_out_of_order
    ∷ no_action ∷ action_unterminated ∷ no_kind
    ∷ argument_without_colon ∷ duplicate_argument
    ∷ value_too_deep ∷ field_without_colon ∷ duplicate_field
    ∷ entry_without_record ∷ entry_without_colon ∷ entry_unterminated ∷ entry_not_a_record
    ∷ text_after_record ∷ parents_not_bracketed ∷ parent_no_entity
    ∷ key_no_entity ∷ duplicate_key ∷ []

-- 36 and 37: reading entities JSON
abbrev pub entities_rows : List Refusal
entities_rows = not_json ∷ not_entities ∷ []

-- 45 to 47: merging two logs
abbrev pub merging_rows : List Refusal
merging_rows = times_fall_in_first ∷ times_fall_in_second ∷ merged_too_long ∷ []

abbrev pub refusal_table : List Refusal
refusal_table = table_too_short ∷ text_too_long ∷ not_utf8 ∷ line_too_long ∷ output_too_short ∷ (line_rows ++ (entities_rows ++ merging_rows))

-- ---- the rows of each entry point

abbrev pub decode_rows : List Refusal
decode_rows = text_too_long ∷ not_utf8 ∷ output_too_short ∷ []

abbrev pub spell_key_rows : List Refusal
spell_key_rows = text_too_long ∷ not_utf8 ∷ line_too_long ∷ output_too_short ∷ []

abbrev pub cut_body_rows : List Refusal
cut_body_rows = text_too_long ∷ not_utf8 ∷ line_too_long ∷ output_too_short ∷ []

abbrev pub read_line_rows : List Refusal
read_line_rows = table_too_short ∷ text_too_long ∷ not_utf8 ∷ line_too_long ∷ line_rows

-- of what a line can give, 24, 26 and 34
abbrev pub read_entities_rows : List Refusal
read_entities_rows =
    table_too_short ∷ text_too_long ∷ not_utf8 ∷ line_too_long ∷ value_too_deep ∷ duplicate_field ∷ duplicate_key ∷ entities_rows

abbrev pub judge_rows : List Refusal
judge_rows = read_line_rows

abbrev pub list_line_rows : List Refusal
list_line_rows = table_too_short ∷ text_too_long ∷ not_utf8 ∷ line_too_long ∷ output_too_short ∷ line_rows

abbrev pub merge_rows : List Refusal
merge_rows = list_line_rows ++ merging_rows

-- these are rows of the table
abbrev pub RowsOfTheTable : List Refusal → Type 0
RowsOfTheTable ns = (n : Refusal) → OneOf ns n → OneOf refusal_table n
