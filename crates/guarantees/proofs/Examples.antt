-- The definitions on short lines.
-- Assumes nothing.
use mathlib.Core.Path.{◌≡◌, refl}
use mathlib.Core.List.{List, [], ◌∷◌, ◌++◌}
use Prim.Native.Nat.{ℕ}
use lib.ListN.{length}
use Rattle.buffers.specs.Ascii.{ascii}
use Rattle.buffers.specs.Same.{same, among}
use Rattle.format.specs.Kinds.{absent_kind, integer_kind, array_kind, record_kind, text_kind}
use Rattle.chars.specs.Utf8.{char_of, utf8_from}
use Rattle.chars.specs.White.{wide_white, white, white_at, trim_from, trim_end}
use Rattle.cuts.specs.Scan.{opens, closes, step, hits, first_from, first, found}
use Rattle.cuts.specs.Split.{onto, split_from, split_top_level}
use Rattle.cuts.specs.Quote.{quote_from}
use Rattle.escapes.specs.Unescape.{unescape_from}
use Rattle.keys.specs.Entity.{entity_from, read_entity}
use Rattle.numbers.specs.Grammar.{many}
use Rattle.numbers.specs.Digits.{value}
use Rattle.numbers.specs.Integer.{i64_of}
use Rattle.numbers.specs.Decimal.{has_dot, is_decimal}
use Rattle.pack.specs.Value.{string, no_field, field, count_fields}
use Rattle.pack.specs.Pack.{empty_pack, append_value}
use Rattle.pack.specs.Walk.{children, skip, past_at, text_at, place_key, places_by, texts_from}
use Rattle.values.specs.Text.{full, parts, wrapped}
use Rattle.values.specs.Parse.{scalar_of, word_or, unless_seen, field_value, parse_fields, parse_trimmed, parse}
use Rattle.format.specs.Outcome.{ok}
use Rattle.heads.specs.Head.{quote_open_from, double_colon, names_from, kind_in, parse_event_head, append_texts, count_texts}
use Rattle.entities.specs.Entries.{no_entry, count_entries, append_entries}
use Rattle.events.specs.Event.{Event, append_event}
use Rattle.events.specs.Line.{parse_args, byte_from, last_from, white_from, parse_time, begins, parse_scope, parse_entities_envelope, parse_context, parse_group, field_named, parse_line}
use Rattle.events.specs.Answer.{line_answer, read_line}
use Rattle.logs.specs.Lines.{lines_of, marked, unmarked}
use Rattle.guarantees.specs.Keys.{keys_in, entities_body, key_text_of}
use Rattle.guarantees.specs.Lines.{log_lines, line_numbered, events_in}
use Rattle.std.specs.Prelude.{None}

-- `@0 entities(a::"":{})::""::k()` has one stored key, a::"": time, two that are absent, an array of one part, action, kind, two records,
-- and then the entities
one_key : keys_in (record {
  kinds = integer_kind ∷ absent_kind ∷ absent_kind ∷ array_kind ∷ text_kind ∷ text_kind ∷ text_kind ∷ record_kind ∷ record_kind ∷ record_kind ∷ text_kind ∷ record_kind ∷ array_kind ∷ [];
  numbers = 0 ∷ 0 ∷ 0 ∷ 1 ∷ 0 ∷ 0 ∷ 1 ∷ 0 ∷ 0 ∷ 1 ∷ 4294967301 ∷ 0 ∷ 0 ∷ [];
  texts = ascii "ka::\"\"";
}) ≡ ascii "a::\"\"" ∷ []
unfolding keys_in past_at skip children texts_from places_by place_key text_at
one_key = refl

abbrev line : List ℕ
line = ascii "@0 entities(a::\"\":{})::\"\"::k()"

body : entities_body line ≡ ascii "a::\"\":{}"
unfolding entities_body parse_time white_from white_at white wide_white char_of trim_from trim_end i64_of many value parse_scope begins same found first first_from hits step opens closes
body = refl

key_text_example : key_text_of (ascii "a::\"\" :{}") ≡ ascii "a::\"\""
unfolding key_text_of found first first_from hits step opens closes trim_from trim_end white_at white wide_white char_of
key_text_example = refl

-- `@0 ::""::k(:)`, 13 bytes, gives 12 nodes
abbrev tight : Event
tight = record {
  time = 0;
  principal = None;
  resource = None;
  head = record { namespace = [] ∷ []; action = []; kind = ascii "k" };
  logged = field [] (string []) no_field;
  context = no_field;
  entities = no_entry;
}

tightest : parse_line (ascii "@0 ::\"\"::k(:)") ≡ ok tight
unfolding parse_line parse_time white_from white_at white wide_white char_of trim_from trim_end i64_of many value parse_scope parse_entities_envelope parse_context begins same parse_group byte_from last_from parse_event_head quote_open_from Rattle.keys.specs.Entity.opens_id quote_from unescape_from kind_in double_colon names_from parse_args parts full split_top_level split_from onto hits step opens closes first first_from parse_fields field_value unless_seen among parse parse_trimmed word_or wrapped scalar_of read_entity entity_from is_decimal has_dot field_named
tightest = refl

twelve : length (append_event tight empty_pack).kinds ≡ 12
unfolding append_value append_texts count_texts count_fields append_entries count_entries
twelve = refl

-- a line feed and `@0 ::""::k()`: the second line is that, and the first is blank
abbrev small : List ℕ
small = ascii "@0 ::\"\"::k()"

second_line : line_numbered 2 (log_lines (ascii "\n" ++ small)) ≡ small
unfolding lines_of unmarked marked onto
second_line = refl

one_event : events_in (log_lines (ascii "\n" ++ small)) ≡ 1
unfolding lines_of unmarked marked events_in read_line line_answer utf8_from parse_line parse_time white_from white_at white wide_white char_of trim_from trim_end i64_of many value parse_scope parse_entities_envelope parse_context begins same parse_group byte_from last_from parse_event_head quote_open_from Rattle.keys.specs.Entity.opens_id quote_from unescape_from kind_in double_colon names_from parse_args parts full split_top_level split_from onto parse_fields field_named
one_event = refl
