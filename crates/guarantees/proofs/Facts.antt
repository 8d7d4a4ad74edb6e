-- Facts 8 to 12 of document 01's proof set: 8 and 9 are computed, 10 to 12 are stated by `values` for any depth.
-- Assumes nothing.
use mathlib.Core.Path.{refl}
use Rattle.buffers.specs.Same.{same, among}
use Rattle.chars.specs.Utf8.{char_of, utf8_from, encode}
use Rattle.chars.specs.White.{wide_white, white, white_at, trim_from, trim_end}
use Rattle.cuts.specs.Scan.{opens, closes, step, hits, first_from, first, found, brace_only, matching_brace}
use Rattle.cuts.specs.Split.{onto, split_from, split_top_level}
use Rattle.cuts.specs.Quote.{quote_from}
use Rattle.escapes.specs.Unescape.{unescape_from, escape_at, short_or}
use Rattle.ranges.specs.Ranges.{member}
use Rattle.ranges.specs.EscapedAnywhere.{escaped_anywhere}
use Rattle.ranges.specs.FirstOnly.{first_only}
use Rattle.ranges.specs.Hidden.{hidden}
use Rattle.keys.specs.Escape.{short, escape_of, escape_from}
use Rattle.keys.specs.Entity.{opens_id as entity_opens, closes_id as entity_closes, entity_from, read_entity}
use Rattle.numbers.specs.Grammar.{many}
use Rattle.numbers.specs.Digits.{value}
use Rattle.numbers.specs.Integer.{i64_of}
use Rattle.pack.specs.Value.{count_items, count_fields}
use Rattle.pack.specs.Pack.{append_value}
use Rattle.pack.specs.Walk.{children, skip, past_at, text_at, place_key, places_by, texts_from}
use Rattle.values.specs.Text.{full, parts, wrapped}
use Rattle.values.specs.Parse.{scalar_of, word_or, parse_fields, parse_trimmed, parse}
use Rattle.values.proofs.Examples.{facts}
use Rattle.heads.specs.Head.{quote_open_from, double_colon, names_from, kind_in, parse_event_head, append_texts, count_texts}
use Rattle.entities.specs.Entries.{count_entries, append_entries}
use Rattle.entities.specs.Parse.{parse_entity_parents, parse_entry, parse_entries, parse_entities}
use Rattle.events.specs.Line.{parse_args, byte_from, last_from, white_from, parse_time, begins, parse_scope, parse_entities_envelope, parse_context, parse_group, field_named, parse_line}
use Rattle.events.specs.Answer.{line_answer, read_line}
use Rattle.guarantees.specs.Keys.{keys_in}
use Rattle.guarantees.specs.ProofSet.{Fact8, Fact9, Fact10, Fact11, Fact12}

pub out_of_order : Fact8
unfolding read_line line_answer utf8_from parse_line parse_time white_from white_at white wide_white char_of trim_from trim_end i64_of many value parse_scope parse_entities_envelope parse_context begins same parse_group byte_from last_from
out_of_order = refl

pub values_read : Fact10 × Fact11 × Fact12
values_read = let f = facts 128 in (f.0, (f.1, f.2), (f.3, f.4))

-- either spelling, through the whole line
pub one_key : Fact9
unfolding unescape_from escape_at short_or char_of utf8_from member escaped_anywhere first_only short hidden escape_of escape_from read_line line_answer parse_line parse_time white_from white_at white wide_white trim_from trim_end i64_of many value parse_scope parse_entities_envelope parse_context begins same found first first_from hits step opens closes brace_only matching_brace parse_entities parse_entries parse_entry parts full split_top_level split_from onto parse parse_trimmed word_or wrapped parse_fields among parse_entity_parents read_entity entity_from entity_opens entity_closes quote_from parse_group byte_from last_from parse_event_head quote_open_from kind_in double_colon names_from parse_args field_named append_value append_texts count_texts count_items count_fields append_entries count_entries keys_in past_at skip children texts_from places_by place_key text_at encode scalar_of
one_key = ((refl, refl), (refl, refl))
