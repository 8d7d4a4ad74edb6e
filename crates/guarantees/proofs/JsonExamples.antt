-- Entities JSON beside a line: the example of document 01, `Cell::"K'7"`, gives the same key and the same entities nodes from both.
-- Assumes nothing.
use mathlib.Core.Path.{◌≡◌, refl}
use mathlib.Core.List.{List, [], ◌∷◌, ◌++◌}
use Prim.Native.Nat.{ℕ}
use Rattle.buffers.specs.Ascii.{ascii}
use Rattle.buffers.specs.Same.{same, among}
use Rattle.format.specs.Kinds.{array_kind, record_kind, text_kind}
use Rattle.chars.specs.Utf8.{char_of, utf8_from, encode}
use Rattle.chars.specs.White.{wide_white, white, white_at, trim_from, trim_end}
use Rattle.cuts.specs.Scan.{opens, closes, step, hits, first_from, first, found, brace_only, matching_brace}
use Rattle.cuts.specs.Split.{onto, split_from, split_top_level}
use Rattle.cuts.specs.Quote.{quote_from}
use Rattle.escapes.specs.Unescape.{unescape_from, escape_at, short_or, hex_digit}
use Rattle.ranges.specs.Ranges.{member}
use Rattle.ranges.specs.EscapedAnywhere.{escaped_anywhere}
use Rattle.ranges.specs.FirstOnly.{first_only}
use Rattle.ranges.specs.Hidden.{hidden}
use Rattle.keys.specs.Escape.{short, escape_of, escape_from}
use Rattle.keys.specs.Entity.{opens_id as entity_opens, closes_id as entity_closes, entity_from, read_entity}
use Rattle.numbers.specs.Grammar.{many}
use Rattle.numbers.specs.Digits.{value}
use Rattle.numbers.specs.Integer.{i64_of}
use Rattle.json_text.specs.Text as Text
use Rattle.json_text.specs.Syntax as Syntax
use Rattle.pack.specs.Pack.{Pack, append_value}
use Rattle.pack.specs.Value.{count_items, count_fields}
use Rattle.pack.specs.Walk.{children, skip, past_at, text_at, place_key, places_by, texts_from}
use Rattle.values.specs.Text.{full, parts, wrapped}
use Rattle.values.specs.Parse.{scalar_of, word_or, parse_fields, parse_trimmed, parse}
use Rattle.heads.specs.Head.{quote_open_from, double_colon, names_from, kind_in, parse_event_head, append_texts, count_texts}
use Rattle.entities.specs.Entries.{count_entries, append_entries}
use Rattle.entities.specs.Parse.{parse_entity_parents, parse_entry, parse_entries, parse_entities}
use Rattle.events.specs.Line.{parse_args, byte_from, last_from, white_from, parse_time, begins, parse_scope, parse_entities_envelope, parse_context, parse_group, field_named, parse_line}
use Rattle.events.specs.Answer as Answer
use Rattle.events.specs.Answer.{line_answer, read_line}
use Rattle.json_entities.specs.Shape.{uid_from, items_by, fields_by, entry_from, entries_from}
use Rattle.json_entities.specs.Entry as Json
use Rattle.json_entities.specs.Entry.{read_entities}
use Rattle.guarantees.specs.Keys.{keys_in}
use Rattle.guarantees.specs.EntityNodes.{first_start, counted_from, entities_nodes}
use Rattle.guarantees.specs.ProofSet.{cell_key, cell_line}

-- with the id as it is written
abbrev cell_json : List ℕ → List ℕ
cell_json id = ascii "[{\"uid\":{\"type\":\"Cell\",\"id\":\"" ++ (id ++ ascii "\"},\"attrs\":{},\"parents\":[]}]")

abbrev json_pack : List ℕ → Pack
json_pack id = Json.pack_of (read_entities (cell_json id))

-- the apostrophe by itself, and as an escape of RFC 8259
key_from_json : keys_in (json_pack (ascii "K'7")) ≡ cell_key ∷ []
unfolding read_entities utf8_from char_of Syntax.json Syntax.ws Syntax.value Syntax.scalar Syntax.member_name Text.short Text.hex4 Text.unicode Text.escape Text.char Text.string_from hex_digit encode same among uid_from items_by fields_by entry_from entries_from white_at white wide_white append_value append_entries count_entries count_items count_fields escape_of escape_from short member escaped_anywhere first_only hidden past_at skip children keys_in texts_from places_by place_key text_at
key_from_json = refl

key_from_escape : keys_in (json_pack (ascii "K\\u00277")) ≡ cell_key ∷ []
unfolding read_entities utf8_from char_of Syntax.json Syntax.ws Syntax.value Syntax.scalar Syntax.member_name Text.short Text.hex4 Text.unicode Text.escape Text.char Text.string_from hex_digit encode same among uid_from items_by fields_by entry_from entries_from white_at white wide_white append_value append_entries count_entries count_items count_fields escape_of escape_from short member escaped_anywhere first_only hidden past_at skip children keys_in texts_from places_by place_key text_at
key_from_escape = refl

-- the entities node, the stored key of 12 bytes, no fields, no parents
abbrev cell_nodes : Pack
cell_nodes = record { kinds = record_kind ∷ text_kind ∷ record_kind ∷ array_kind ∷ []; numbers = 1 ∷ 12 ∷ 0 ∷ 0 ∷ []; texts = cell_key }

nodes_from_json : entities_nodes (json_pack (ascii "K'7")) ≡ cell_nodes
unfolding read_entities utf8_from char_of Syntax.json Syntax.ws Syntax.value Syntax.scalar Syntax.member_name Text.short Text.hex4 Text.unicode Text.escape Text.char Text.string_from hex_digit encode same among uid_from items_by fields_by entry_from entries_from white_at white wide_white append_value append_entries count_entries count_items count_fields escape_of escape_from short member escaped_anywhere first_only hidden past_at skip children first_start counted_from
nodes_from_json = refl

nodes_from_line : entities_nodes (Answer.pack_of (read_line (cell_line (ascii "K'7")))) ≡ cell_nodes
unfolding unescape_from escape_at short_or char_of utf8_from member escaped_anywhere first_only short hidden escape_of escape_from read_line line_answer parse_line parse_time white_from white_at white wide_white trim_from trim_end i64_of many value parse_scope parse_entities_envelope parse_context begins same found first first_from hits step opens closes brace_only matching_brace parse_entities parse_entries parse_entry parts full split_top_level split_from onto parse parse_trimmed word_or wrapped parse_fields among parse_entity_parents read_entity entity_from entity_opens entity_closes quote_from parse_group byte_from last_from parse_event_head quote_open_from kind_in double_colon names_from parse_args field_named append_value append_texts count_texts count_items count_fields append_entries count_entries past_at skip children encode scalar_of first_start counted_from
nodes_from_line = refl
