-- Maps on a record and on entries.
-- Assumes nothing.
use mathlib.Core.Path.{◌≡◌, refl}
use mathlib.Core.Bool.{true}
use Rattle.buffers.specs.Ascii.{ascii}
use Rattle.chars.specs.Utf8.{char_of}
use Rattle.ranges.specs.Ranges.{member}
use Rattle.ranges.specs.EscapedAnywhere.{escaped_anywhere}
use Rattle.ranges.specs.FirstOnly.{first_only}
use Rattle.ranges.specs.Hidden.{hidden}
use Rattle.keys.specs.Escape.{short, escape_of, escape_from}
use Rattle.pack.specs.Value.{null, bool, integer, fields, no_item, no_field, field}
use Rattle.sorting.specs.Order.{precedes, insert_by, sort_by}
use Rattle.entities.specs.Entries.{no_entry, entry}
use Rattle.guarantees.specs.Maps.{named, fields_of, map_of, map_fields, map_items, map_entries, entries_of, by_key}

-- {b: 1, a: {d: null, c: true}}: b and d were written first
a_record : map_of (fields (field (ascii "b") (integer 1) (field (ascii "a") (fields (field (ascii "d") null (field (ascii "c") (bool true) no_field))) no_field)))
    ≡ fields (field (ascii "a") (fields (field (ascii "c") (bool true) (field (ascii "d") null no_field))) (field (ascii "b") (integer 1) no_field))
unfolding map_of map_fields named fields_of sort_by insert_by precedes
a_record = refl

-- A::"x": {}, '::"x": {}: the stored keys are compared, ' before A, and not what prints for them, \' behind A
two_entries : by_key (map_entries (entry (ascii "A") (ascii "x") no_field no_item (entry (ascii "'") (ascii "x") no_field no_item no_entry)))
    ≡ entry (ascii "'") (ascii "x") no_field no_item (entry (ascii "A") (ascii "x") no_field no_item no_entry)
unfolding map_of map_items map_fields map_entries entries_of named fields_of sort_by insert_by precedes char_of member escaped_anywhere first_only short hidden escape_of escape_from
two_entries = refl
