-- Measures: 3 n for a value and for a field of n bytes, 3 n + 1 for the items of an array and for the members of a record, 3 n + 2 for those of an object. What the loops
-- keep is said by `ValueItems` and `ValueFields`.
use Rattle.std.proofs.Common.{length, ◌-◌, ◌+◌, ◌*◌}
use Rattle.format.specs.Limits.{levels}
use Rattle.json_text.specs.Post.{next_of}
use Rattle.json_text.specs.Walk.{bytes_ahead}
use Rattle.json_entities.specs.Shape.{value_of}
use Rattle.json_entities.specs.Walk.{items_behind, members_at}
use Rattle.json_entities.proofs.ValueItems.{ItemsGoing}
use Rattle.json_entities.proofs.ValueFields.{FieldsGoing}
use Rattle.json_entities.proofs.value.+value.Given as goal

abbrev pub decreases-read_value : goal.decreases-read_value
decreases-read_value l = 3 * length l.s.now

abbrev pub decreases-read_array : goal.decreases-read_array
decreases-read_array l = 3 * length l.s.now + 1

abbrev pub decreases-read_object : goal.decreases-read_object
decreases-read_object l = 3 * length l.s.now + 2

abbrev pub decreases-read_record : goal.decreases-read_record
decreases-read_record l = 3 * bytes_ahead (next_of l.first) + 1

abbrev pub decreases-read_field : goal.decreases-read_field
decreases-read_field l = 3 * length l.s.now

abbrev pub invariant-read_array-loop-next : goal.invariant-read_array-loop-next
invariant-read_array-loop-next l = ItemsGoing (value_of (levels - l.depth)) (items_behind l.s) (length l.s) l.initial.tables l.tables l.n (next_of l.next)

abbrev pub decreases-read_array-loop-next : goal.decreases-read_array-loop-next
decreases-read_array-loop-next l = bytes_ahead (next_of l.next)

abbrev pub invariant-read_record-loop-next : goal.invariant-read_record-loop-next
invariant-read_record-loop-next l =
    FieldsGoing (levels - l.depth) (members_at (next_of l.fn.first)) (bytes_ahead (next_of l.fn.first)) l.initial.tables l.tables l.seen (next_of l.next)

abbrev pub decreases-read_record-loop-next : goal.decreases-read_record-loop-next
decreases-read_record-loop-next l = bytes_ahead (next_of l.next)
