-- An event whose numbers have 64 bits has no others as maps.
-- Assumes nothing.
use mathlib.Core.List.{List, [], ◌∷◌}
use Rattle.pack.specs.Value.{Value, null, bool, integer, decimal, string, entity, array, fields, Values, no_item, more, Fields, no_field, field}
use Rattle.sorting.specs.Order.{Each}
use Rattle.entities.specs.Entries.{Entries, no_entry, entry}
use Rattle.entities.specs.Parse.{Entry}
use Rattle.events.specs.Event.{Event}
use Rattle.printing.specs.Range.{InRange, InRangeItems, InRangeFields}
use Rattle.printing.proofs.ValueLaws.{sort_each}
use Rattle.listing.specs.Range.{InRangeIf, InRangeEntries, EventInRange}
use Rattle.guarantees.specs.Maps.{Named, named, fields_of, by_name, map_of, map_items, map_fields, map_if, map_group, stored_key, map_entries, entries_of, map_of_event}
use Rattle.std.specs.Prelude.{None, Option, Some}

abbrev ValueInRange : Named → Type 0
ValueInRange f = InRange f.value

named_range : (fs : Fields) → InRangeFields fs → Each ValueInRange (named fs)
unfolding InRange named Each
named_range no_field h = tt
named_range (field x v fs) h = (h.0, named_range fs h.1)

range_named : (fs : List Named) → Each ValueInRange fs → InRangeFields (fields_of fs)
unfolding InRange fields_of Each
range_named [] h = tt
range_named (f ∷ fs) h = (h.0, range_named fs h.1)

by_name_range : (fs : Fields) → InRangeFields fs → InRangeFields (by_name fs)
by_name_range fs h = range_named _ (sort_each ValueInRange (λ (f : Named). f.name) (named fs) (named_range fs h))

mutual
  unfolding InRange map_of

  map_range : (v : Value) → InRange v → InRange (map_of v)
  map_range null h = tt
  map_range (bool b) h = tt
  map_range (integer n) h = h
  map_range (decimal s) h = tt
  map_range (string s) h = tt
  map_range (entity ty id) h = tt
  map_range (array vs) h = items_range vs h
  map_range (fields fs) h = by_name_range (map_fields fs) (fields_range fs h)

  items_range : (vs : Values) → InRangeItems vs → InRangeItems (map_items vs)
  items_range no_item h = tt
  items_range (more v vs) h = (map_range v h.0, items_range vs h.1)

  fields_range : (fs : Fields) → InRangeFields fs → InRangeFields (map_fields fs)
  fields_range no_field h = tt
  fields_range (field x v fs) h = (map_range v h.0, fields_range fs h.1)

group_range : (fs : Fields) → InRangeFields fs → InRangeFields (map_group fs)
group_range fs h = by_name_range (map_fields fs) (fields_range fs h)

if_range : (o : Option Value) → InRangeIf o → InRangeIf (map_if o)
if_range None h = tt
if_range (Some v) h = map_range v h

abbrev EntryInRange : Entry → Type 0
EntryInRange e = InRangeFields e.attributes × InRangeItems e.parents

entries_range : (es : Entries) → InRangeEntries es → Each EntryInRange (map_entries es)
unfolding InRangeEntries map_entries Each
entries_range no_entry h = tt
entries_range (entry ty id fs ps es) h = ((group_range fs h.0, items_range ps h.1.0), entries_range es h.1.1)

range_entries : (es : List Entry) → Each EntryInRange es → InRangeEntries (entries_of es)
unfolding InRangeEntries entries_of Each
range_entries [] h = tt
range_entries (e ∷ es) h = (h.0.0, (h.0.1, range_entries es h.1))

pub event_range : (e : Event) → EventInRange e → EventInRange (map_of_event e)
event_range e h = record {
  time = h.time;
  principal = if_range e.principal h.principal;
  resource = if_range e.resource h.resource;
  logged = group_range e.logged h.logged;
  context = group_range e.context h.context;
  entities = range_entries _ (sort_each EntryInRange stored_key (map_entries e.entities) (entries_range e.entities h.entities));
}
