-- What an event lists is what its map lists, in the order in which fields and entries stand there.
-- Assumes nothing.
use mathlib.Core.Path.{◌≡◌, refl, sym, ap, ◌∙◌}
use mathlib.Core.List.{List, [], ◌∷◌, map}
use Prim.Native.Nat.{ℕ}
use Prim.Native.Char.{code}
use Rattle.pack.specs.Value.{Value, null, bool, integer, decimal, string, entity, array, fields, Values, no_item, more, Fields, no_field, field}
use Rattle.sorting.specs.Order.{sort_by}
use Rattle.sorting.proofs.Sorted.{sort_map}
use Rattle.entities.specs.Entries.{Entries, no_entry, entry}
use Rattle.entities.specs.Parse.{Entry}
use Rattle.events.specs.Event.{Event}
use Rattle.printing.specs.Print.{in_brackets, Printed, ascending, field_of, list_value, list_all, list_fields}
use Rattle.printing.proofs.ValueLaws.{map_map}
use Rattle.printing.proofs.ReadBack.{in_order, all_in_order, fields_in_order}
use Rattle.listing.specs.Lines.{principal_label, resource_label, line_if, concatenated, list_entries, entity_lines, list_sheet, list_event}
use Rattle.listing.proofs.InOrder.{line_in_order_if, entry_in_order, entries_in_order, event_in_order}
use Rattle.guarantees.specs.Maps.{Named, named, fields_of, map_of, map_items, map_fields, map_if, map_group, stored_key, map_entries, entries_of, by_key, map_of_event}
use Rattle.std.specs.Prelude.{None, Option, Some}

-- ---- values

-- texts sorted by keys are what prints for the elements sorted by these keys
printed_sorted : {A : Type 0} (f : A → Printed) (xs : List A) → ascending (map f xs) ≡ map (λ (x : A). (f x).text) (sort_by (λ (x : A). (f x).key) xs)
unfolding ascending
printed_sorted f xs = ap (map (λ (p : Printed). p.text)) (sym (sort_map (λ (p : Printed). p.key) f xs)) ∙ map_map (λ (p : Printed). p.text) f (sort_by (λ x. (f x).key) xs)

abbrev print_named : Named → Printed
print_named f = field_of f.name (in_order f.value)

named_texts : (fs : List Named) → fields_in_order (fields_of fs) ≡ map (λ (f : Named). (print_named f).text) fs
unfolding fields_of fields_in_order
named_texts [] = refl
named_texts (f ∷ fs) = rw (named_texts fs)

mutual
  unfolding list_value list_all list_fields in_order all_in_order named map_of map_items map_fields

  value_of_map : (v : Value) → list_value v ≡ in_order (map_of v)
  value_of_map null = refl
  value_of_map (bool b) = refl
  value_of_map (integer n) = refl
  value_of_map (decimal s) = refl
  value_of_map (string s) = refl
  value_of_map (entity ty id) = refl
  value_of_map (array vs) = ap (in_brackets (code "[") (code "]")) (all_of_map vs)
  value_of_map (fields fs) =
      let l : List Named = named (map_fields fs) in
      ap (in_brackets (code "{") (code "}")) (ap ascending (fields_of_map fs) ∙ printed_sorted print_named l ∙ sym (named_texts (sort_by (λ (f : Named). f.name) l)))

  all_of_map : (vs : Values) → list_all vs ≡ all_in_order (map_items vs)
  all_of_map no_item = refl
  all_of_map (more v vs) = rw (value_of_map v, all_of_map vs)

  fields_of_map : (fs : Fields) → list_fields fs ≡ map print_named (named (map_fields fs))
  fields_of_map no_field = refl
  fields_of_map (field x v fs) = rw (value_of_map v, fields_of_map fs)

group_of_map : (fs : Fields) → list_value (fields fs) ≡ in_order (fields (map_group fs))
unfolding map_of
group_of_map fs = value_of_map (fields fs)

items_of_map : (ps : Values) → list_value (array ps) ≡ in_order (array (map_items ps))
unfolding map_of
items_of_map ps = value_of_map (array ps)

-- ---- entries

abbrev print_entry : Entry → Printed
print_entry e = record { key = stored_key e; text = entry_in_order (stored_key e) e.attributes e.parents }

entry_texts : (es : List Entry) → entries_in_order (entries_of es) ≡ concatenated (map (λ (e : Entry). (print_entry e).text) es)
unfolding entries_in_order entries_of concatenated
entry_texts [] = refl
entry_texts (e ∷ es) = rw (entry_texts es)

entries_printed : (es : Entries) → list_entries es ≡ map print_entry (map_entries es)
unfolding list_entries map_entries
entries_printed no_entry = refl
entries_printed (entry ty id fs ps es) = rw (group_of_map fs, items_of_map ps, entries_printed es)

entries_of_map : (es : Entries) → entity_lines (list_entries es) ≡ entries_in_order (by_key (map_entries es))
entries_of_map es =
    let l : List Entry = map_entries es in
    ap entity_lines (entries_printed es) ∙ ap concatenated (printed_sorted print_entry l) ∙ sym (entry_texts (sort_by stored_key l))

-- ---- the event

if_of_map : (word : List ℕ) (o : Option Value) → line_if word o ≡ line_in_order_if word (map_if o)
unfolding line_if line_in_order_if
if_of_map word None = refl
if_of_map word (Some v) = rw (value_of_map v)

pub event_of_map : (number : ℕ) (e : Event) → list_event number e ≡ event_in_order number (map_of_event e)
unfolding list_event list_sheet
event_of_map number e =
    rw (if_of_map principal_label e.principal, if_of_map resource_label e.resource, group_of_map e.logged, group_of_map e.context, entries_of_map e.entities)
