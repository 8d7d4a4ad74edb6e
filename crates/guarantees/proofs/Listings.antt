-- A listing reads one way: what an event lists tells the event, but for the order in which fields and entries were written, which the maps that
-- the Rust keeps them in do not have either. Each theorem is a few words that cite the file with the work.
-- Assumes nothing.
use mathlib.Core.Path.{◌≡◌, sym, ap, ◌∙◌}
use mathlib.Core.List.{List}
use mathlib.Core.Logic.{◌↔◌}
use Prim.Native.Nat.{ℕ, ◌^◌, ◌<◌}
use lib.ListN.{take}
use Rattle.pack.specs.Value.{fields, Fields, names}
use Rattle.pack.specs.Pack.{Pack}
use Rattle.entities.specs.Entries.{Entries, stored_keys}
use Rattle.events.specs.Event.{Event}
use Rattle.events.specs.Answer.{event, read_line}
use Rattle.events.specs.Distinct.{DistinctTexts}
use Rattle.events.specs.Line.{field_named}
use Rattle.listing.specs.Lines.{list_event}
use Rattle.listing.specs.Range.{EventInRange}
use Rattle.listing.proofs.InOrder.{event_in_order, event_told}
use Rattle.listing.proofs.Longest
use Rattle.guarantees.specs.Calls.{ListedInto}
use Rattle.guarantees.specs.Lines.{IsRead}
use Rattle.guarantees.specs.Maps.{map_of, map_if, map_entries, by_key, entry_keyed, map_of_event}
use Rattle.guarantees.proofs.Listed
use Rattle.guarantees.proofs.MapLaws
use Rattle.guarantees.proofs.MapListed.{event_of_map}
use Rattle.guarantees.proofs.MapRange.{event_range}
use Rattle.std.specs.Prelude.{Ok, Some}

-- 1. Equal listings are of equal numbers and of events that are equal as maps: in time, principal, resource, name parts, action and kind, in both
-- groups and every record, and in their entries. It is said of numbers of 64 bits: the event's is a u64 of the call,
pub listing_tells : (n n' : ℕ) (e e' : Event) → n < 2 ^ 64 → n' < 2 ^ 64 → EventInRange e → EventInRange e' → list_event n e ≡ list_event n' e'
    → (n ≡ n') × (map_of_event e ≡ map_of_event e')
listing_tells n n' e e' l l' h h' q =
    event_told n n' (map_of_event e) (map_of_event e') l l' (event_range e h) (event_range e' h') (sym (event_of_map n e) ∙ q ∙ event_of_map n' e')

-- and those of what is read have no more.
pub read_in_range : (s : List ℕ) (e : Event) → read_line s ≡ event e → EventInRange e
read_in_range = Longest.read_in_range

-- 2. Events that are equal as maps list alike: nothing else shows in a listing.
pub listing_of_maps : (n : ℕ) (e e' : Event) → map_of_event e ≡ map_of_event e' → list_event n e ≡ list_event n e'
listing_of_maps n e e' q = event_of_map n e ∙ ap (λ (x : Event). event_in_order n x) q ∙ sym (event_of_map n e')

-- 3. A call of `list_line` that answered with a listing was of a line that is read.
pub call_listed : {s : List ℕ} {n m : ℕ} {p q : Pack} {out left : List ℕ} → ListedInto s n p out (Ok (Some m)) q left → IsRead s
call_listed w = Listed.event_listed w

-- Two such calls, on any two lines, with any numbers, tables and outputs: where what they wrote is the same, the numbers were the same, and the lines
-- are of events that are equal as maps.
pub calls_tell : {s s' : List ℕ} {n n' m m' : ℕ} {p p' q q' : Pack} {out out' left left' : List ℕ} → n < 2 ^ 64 → n' < 2 ^ 64
    → ListedInto s n p out (Ok (Some m)) q left → ListedInto s' n' p' out' (Ok (Some m')) q' left' → take m left ≡ take m' left'
    → (n ≡ n') × ((e e' : Event) → read_line s ≡ event e → read_line s' ≡ event e' → map_of_event e ≡ map_of_event e')
calls_tell {s} {s'} {n} {n'} l l' w w' t =
    let told : (e e' : Event) → read_line s ≡ event e → read_line s' ≡ event e' → (n ≡ n') × (map_of_event e ≡ map_of_event e') =
    λ e e' h h'. listing_tells n n' e e' l l' (read_in_range s e h) (read_in_range s' e' h') (sym (Listed.wrote w h) ∙ t ∙ Listed.wrote w' h') in
    let r = call_listed w in
    let r' = call_listed w' in
    ((told r.0 r'.0 r.1 r'.1).0, λ e e' h h'. (told e e' h h').1)

-- 4. What equal as maps means. Of two records with distinct names: for every name both lack it, or both have it with values that are equal as maps.
-- Names are distinct in every record that is accepted, and so are an event's stored keys (DistinctNames).
pub maps_by_name : (fs gs : Fields) → DistinctTexts (names fs) → DistinctTexts (names gs)
    → (map_of (fields fs) ≡ map_of (fields gs)) ↔ ((x : List ℕ) → map_if (field_named x fs) ≡ map_if (field_named x gs))
maps_by_name = MapLaws.maps_by_name

-- Of the entries of two events with distinct stored keys: for every key both lack it, or both have it with records and parents that are equal as maps.
pub maps_by_key : (es ds : Entries) → DistinctTexts (stored_keys es) → DistinctTexts (stored_keys ds)
    → (by_key (map_entries es) ≡ by_key (map_entries ds)) ↔ ((k : List ℕ) → entry_keyed k (map_entries es) ≡ entry_keyed k (map_entries ds))
maps_by_key = MapLaws.maps_by_key
