-- Two maps are the same exactly where the same is found in both: by every name in records, by every stored key among entries.
-- Assumes nothing.
use mathlib.Core.Path.{◌≡◌, refl, sym, ap, subst, ◌∙◌}
use mathlib.Core.Logic.{◌↔◌}
use mathlib.Core.Bool.{Bool, true, false, cond}
use mathlib.Core.List.{List, [], ◌∷◌, map}
use Prim.Native.Nat.{ℕ}
use Rattle.std.specs.Prelude.{None, Option, Some, option_map, option_to_list, slice_get}
use Rattle.buffers.specs.Same.{same}
use Rattle.buffers.proofs.Equal.{same_true}
use Rattle.pack.specs.Value.{Value, fields, Fields, no_field, field, names}
use Rattle.sorting.specs.Order.{sort_by, Distinct, of_key}
use Rattle.sorting.proofs.Sorted.{sort_ascends, sort_stable}
use Rattle.sorting.proofs.KeyedLaws.{none_of_key, ascending_same}
use Rattle.entities.specs.Entries.{Entries, no_entry, entry, stored_keys}
use Rattle.entities.specs.Parse.{Entry}
use Rattle.events.specs.Distinct.{DistinctTexts}
use Rattle.events.specs.Line.{field_named}
use Rattle.guarantees.specs.Maps.{Named, named, fields_of, map_of, map_fields, map_if, stored_key, entry_keyed, map_entries, entries_of, by_key}

-- ---- lists sorted by a key

module _ {A : Type 0} (key : A → List ℕ) where
  -- the first element of a key
  abbrev first_keyed : List ℕ → List A → Option A
  first_keyed k xs = slice_get (of_key key k xs) 0

  -- where no key stands twice, there is no other
  one_of_key : (k : List ℕ) (xs : List A) → DistinctTexts (map key xs) → of_key key k xs ≡ option_to_list (first_keyed k xs)
  unfolding of_key Distinct
  one_of_key k [] d = refl
  one_of_key k (x ∷ xs) d = go (one_of_key k xs d.1) (same (key x) k) refl
    where
      go : of_key key k xs ≡ option_to_list (first_keyed k xs) → (t : Bool) → same (key x) k ≡ t
          → cond t (x ∷ of_key key k xs) (of_key key k xs) ≡ option_to_list (slice_get (cond t (x ∷ of_key key k xs) (of_key key k xs)) 0)
      go ih true e = ap (λ (l : List A). x ∷ l) (none_of_key key k xs (rw (← same_true (key x) k e) d.0))
      go ih false e = ih

  -- two lists with distinct keys, sorted and put into a form from which they can be got back, are the same exactly where the same is found in both by every key
  sorted_same : {B : Type 0} (form : List A → B) (back : B → List A) → ((xs : List A) → back (form xs) ≡ xs) → (xs ys : List A)
      → DistinctTexts (map key xs) → DistinctTexts (map key ys) → (form (sort_by key xs) ≡ form (sort_by key ys)) ↔ ((k : List ℕ) → first_keyed k xs ≡ first_keyed k ys)
  sorted_same form back again xs ys d c = (
    (λ e k. ap (λ (l : List A). slice_get l 0)
        (sym (sort_stable key k xs) ∙ ap (of_key key k) (sym (again (sort_by key xs)) ∙ ap back e ∙ again (sort_by key ys)) ∙ sort_stable key k ys)),
    λ h. ap form (ascending_same key (sort_by key xs) (sort_by key ys) (sort_ascends key xs) (sort_ascends key ys)
        (λ k. sort_stable key k xs ∙ one_of_key k xs d ∙ ap option_to_list (h k) ∙ sym (one_of_key k ys c) ∙ sym (sort_stable key k ys))),
  )

-- ---- records as maps by name

abbrev name_of : Named → List ℕ
name_of f = f.name

-- what is found by a name, with the name
abbrev with_name : List ℕ → Option Value → Option Named
with_name x = option_map (λ (v : Value). record { name = x; value = v })

named_found : (x : List ℕ) (fs : Fields) → first_keyed name_of x (named (map_fields fs)) ≡ with_name x (map_if (field_named x fs))
unfolding of_key named map_fields field_named
named_found x no_field = refl
named_found x (field y v fs) = go (named_found x fs) (same y x) refl
  where
    l : List Named
    l = of_key name_of x (named (map_fields fs))

    go : slice_get l 0 ≡ with_name x (map_if (field_named x fs)) → (t : Bool) → same y x ≡ t
        → slice_get (cond t (record { name = y; value = map_of v } ∷ l) l) 0 ≡ with_name x (map_if (cond t (Some v) (field_named x fs)))
    go ih true e = ap (λ (z : List ℕ). with_name z (Some (map_of v))) (same_true y x e)
    go ih false e = ih

value_again : (x : List ℕ) (v : Option Value) → option_map (λ (f : Named). f.value) (with_name x v) ≡ v
value_again x None = refl
value_again x (Some v) = refl

named_again : (fs : List Named) → named (fields_of fs) ≡ fs
unfolding named fields_of
named_again [] = refl
named_again (f ∷ fs) = rw (named_again fs)

names_of_map : (fs : Fields) → names fs ≡ map name_of (named (map_fields fs))
unfolding names named map_fields
names_of_map no_field = refl
names_of_map (field x v fs) = rw (names_of_map fs)

pub maps_by_name : (fs gs : Fields) → DistinctTexts (names fs) → DistinctTexts (names gs)
    → (map_of (fields fs) ≡ map_of (fields gs)) ↔ ((x : List ℕ) → map_if (field_named x fs) ≡ map_if (field_named x gs))
unfolding map_of
maps_by_name fs gs d c =
    let law = sorted_same name_of fields_of named named_again (named (map_fields fs)) (named (map_fields gs))
    (subst DistinctTexts (names_of_map fs) d) (subst DistinctTexts (names_of_map gs) c) in (
      (λ e x. sym (value_again x _) ∙ ap (option_map (λ (f : Named). f.value)) (sym (named_found x fs) ∙ law.0 (cc) x ∙ named_found x gs) ∙ value_again x _),
      λ h. ap fields (law.1 (λ x. named_found x fs ∙ ap (with_name x) (h x) ∙ sym (named_found x gs))),
    )

-- ---- entries as maps by stored key

unfoldable entry_list : Entries → List Entry
entry_list no_entry = []
entry_list (entry ty id fs ps es) = record { key = record { type = ty; id = id }; attributes = fs; parents = ps } ∷ entry_list es

entries_again : (es : List Entry) → entry_list (entries_of es) ≡ es
unfolding entry_list entries_of
entries_again [] = refl
entries_again (e ∷ es) = rw (entries_again es)

keys_of_map : (es : Entries) → stored_keys es ≡ map stored_key (map_entries es)
unfolding stored_keys map_entries
keys_of_map no_entry = refl
keys_of_map (entry ty id fs ps es) = rw (keys_of_map es)

pub maps_by_key : (es ds : Entries) → DistinctTexts (stored_keys es) → DistinctTexts (stored_keys ds)
    → (by_key (map_entries es) ≡ by_key (map_entries ds)) ↔ ((k : List ℕ) → entry_keyed k (map_entries es) ≡ entry_keyed k (map_entries ds))
maps_by_key es ds d c =
    sorted_same stored_key entries_of entry_list entries_again (map_entries es) (map_entries ds) (subst DistinctTexts (keys_of_map es) d) (subst DistinctTexts (keys_of_map ds) c)
